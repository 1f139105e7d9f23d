use Rattle.schema.specs.declared.Fault.{Fault}
use Rattle.std.proofs.Common.{Result, ◌≡◌, ◌+◌, [], refl, sym, ap, length, ◌∙◌, arith}
use Rattle.reading.specs.declared.Part.{Part}
use Rattle.reading.specs.Part.{bytes_in, start_of}
use Rattle.opening.specs.Opening.{under}
use Rattle.codec.proofs.Laws.{part-read, part-refused}
use Rattle.codec.proofs.read_bytes.Goals as goal

pub returns-in_default : goal.returns-in_default
unfolding bytes_in start_of
returns-in_default c =
    let a = c.args in
    let o = c.open_message.ensures in
    let e = part-refused a.table.now a.message.now (under a.store.now a.customer (length a.scratch.now)) a.field a.item _ _ (o.opened.refuses _ c.in_default.is) in
    let z : 0 + a.message.ref_ptr.1 ≡ a.message.ref_ptr.1 + 0 = omega arith in
    record { what = sym (ap (bytes_in a.message.now) e); block = refl; offset = z ∙ sym (ap (λ (q : Result Part Fault). a.message.ref_ptr.1 + start_of q) e); scratch_after = o.scratch_after }

pub read_bytes-requires : goal.read_bytes-requires
read_bytes-requires c = let K = c.open_message.ensures.opened.opens _ c.in-Ok.is in (K.layout, (K.sheet, [], K.walks))

pub returns : goal.returns
returns c =
    let a = c.args in
    let o = c.open_message.ensures in
    let r = c.read_bytes.ensures in
    let e = part-read a.table.now a.message.now (under a.store.now a.customer (length a.scratch.now)) a.field a.item _ _ (o.opened.opens _ c.in-Ok.is).means in
    record { what = r.what ∙ sym (ap (bytes_in a.message.now) e); block = r.block; offset = r.offset ∙ sym (ap (λ (q : Result Part Fault). a.message.ref_ptr.1 + start_of q) e); scratch_after = o.scratch_after }
