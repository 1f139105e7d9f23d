use native.Mathlib.Nat.{add-sub_cancel_left}
use Rattle.std.proofs.Common.{refl, sym, ◌∙◌, arith}
use Rattle.reading.proofs.Found.{part-inside, bytes-none, bytes-some, start_none, start-some}
use Rattle.reading.proofs.read_bytes.Goals as goal

pub returns-in_default : goal.returns-in_default
returns-in_default c =
    let a = c.args in
    let e = sym c.in_default.is ∙ c.find_part.ensures in record { what = bytes-none a.message.now _ _ e; block = refl; offset = start_none a.message.now _ _ _ e }

pub overflow_add-result : goal.overflow_add-result
overflow_add-result c =
    let a = c.args in
    let l = part-inside _ a.table.now a.message.now c.requires.1 a.field a.item _ c.find_part.ensures _ _ c.in-Ok.is in omega (arith, l)

pub slice_bounds-result-end-2 : goal.slice_bounds-result-end-2
slice_bounds-result-end-2 c =
    let a = c.args in
    let l = part-inside _ a.table.now a.message.now c.requires.1 a.field a.item _ c.find_part.ensures _ _ c.in-Ok.is in omega (arith, l)

pub returns : goal.returns
returns c =
    let a = c.args in
    let e = sym c.in-Ok.is ∙ c.find_part.ensures in record { what = simp add-sub_cancel_left (bytes-some a.message.now _ _ _ e); block = refl; offset = start-some a.message.now _ _ _ _ e }
