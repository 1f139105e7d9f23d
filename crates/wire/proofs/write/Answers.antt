use mathlib.Core.Path.{◌≡◌, ap, ◌∙◌}
use native.Mathlib.Nat.{add-sub_cancel_left}
use lib.ListN.{take}
use Rattle.wire.specs.Bytes.{bytes_of}
use Rattle.wire.proofs.Numbers.{bytes-first}
use Rattle.wire.proofs.write.Goals as goal

pub returns : goal.returns
returns g c =
    let n = g.row.N in
    let e : c.copy_from_slice.new.self ≡ bytes_of n c.args.value = c.copy_from_slice.ensures.after ∙ ap (take n) c.to_le_bytes-bytes.ensures ∙ bytes-first n c.args.value c.requires.0 in
    rw (add-sub_cancel_left, e)
