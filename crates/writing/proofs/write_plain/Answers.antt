use Prim.Native.Nat.{◌+◌, ◌≤◌}
use mathlib.Core.Path.{refl}
use native.Mathlib.Omega.{arith}
use lib.ListN.{length}
use Rattle.schema.specs.Schema.{any}
use Rattle.message.specs.Sheet.{VA}
use Rattle.sheet.proofs.Widths.{wides-plain, wides-marked}
use Rattle.writing.proofs.Writers.{record-room, record-stands}
use Rattle.writing.proofs.Loops.{items-start, item-fits, items-next, items-done}
use Rattle.writing.proofs.write_plain.Goals as goal
use Rattle.writing.proofs.write_plain.Goals.{In-loop}

plain-inside : (c : In-loop) → let a = c.args in let l = c.loop in
    (l.next + 2 ≤ length a.sheet.now) × (l.next + 2 + a.width ≤ length a.sheet.now) × (l.place + a.width ≤ length l.out)
plain-inside c = let a = c.args in let l = c.loop in let R = c.requires in record-room _ VA a.width any l.place R.0 l.next a.sheet.now _ refl (item-fits (l.invariant R.0 R.1) c.loop-test.true)

pub loop-init : goal.loop-init
loop-init c = λ free f. items-start f

pub overflow_add-next : goal.overflow_add-next
overflow_add-next c = omega (arith, (plain-inside (goal.at.overflow_add-next c).In-loop).0)

pub write_bytes-next-requires : goal.write_bytes-next-requires
write_bytes-next-requires c = let r = plain-inside (goal.at.write_bytes-next-requires c).In-loop in (r.1, r.2)

pub overflow_add-place : goal.overflow_add-place
overflow_add-place c = omega (arith, (plain-inside (goal.at.overflow_add-place c).In-loop).2)

pub loop-preserved : goal.loop-preserved
loop-preserved c = let a = c.args in let l = c.loop in let v = c.write_bytes-next.ensures in
    λ free f. let L = l.invariant free f in
    items-next L c.loop-test.true (wides-marked VA a.width _ (wides-plain a.width any)) (record-stands _ VA a.width any l.place free l.next a.sheet.now _ refl (item-fits L c.loop-test.true) _ _ v.0 v.1)

pub returns : goal.returns
returns c = λ free f. items-done (c.loop.invariant free f) c.loop-test.false
