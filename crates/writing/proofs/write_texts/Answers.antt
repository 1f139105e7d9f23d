use Prim.Native.Nat.{◌+◌}
use native.Mathlib.Omega.{arith}
use Rattle.message.specs.Sheet.{ST}
use Rattle.sheet.specs.Written.{indirect_w, text_b}
use Rattle.sheet.proofs.Widths.{wides-indirect, wides-marked}
use Rattle.writing.proofs.Writers.{marked-inside, record-text, text-room, text-stands}
use Rattle.writing.proofs.Loops.{items-start, item-fits, item-room, items-next, items-done}
use Rattle.writing.proofs.write_texts.Goals as goal

pub loop-init : goal.loop-init
loop-init c = λ u f. items-start f

pub overflow_add-ends : goal.overflow_add-ends
overflow_add-ends c = let l = c.loop in let R = c.requires in
    omega (arith, marked-inside ST (indirect_w (text_b R.0)) l.place l.ends.free l.ends.pos c.args.sheet.now _ (item-fits (l.invariant R.0 R.1) c.loop-test.true))

pub write_text-ends-requires : goal.write_text-ends-requires
write_text-ends-requires c = let s = c.args.sheet.now in let l = c.loop in let R = c.requires in let x = record-text R.0 l.place l.ends.free l.ends.pos s in
    text-room _ x.0 x.1 l.place l.ends.free (l.ends.pos + 2) s _ x.2 (item-fits (l.invariant R.0 R.1) c.loop-test.true)

pub overflow_add-place : goal.overflow_add-place
overflow_add-place c = let R = c.requires in omega (arith, item-room (c.loop.invariant R.0 R.1) c.loop-test.true (wides-marked ST 4 _ (wides-indirect _)))

pub loop-preserved : goal.loop-preserved
loop-preserved c = let s = c.args.sheet.now in let l = c.loop in let v = c.write_text-ends.ensures in
    λ u f. let x = record-text u l.place l.ends.free l.ends.pos s in let L = l.invariant u f in
    items-next L c.loop-test.true (wides-marked ST 4 _ (wides-indirect _)) (text-stands _ x.0 x.1 l.place l.ends.free (l.ends.pos + 2) s _ x.2 (item-fits L c.loop-test.true) _ _ _ v.0 v.1 v.2)

pub returns : goal.returns
returns c = λ u f. items-done (c.loop.invariant u f) c.loop-test.false
