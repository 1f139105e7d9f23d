use Prim.Native.Nat.{◌+◌, ◌≤◌}
use mathlib.Core.Path.{refl, ap}
use native.Mathlib.Omega.{arith}
use lib.ListN.{length}
use Rattle.message.specs.Sheet.{GB, mark_bytes}
use Rattle.sheet.specs.Show.{whole, just, group_of}
use Rattle.sheet.proofs.ShowLaws.{begun, first_fits, called, shown-mark, shown-then, mark-room}
use Rattle.sheet.proofs.ShowReaders.{is-GB, walk-done, walk-fits, one-sheet}
use Rattle.sheet.proofs.write_sheet.Goals as goal

pub show_mark-next-requires : goal.show_mark-next-requires
show_mark-next-requires c = let a = c.args in let R = c.requires in mark-room GB 0 a.sheet.now (first_fits _ _ _ (just (mark_bytes GB)) (whole a.table.now 8 0 a.message.now) _ _ (begun _ _ _ (walk-fits a.table.now a.message.now _ _ a.sheet.now R.2.2 R.2.3)))

pub show_group-requires : goal.show_group-requires
unfolding group_of
show_group-requires c = let a = c.args in let R = c.requires in
    let L = begun _ _ _ (walk-fits a.table.now a.message.now _ _ a.sheet.now R.2.2 R.2.3) in
    (R.0, R.1, (refl, refl), (called _ _ _ (just (mark_bytes GB)) (whole a.table.now 8 0 a.message.now) _ _ L _ _ (shown-mark GB _ is-GB _ _ _ _ c.show_mark-next.ensures.0 c.show_mark-next.ensures.1)).fits)

pub returns : goal.returns
unfolding group_of
returns c = let a = c.args in let R = c.requires in
    let v = shown-then _ _ _ _ _ _ _ _ (shown-mark GB _ is-GB _ _ _ _ c.show_mark-next.ensures.0 c.show_mark-next.ensures.1) c.show_group.ensures in
    λ s m e.
    let r = walk-done a.table.now a.message.now s m e in
    let h : 0 + length s ≤ length a.sheet.now = omega (arith, ap length (one-sheet _ _ _ _ _ e R.2.2), R.2.3) in
    (v.bytes s r h, omega (arith, v.ends s r h))
