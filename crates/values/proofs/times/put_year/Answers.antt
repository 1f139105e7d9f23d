use native.Mathlib.Omega.{arith}
use mir.Syntax.{w64}
use Rattle.std.proofs.lemmas.Int.{to_z-of_z}
use Rattle.values.proofs.Rooms.{places-most, wrote_then, wrote-text}
use Rattle.values.proofs.Names.{year-four, year-more, year-before}
use Rattle.values.proofs.times.put_year.Goals as goal

pub padded-requires : goal.padded-requires
padded-requires c = let p = places-most 4 c.unsigned_abs-size.result (omega arith) (omega arith) in omega (arith, c.mark-at.ensures.next, c.mark-at.ensures.kept)

pub returns-then-year-lt0 : goal.returns-then-year-lt0
returns-then-year-lt0 c = let p = places-most 4 c.unsigned_abs-size.result (omega arith) (omega arith) in
    let e = to_z-of_z w64 c.args.year c.ranges.year in
    let n = rw e at c.unsigned_abs-size.ensures.value in
    let m = c.mark-at.ensures in
    let d = c.padded.ensures in
    (omega (arith, m.next, d.next), wrote-text _ (wrote_then m d (omega (arith, m.next, d.next))) (rw n (year-before c.args.year (rw e at c.if-year-lt0.true))))

pub padded-requires-then-size-ge10000 : goal.padded-requires-then-size-ge10000
padded-requires-then-size-ge10000 c = let p = places-most 4 c.unsigned_abs-size.result (omega arith) (omega arith) in
    omega (arith, c.mark-at-then-size-ge10000.ensures.next, c.mark-at-then-size-ge10000.ensures.kept)

pub returns-then-size-ge10000 : goal.returns-then-size-ge10000
returns-then-size-ge10000 c = let p = places-most 4 c.unsigned_abs-size.result (omega arith) (omega arith) in
    let e = to_z-of_z w64 c.args.year c.ranges.year in
    let n = rw e at c.unsigned_abs-size.ensures.value in
    let m = c.mark-at-then-size-ge10000.ensures in
    let d = c.padded-then-size-ge10000.ensures in
    (omega (arith, m.next, d.next), wrote-text _ (wrote_then m d (omega (arith, m.next, d.next))) (rw n (year-more c.args.year (rw e at c.if-year-lt0.false) (omega arith))))

pub returns : goal.returns
returns c = let e = to_z-of_z w64 c.args.year c.ranges.year in
    let n = rw e at c.unsigned_abs-size.ensures.value in
    (omega (arith, c.digits.ensures.next), wrote-text _ c.digits.ensures (rw n (year-four c.args.year (rw e at c.if-year-lt0.false) (omega arith))))
