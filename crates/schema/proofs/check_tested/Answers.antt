use Rattle.std.proofs.Common.{[], get_or, drop, ap, ◌∙◌, arith, le-ltb}
use Rattle.schema.specs.Schema.{kind_width, flag, below, symbol}
use Rattle.schema.specs.Table.{enums}
use Rattle.schema.specs.FieldKinds.{tested_kind}
use Rattle.schema.proofs.Types.{accepted, refused, judge-flag, judge-below, judge-symbol, judge-past}
use Rattle.schema.proofs.check_tested.Goals as goal
use Rattle.schema.proofs.check_tested.Goals.{in-Flag, in-Millis, in-Nanos, in-Symbol+then-list-lt64, in-Symbol+else-list-lt64}

pub bounds-bytes-at : goal.bounds-bytes-at
unfolding kind_width tested_kind
bounds-bytes-at c = omega (arith, rw c.in-Flag.is at c.requires.1)

pub read_u32-requires : goal.read_u32-requires
unfolding kind_width tested_kind
read_u32-requires c = rw c.in-Millis.is at c.requires.1

pub read_u64-requires : goal.read_u64-requires
unfolding kind_width tested_kind
read_u64-requires c = rw c.in-Nanos.is at c.requires.1

pub read_u32-requires-then-list-lt64 : goal.read_u32-requires-then-list-lt64
unfolding kind_width tested_kind
read_u32-requires-then-list-lt64 c = rw c.in-Symbol.is at c.requires.1

pub returns-then-passes : goal.returns-then-passes
unfolding kind_width tested_kind
returns-then-passes c = let a = c.args in let s = drop a.at a.bytes.now in let e = enums a.table.now in elim c.match-tested.branch [
  | in-Flag w ↦ rw w.in-Flag.is (accepted 1 flag s a.place _ (w.passes-is ∙ judge-flag a.bytes.now a.at (rw w.in-Flag.is at c.requires.1)) c.if-passes.true)
  | in-Millis w ↦ rw w.in-Millis.is (accepted 4 (below 86400000) s a.place _ (w.passes-is ∙ judge-below 4 _ _ s w.read_u32.ensures.0) c.if-passes.true)
  | in-Nanos w ↦ rw w.in-Nanos.is (accepted 8 (below 86400000000000) s a.place _ (w.passes-is ∙ judge-below 8 _ _ s w.read_u64.ensures) c.if-passes.true)
  | in-Symbol+then-list-lt64 w ↦ rw w.in-Symbol.is (accepted 4 (symbol (get_or e w.in-Symbol.list [])) s a.place _ (w.passes-is ∙ judge-symbol _ s _ (rw w.read_u32-then-list-lt64.ensures.0 at w.has_symbol.ensures)) c.if-passes.true)
  | in-Symbol+else-list-lt64 w ↦ rw w.in-Symbol.is (accepted 4 (symbol (get_or e w.in-Symbol.list [])) s a.place _ (w.passes-is ∙ rw (le-ltb _ _ w.if-list-lt64.false) (judge-past e _ s (omega (arith, c.requires.0.lists, w.if-list-lt64.false)))) c.if-passes.true)
]

pub returns-else-passes : goal.returns-else-passes
unfolding kind_width tested_kind
returns-else-passes c = let a = c.args in let s = drop a.at a.bytes.now in let e = enums a.table.now in elim c.match-tested.branch [
  | in-Flag w ↦ rw w.in-Flag.is (refused 1 flag s a.place _ (w.passes-is ∙ judge-flag a.bytes.now a.at (rw w.in-Flag.is at c.requires.1)) 10 c.if-passes.false (ap (λ j. j.1) w.passes-is))
  | in-Millis w ↦ rw w.in-Millis.is (refused 4 (below 86400000) s a.place _ (w.passes-is ∙ judge-below 4 _ _ s w.read_u32.ensures.0) 11 c.if-passes.false (ap (λ j. j.1) w.passes-is))
  | in-Nanos w ↦ rw w.in-Nanos.is (refused 8 (below 86400000000000) s a.place _ (w.passes-is ∙ judge-below 8 _ _ s w.read_u64.ensures) 11 c.if-passes.false (ap (λ j. j.1) w.passes-is))
  | in-Symbol+then-list-lt64 w ↦ rw w.in-Symbol.is (refused 4 (symbol (get_or e w.in-Symbol.list [])) s a.place _ (w.passes-is ∙ judge-symbol _ s _ (rw w.read_u32-then-list-lt64.ensures.0 at w.has_symbol.ensures)) 9 c.if-passes.false (ap (λ j. j.1) w.passes-is))
  | in-Symbol+else-list-lt64 w ↦ rw w.in-Symbol.is (refused 4 (symbol (get_or e w.in-Symbol.list [])) s a.place _ (w.passes-is ∙ rw (le-ltb _ _ w.if-list-lt64.false) (judge-past e _ s (omega (arith, c.requires.0.lists, w.if-list-lt64.false)))) 9 c.if-passes.false (ap (λ j. j.1) w.passes-is))
]
