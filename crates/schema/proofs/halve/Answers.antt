use Rattle.std.proofs.Common.{eq-eqb, ne_eqb, le-ltb, lt-ltb}
use Rattle.schema.specs.Symbols.{halve}
use Rattle.schema.proofs.halve.Goals as goal
use Rattle.schema.proofs.halve.Goals.{then-symbol-value, else-symbol-value}

pub returns-then-rank : goal.returns-then-rank
unfolding halve
returns-then-rank c = elim c.if-symbol-value.branch [
  | then-symbol-value w ↦ rw (w.result-is, ← c.symbol_at-symbol.ensures, ← c.rank.ensures, ← c.rank-2.ensures, eq-eqb _ _ w.if-symbol-value.true, lt-ltb _ _ c.if-rank.true)
  | else-symbol-value w ↦ rw (w.result-is, ← c.symbol_at-symbol.ensures, ← c.rank.ensures, ← c.rank-2.ensures, ne_eqb _ _ w.if-symbol-value.false, lt-ltb _ _ c.if-rank.true)
]

pub returns-else-rank : goal.returns-else-rank
unfolding halve
returns-else-rank c = elim c.if-symbol-value.branch [
  | then-symbol-value w ↦ rw (w.result-is, ← c.symbol_at-symbol.ensures, ← c.rank.ensures, ← c.rank-2.ensures, eq-eqb _ _ w.if-symbol-value.true, le-ltb _ _ c.if-rank.false)
  | else-symbol-value w ↦ rw (w.result-is, ← c.symbol_at-symbol.ensures, ← c.rank.ensures, ← c.rank-2.ensures, ne_eqb _ _ w.if-symbol-value.false, le-ltb _ _ c.if-rank.false)
]
