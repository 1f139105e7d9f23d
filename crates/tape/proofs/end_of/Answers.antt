use Rattle.std.proofs.Common.{Some, ◌+◌, ap, ◌∙◌, arith}
use Rattle.tape.proofs.Laws.{cut_short, cut-long, stands, end-cut, end_whole}
use Rattle.tape.proofs.end_of.Goals as goal

pub returns-then-tape-at-clause-value : goal.returns-then-tape-at-clause-value
returns-then-tape-at-clause-value c = end-cut _ _ (cut_short _ _ (omega arith))

pub returns-then-left-lt4-clause-value : goal.returns-then-left-lt4-clause-value
returns-then-left-lt4-clause-value c = end-cut _ _ (cut_short _ _ (omega arith))

pub returns-then-left-size-clause-value : goal.returns-then-left-size-clause-value
returns-then-left-size-clause-value c = end-cut _ _ (cut-long c.args.tape.now c.args.at (omega arith) (omega arith))

pub returns-clause-value : goal.returns-clause-value
returns-clause-value c = ap (λ n. Some (c.args.at + (4 + n))) c.read_u32-size.ensures.0 ∙ end_whole _ _ (stands c.args.tape.now c.args.at (omega arith))
