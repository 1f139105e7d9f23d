use mathlib.Core.Path.{sym, ◌∙◌}
use native.Mathlib.Omega.{arith}
use Rattle.values.proofs.Texts.{read, behind, before-end, stays}
use Rattle.values.proofs.characters.piece_at.Goals as goal

pub returns-then-text-at-clause-value : goal.returns-then-text-at-clause-value
returns-then-text-at-clause-value c = sym (behind c.args.text.now c.args.at c.if-text-at.true)

pub returns-clause-value : goal.returns-clause-value
returns-clause-value c = let s = c.args.text.now in
    read s c.args.at _ (omega arith) c.piece_of.ensures c.byte_at.ensures c.byte_at-2.ensures c.byte_at-3.ensures c.byte_at-4.ensures ∙ sym (before-end s c.args.at c.if-text-at.false)

pub returns-clause-stays : goal.returns-clause-stays
returns-clause-stays c = let s = c.args.text.now in
    stays s c.args.at c.if-text-at.false _ (read s c.args.at _ (omega arith) c.piece_of.ensures c.byte_at.ensures c.byte_at-2.ensures c.byte_at-3.ensures c.byte_at-4.ensures)
