use Rattle.std.proofs.Common.{◌≡◌, ℕ, ◌+◌, sym, ap, ◌∙◌, arith}
use Rattle.schema.specs.Table.{schema}
use Rattle.message.specs.Walk.{walk}
use Rattle.message.specs.Count.{count}
use Rattle.message.specs.Check.{after, inner_of}
use Rattle.message.proofs.CheckAnswers.{exits, check-refuses, check-accepts, check-stops, goes_on}
use Rattle.message.proofs.CheckGroups.{message-short, message-other, message-group}
use Rattle.message.proofs.check_sized.Goals.{After-check_group, then-message-lt4-via-then-message-lt4, then-message-lt4-via-else-message-lt4+then-message-read_u32}
use Rattle.message.proofs.check_sized.Goals as goal

begun : (c : After-check_group) → after 0 (count (walk c.args.ignored (schema c.args.table.now) c.args.message.now)) ≡ after 2 (count (inner_of c.args.ignored c.args.table.now 8 0 0 c.args.message.now))
begun c = goes_on 0 2 2 _ _ (message-group _ (schema c.args.table.now) c.args.message.now c.if-message-lt4.false (c.if-message-read_u32.false ∙ ap (λ (n : ℕ). 4 + n) c.read_u32.ensures.0)) (omega arith)

pub returns-then-message-lt4 : goal.returns-then-message-lt4
returns-then-message-lt4 c = let a = c.args in elim c.then-message-lt4.branch [
  | then-message-lt4-via-then-message-lt4 w ↦ check-refuses _ _ _ (message-short _ (schema a.table.now) a.message.now w.if-message-lt4.true)
  | then-message-lt4-via-else-message-lt4+then-message-read_u32 w ↦ check-refuses _ _ _ (message-other _ (schema a.table.now) a.message.now w.if-message-lt4.false (λ z. w.if-message-read_u32.true (z ∙ ap (λ (n : ℕ). 4 + n) (sym w.read_u32.ensures.0))))
]

pub returns-in_err-group : goal.returns-in_err-group
returns-in_err-group c = rw (exits _ _ c.from_residual.ensures.1) (check-stops _ _ _ (rw (c.rules_of.ensures.0, c.rules_of.ensures.1) at c.in_err-group.ensures ∙ sym (begun (goal.at.returns-in_err-group c).After-check_group)))

pub returns : goal.returns
returns c = check-accepts _ _ _ (rw (c.rules_of.ensures.0, c.rules_of.ensures.1) at c.in_ok-group.ensures ∙ sym (begun (goal.at.returns c).After-check_group))
