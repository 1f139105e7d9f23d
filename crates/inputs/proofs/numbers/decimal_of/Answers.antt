use Rattle.std.proofs.Common.{◌∙◌}
use Rattle.inputs.proofs.Laws.{number-not_text, number-plus, number-parsed}
use Rattle.inputs.proofs.numbers.decimal_of.Goals as goal

pub returns-in_default : goal.returns-in_default
returns-in_default c = number-not_text _ c.in_default.ensures.cases.0

pub returns-then-starts_with : goal.returns-then-starts_with
returns-then-starts_with c = number-plus _ _ c.starts_with.ensures.value c.if-starts_with.true

pub returns : goal.returns
returns c =
    let p = rw c.in-Ok.ensures.cases.0 at c.parse.ensures.value.0 in
    c.ok.ensures.value ∙ number-parsed _ _ c.starts_with.ensures.value c.if-starts_with.false _ p
