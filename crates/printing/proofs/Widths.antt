-- No number has more than nine bytes.
use Rattle.std.proofs.Common.{ℕ, ◌≤◌, ◌<◌, length, get_or, arith}
use Rattle.std.specs.List.{All}
use Rattle.std.proofs.lemmas.Grind.{common_steps}
use Rattle.std.proofs.lemmas.List.Elements.{All-get_or}
use Rattle.std.proofs.lemmas.List.{get_or_past}
use borrow.Author.Rules.{rules}
use Rattle.schema.specs.Table.{scalar_width, scalar_widths}
use Rattle.reading.specs.Number.{number_width}

small : All (λ w. w ≤ 9) scalar_widths
small = search rules

pub at_most_nine : (t : ℕ) → number_width t ≤ 9
unfolding number_width scalar_width
at_most_nine t =
    let inside : t < length scalar_widths → get_or scalar_widths t 4 ≤ 9 = λ h. All-get_or (λ w. w ≤ 9) scalar_widths t 4 h small in
    grind (arith, common_steps, inside, get_or_past scalar_widths t 4)
