use Rattle.std.proofs.Common.{◌≡◌, refl, ◌∙◌, ◌+◌, length, arith, rules, drop}
use Rattle.std.proofs.lemmas.Iterator.{YieldsList-from_range}
use Rattle.std.proofs.lemmas.Iterator.Search.{any_from_yields_List}
use lib.Dec.{eqb}
use Rattle.schema.specs.Table.{id_flag, schema}
use Rattle.schema.specs.Layout.{group_place}
use Rattle.table.proofs.Groups.{any-listed}
use Rattle.table.proofs.any_id.Goals as goal

pub returns : goal.returns
returns c =
    let t = c.args.table.now in
    let k = c.args.index.now in
    let n = c.group_total.result in
    let all : 0 + n ≡ length (schema t) = omega (arith, c.group_total.ensures.0, c.requires.total) in
    let y = YieldsList-from_range 0 n n refl (omega arith) in
    any_from_yields_List (λ g. eqb (id_flag (drop (group_place k g) t)) 1) _ _ _ c.any.ensures.ran y (λ x b q e. search rules) ∙ any-listed t k c.requires n 0 all
