use Rattle.std.proofs.Common.{◌∙◌, arith}
use Rattle.schema.proofs.Symbols.{symbol-inside, symbol-stands}
use Rattle.schema.proofs.symbol_at.Goals as goal

pub symbol_value-requires : goal.symbol_value-requires
symbol_value-requires c = let a = c.args in let p = c.requires in omega (arith, symbol-inside _ _ p.0 a.list p.1 a.i p.2, c.symbol_place.ensures.0)

pub returns : goal.returns
returns c =
    let a = c.args in
    let p = c.requires in
    c.symbol_value.ensures ∙ rw c.symbol_place.ensures.0 (symbol-stands a.table.now _ p.0 a.list p.1 a.i p.2)
