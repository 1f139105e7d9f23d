use Rattle.std.proofs.Common.{Ok, Some, sym, ◌∙◌, arith}
use Rattle.reading.proofs.Found.{message-long}
use Rattle.codec.proofs.Laws.{other-type, other-fields, front-is}
use Rattle.codec.proofs.front_of.Goals as goal

pub read_u64-requires : goal.read_u64-requires
read_u64-requires c = let l = message-long _ _ _ _ c.requires.0 c.requires.1 in omega (arith, l)

pub returns-then-read_u64-id : goal.returns-then-read_u64-id
returns-then-read_u64-id c = other-type _ _ _ _ _ c.read_u64.ensures c.if-read_u64-id.true

pub returns-then-not-has_fields_under : goal.returns-then-not-has_fields_under
returns-then-not-has_fields_under c = other-fields _ _ _ _ _ c.read_u64.ensures (sym c.has_fields_under.ensures ∙ c.if-not-has_fields_under.true)

pub returns : goal.returns
returns c = (λ i. Ok (Some (record { first = c.find_part.ensures i; second = c.read_number.ensures i; third = c.read_number-2.ensures i; fourth = c.read_number-3.ensures i }))) ∙ front-is _ _ _ _ _ c.read_u64.ensures c.if-read_u64-id.false (sym c.has_fields_under.ensures ∙ c.if-not-has_fields_under.false)
