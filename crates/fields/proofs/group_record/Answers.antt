use Rattle.fields.proofs.Laws.{group-is, group-known, group-unknown}
use Rattle.fields.proofs.group_record.Goals as goal

pub returns-then-group-total : goal.returns-then-group-total
returns-then-group-total c = let n = c.group_total-total.ensures.0 in let f = c.find-group.ensures.0 in
    rw (group-known _ _ c.requires _ _ _ n f c.if-group-total.true, c.group_place.ensures.0, group-is _ _ c.requires _ _ _ n f)

pub returns-else-group-total : goal.returns-else-group-total
returns-else-group-total c = rw (group-unknown _ _ c.requires _ _ _ c.group_total-total.ensures.0 c.find-group.ensures.0 c.if-group-total.false)
