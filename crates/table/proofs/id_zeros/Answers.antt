use Rattle.std.proofs.Common.{◌≡◌, true, sym, ◌∙◌, lt-ltb, drop}
use lib.Dec.{ltb}
use Rattle.wire.specs.Bytes.{part}
use Rattle.schema.specs.Table.{id_flag}
use Rattle.schema.proofs.Records.{byte_at}
use Rattle.table.proofs.Laws.{zero-le}
use Rattle.table.proofs.id_zeros.Goals as goal

pub returns-else-has_id : goal.returns-else-has_id
returns-else-has_id c =
    let a = c.args in
    let t = drop a.p a.table.now in
    let flag : ltb (id_flag t) 2 ≡ true = rw (byte_at a.table.now a.p 10) (lt-ltb _ _ c.if-table-p-lt2.true) in
    let none = sym c.has_id.ensures ∙ c.if-has_id.false in
    rw (flag, none, zero-le (part 8 2 t), c.type_id.ensures)
