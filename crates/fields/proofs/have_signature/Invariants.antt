use Rattle.std.proofs.Common.{◌≡◌, ℕ, List, ◌*◌, length, drop}
use Rattle.wire.specs.Bytes.{same}
use Rattle.schema.specs.Table.{fields_at}
use Rattle.fields.specs.Fields.{signature_of}
use Rattle.fields.proofs.Laws.{Left}
use Rattle.fields.proofs.have_signature.Given as goal

abbrev pub invariant-loop-i : goal.invariant-loop-i
invariant-loop-i l = (length l.signature ≡ 3 * l.count) × ((es : List (List ℕ)) → same (signature_of (fields_at es l.count (drop l.row l.table))) l.signature ≡ Left es l.table l.signature l.row l.count l.i)
