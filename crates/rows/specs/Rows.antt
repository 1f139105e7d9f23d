-- Where an accepted table has its groups' records.
use Rattle.std.specs.Prelude.{List, ℕ, length, get_or}
use Rattle.schema.specs.Schema.{find}
use Rattle.schema.specs.Table.{schema, places}

-- The place of the record of group number g, and of the group with this type id; the end of the table where there is none.
unfoldable pub place_of : List ℕ → ℕ → ℕ
place_of t g = get_or (places t) g (length t)

unfoldable pub place_named : List ℕ → ℕ → ℕ
place_named t id = place_of t (find (schema t) id)
