-- A table's two forms (document 02, request 8): its groups are `GR` or `GW`.
use Rattle.std.specs.Prelude.{◌≡◌, ℕ, zero, suc, cond, List, ◌++◌, take, drop, replicate}
use Rattle.wire.specs.Bytes.{part}
use Rattle.schema.specs.Table.{GR, GW, marked, record_count}

-- "A new group record, mark `GW`, is `GR` with the width in bytes 14-15": so without it, it is that `GR`. Any other record stays.
unfoldable pub plain_record : List ℕ → List ℕ
plain_record t = cond (marked GW t) (GR ++ (part 12 2 t ++ replicate 2 0)) (take 16 t)

-- The next n records, and what follows.
unfoldable pub plain_from : ℕ → List ℕ → List ℕ
plain_from zero t = t
plain_from (suc n) t = plain_record t ++ plain_from n (drop 16 t)

unfoldable pub to_gr : List ℕ → List ℕ
to_gr t = plain_from (record_count t) t

-- "two .. tables, `GR` and `GW`, alike but for marks and widths"
abbrev pub Alike : List ℕ → List ℕ → Type 0
Alike t u = to_gr t ≡ to_gr u
