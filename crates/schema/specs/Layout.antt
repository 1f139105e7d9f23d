-- What the code holds of an accepted table, so that no walk reads the table's records in order again.
use Rattle.std.specs.Prelude.{◌≡◌, ℕ, ◌+◌, ◌*◌, ◌<◌, ◌≤◌, true, cond, List, [], ◌∷◌, length, drop, nat_lt, slice_index, slice_index_or}
use Rattle.schema.specs.Schema.{super_of, width, shallow}
use Rattle.schema.specs.Symbols.{Ordered}
use Rattle.schema.specs.Table.{GW, marked, field_count, stored_width, values_at, group_at, enums, schema}

-- The index: 0.. the places of the groups' records, 64.. the groups' widths, 128.. the places of the enumerations' first symbols,
-- 192.. how many symbols they have, 256.. the groups' levels (static depth plus one, which only the table's check reads), 320 how many groups and
-- 321 how many enumerations there are.
abbrev pub group_place : List ℕ → ℕ → ℕ
group_place k g = slice_index k g

abbrev pub symbol_place : List ℕ → ℕ → ℕ
symbol_place k e = slice_index k (128 + e)

abbrev pub symbol_total : List ℕ → ℕ → ℕ
symbol_total k e = slice_index k (192 + e)

abbrev pub group_total : List ℕ → ℕ
group_total k = slice_index k 320

abbrev pub enum_total : List ℕ → ℕ
enum_total k = slice_index k 321

-- The width of a static group, as the index has it; a number past the last group is that of none.
unfoldable pub width_in : List ℕ → ℕ → ℕ
width_in k g = cond (nat_lt g 64) (slice_index k (64 + g)) 0

-- The first n groups' records stand where the index k of the table t says, with their fields' records behind them.
pub record Placed (t k : List ℕ) (n : ℕ) : Type 0 where
  pub group : (g : ℕ) → g < n → drop g (schema t) ≡ group_at (enums t) (drop (group_place k g) t) ∷ drop (g + 1) (schema t)
  pub inside : (g : ℕ) → g < n → group_place k g + 16 + 16 * field_count (drop (group_place k g) t) ≤ length t

-- k is the index of the accepted table t.
pub record Layout (t k : List ℕ) : Type 0 where
  pub long : length k ≡ 322
  pub small : length t ≤ 65536
  pub few : length (schema t) ≤ 64
  pub total : group_total k ≡ length (schema t)
  pub placed : Placed t k (length (schema t))
  pub wide : (d g : ℕ) → shallow (schema t) d g ≡ true → width_in k g ≡ width (schema t) d g
  -- Document 02, request 8: "Once the table passes, message checks use the stored number."
  pub stored : (g : ℕ) → g < length (schema t) → marked GW (drop (group_place k g) t) ≡ true → width_in k g ≡ stored_width (drop (group_place k g) t)
  pub narrow : (g : ℕ) → width_in k g ≤ 4096
  pub shallows : (g : ℕ) → shallow (schema t) 5 g ≡ true
  pub symbols : (e : ℕ) → e < 64 → slice_index_or (enums t) e [] ≡ values_at (symbol_total k e) (drop (symbol_place k e) t)
  pub held : (e : ℕ) → e < 64 → symbol_place k e + 16 * symbol_total k e ≤ length t
  pub ordered : (e : ℕ) → Ordered (slice_index_or (enums t) e [])
  pub lists : length (enums t) ≤ 64
  pub supers : (g : ℕ) → super_of (schema t) g ≤ g
