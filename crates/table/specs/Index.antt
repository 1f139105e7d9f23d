-- What the check of a table has put into the index, phase by phase.
use Rattle.schema.specs.Faults.{Verdict}
use Rattle.std.specs.Prelude.{Ok, ◌≡◌, Bool, true, List, [], ◌∷◌, ℕ, ◌+◌, ◌-◌, ◌*◌, ◌<◌, ◌≤◌, length, drop, get_or}
use Rattle.table.specs.declared.Shape.{Shape}
use Rattle.schema.specs.Table.{Due, due_after, field_count, values_at, group_at, groups_from, enums_from, places_from, record_count, enums, schema, places, table_verdict}
use Rattle.schema.specs.Layout.{group_place, symbol_place, symbol_total, group_total, enum_total, Placed, Layout}

-- The state of 31 in the definition's terms.
abbrev pub due_of : Shape → Due
due_of s = record { enumerations = s.enumerations; groups = s.groups; owed = s.owed; stored = s.stored }

-- A table of whole records that passed 30.
pub record Whole (t : List ℕ) : Type 0 where
  pub whole : length t ≡ 16 * record_count t
  pub small : length t ≤ 65536

-- The index k after i records: e enumerations and g groups stand in it, and the last of them still has `owed` records to come.
pub record Begun (t k : List ℕ) (i e g owed : ℕ) : Type 0 where
  pub long : length k ≡ 322
  pub lists64 : e ≤ 64
  pub groups64 : g ≤ 64
  pub listed : e ≤ length (enums t)
  pub grouped : g ≤ length (schema t)
  pub groups : drop g (schema t) ≡ groups_from (enums t) (record_count t - i) (drop (16 * i) t)
  pub starts : drop g (places t) ≡ places_from (record_count t - i) (16 * i) (drop (16 * i) t)
  pub lists : drop e (enums t) ≡ enums_from (record_count t - i) (drop (16 * i) t)
  pub group : (h : ℕ) → h < g → drop h (schema t) ≡ group_at (enums t) (drop (group_place k h) t) ∷ drop (h + 1) (schema t)
  pub start : (h : ℕ) → h < g → drop h (places t) ≡ group_place k h ∷ drop (h + 1) (places t)
  pub inside : (h : ℕ) → h < g → group_place k h + 16 + 16 * field_count (drop (group_place k h) t) ≤ 16 * (i + owed)
  pub symbols : (x : ℕ) → x < e → i + owed ≤ record_count t → get_or (enums t) x [] ≡ values_at (symbol_total k x) (drop (symbol_place k x) t)
  pub held : (x : ℕ) → x < 64 → symbol_place k x + 16 * symbol_total k x ≤ 16 * (i + owed)
  pub none : (x : ℕ) → e ≤ x → x < 64 → symbol_total k x ≡ 0
  pub clear : (x : ℕ) → x < 64 → (get_or k (64 + x) 0 ≡ 0) × (get_or k (256 + x) 0 ≡ 0)

-- Every record of the table t stands in the index k.
pub record Placing (t k : List ℕ) : Type 0 where
  pub long : length k ≡ 322
  pub few : length (schema t) ≤ 64
  pub lists : length (enums t) ≤ 64
  pub total : group_total k ≡ length (schema t)
  pub enumerations : enum_total k ≡ length (enums t)
  pub placed : Placed t k (length (schema t))
  pub start : (h : ℕ) → h < length (schema t) → drop h (places t) ≡ group_place k h ∷ drop (h + 1) (places t)
  pub last : drop (length (schema t)) (places t) ≡ []
  pub symbols : (e : ℕ) → e < 64 → get_or (enums t) e [] ≡ values_at (symbol_total k e) (drop (symbol_place k e) t)
  pub held : (e : ℕ) → e < 64 → symbol_place k e + 16 * symbol_total k e ≤ length t

-- What the check of the shape answers, and what it leaves in the index where the table passes.
pub record Shaped (v r : Verdict) (t k : List ℕ) : Type 0 where
  pub verdict : r ≡ v
  pub long : length k ≡ 322
  pub placing : r ≡ Ok tt → Placing t k
  pub blank : r ≡ Ok tt → (x : ℕ) → x < 64 → (get_or k (64 + x) 0 ≡ 0) × (get_or k (256 + x) 0 ≡ 0)

-- What the record at 16 * i, which is due, does to the state and to the index.
pub record Taken (t k : List ℕ) (i : ℕ) (s r : Shape) : Type 0 where
  pub due : due_of r ≡ due_after (due_of s) (drop (16 * i) t)
  pub begun : Begun t k (i + 1) r.enumerations r.groups r.owed

-- What the code answers of each group is what `test` says of its number and its record's place, as long as no group before it fails.
abbrev pub Decides : List ℕ → List ℕ → (ℕ → Bool → Type 0) → (ℕ → ℕ → Bool) → Type 0
Decides t k answers test =
    (g : ℕ) → g < length (schema t) → ((h : ℕ) → h < g → test h (group_place k h) ≡ true) → (b : Bool) → answers g b → b ≡ test g (group_place k g)

-- What the whole check answers.
pub record Checked (t k : List ℕ) (r : Verdict) : Type 0 where
  pub verdict : r ≡ table_verdict t
  pub layout : r ≡ Ok tt → Layout t k
