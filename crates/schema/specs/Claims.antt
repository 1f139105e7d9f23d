-- Request 4 (document 02): "Show that each step finds the value, or leaves at most half of the symbols in question and drops none that
-- equals it, and that nine steps decide any list." `halve` is the step that the code runs, by its contract.
use Rattle.std.specs.Prelude.{◌≡◌, ℕ, ◌+◌, ◌*◌, ◌^◌, ◌<◌, ◌≤◌, ltb, ◌⊎◌, List, length, int_lt, nat_lt, slice_index_or}
use Rattle.wire.specs.Bytes.{signed}
use Rattle.schema.specs.Schema.{member}
use Rattle.schema.specs.Symbols.{rank, Ordered, start, halve, steps}
use Rattle.schema.specs.declared.Search.{Search}

-- Symbol number i is in question where the search stands at s, and equals v.
pub record Equals (vs : List ℕ) (v : ℕ) (s : Search) (i : ℕ) : Type 0 where
  pub from : s.first ≤ i
  pub before : i < s.first + s.count
  pub equal : slice_index_or vs i 0 ≡ v

-- The search goes on from s to r: a symbol in question that equals v is the one found, or is left in question with at most half of
-- them; and only such a symbol is found.
pub record Halves (vs : List ℕ) (v : ℕ) (s r : Search) : Type 0 where
  pub half : 2 * r.count ≤ s.count
  pub among : (s.first ≤ r.first) × (r.first + r.count ≤ s.first + s.count)
  pub keeps : (i : ℕ) → Equals vs v s i → (r.at ≡ i) ⊎ Equals vs v r i
  pub finds : (r.at ≡ s.at) ⊎ Equals vs v s r.at

-- The search is over where it stands at s, and its answer is whether v is one of the symbols.
pub record Decides (vs : List ℕ) (v : ℕ) (s : Search) : Type 0 where
  pub over : s.count ≡ 0
  pub answer : ltb s.at (length vs) ≡ member v vs

pub record Halving : Type 0 where
  -- The order of the search, and of `Ordered`, is that of signed numbers.
  pub order : (v w : ℕ) → v < 2 ^ 32 → w < 2 ^ 32 → nat_lt (rank v) (rank w) ≡ int_lt (signed 31 v) (signed 31 w)
  pub step : (vs : List ℕ) (v : ℕ) → Ordered vs → (s : Search) → 0 < s.count → s.first + s.count ≤ length vs → Halves vs v s (halve vs v s)
  pub nine : (vs : List ℕ) (v : ℕ) → Ordered vs → Decides vs v (steps 9 vs v (start vs))
