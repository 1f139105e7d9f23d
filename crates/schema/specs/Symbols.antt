-- The symbols of an enumeration: how they rise, and the search for one of them. "symbols rise, so search by halving" (document 02, request 4).
use Rattle.std.specs.Prelude.{ℕ, zero, suc, ◌+◌, ◌-◌, ◌/◌, ◌%◌, ◌<◌, ◌≤◌, cond, List, length, ◌==◌, nat_lt, slice_index}
use Rattle.schema.specs.declared.Search.{Search}

-- A value's place among the i32, which rise from -2^31.
unfoldable pub rank : ℕ → ℕ
rank v = (v + 0x80000000) % 0x100000000

-- What an accepted table says of an enumeration's values: "symbol count 1..256", "strictly rising inside an `EN`".
pub record Ordered (vs : List ℕ) : Type 0 where
  pub few : length vs ≤ 256
  pub rise : (i j : ℕ) → i < j → j < length vs → rank (slice_index vs i) < rank (slice_index vs j)

-- All symbols are in question, and none is found yet: they are numbered from 0, so `length vs` is the number of none.
abbrev pub start : List ℕ → Search
start vs = record { at = length vs; first = 0; count = length vs }

-- One step of the search for v: it looks at the symbol in the middle, and leaves the first half of the symbols or the last.
unfoldable pub halve : List ℕ → ℕ → Search → Search
halve vs v s =
    let half = s.count / 2 in
    let middle = s.first + half in
    record {
      at = cond (slice_index vs middle == v) middle s.at;
      first = cond (nat_lt (rank (slice_index vs middle)) (rank v)) (s.first + (s.count - half)) s.first;
      count = half;
    }

-- At most n steps, while symbols are in question.
unfoldable pub steps : ℕ → List ℕ → ℕ → Search → Search
steps zero vs v s = s
steps (suc n) vs v s = cond (nat_lt 0 s.count) (steps n vs v (halve vs v s)) s
