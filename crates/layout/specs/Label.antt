-- What a label says: its digits, from the low end on.
use Rattle.std.specs.Prelude.{◌≡◌, Bool, false, cond, ℕ, min, ◌+◌, ◌-◌, ◌*◌, ◌/◌, ◌%◌, ◌^◌, ltb, eqb}
use Rattle.layout.specs.declared.label.Spot.{Spot}

abbrev pub kind_of : ℕ → ℕ
kind_of l = l % 32

abbrev pub begins_of : ℕ → Bool
begins_of l = eqb (l / 32 % 2) 1

abbrev pub type_of : ℕ → ℕ
type_of l = l / 64 % 32

abbrev pub level_of : ℕ → ℕ
level_of l = l / 2048 % 8 + 1

abbrev pub owner_of : ℕ → ℕ
owner_of l = l / 16384 % 8

abbrev pub item_of : ℕ → ℕ
item_of l = l / 131072 % 65536

abbrev pub path_of : ℕ → ℕ
path_of l = l / 8589934592

-- What a number at place k of a path counts; no path has more than five.
unfoldable pub unit : ℕ → ℕ
unit k = 65 ^ min k 5

-- The path's number at place k, plus one.
abbrev pub number_of : ℕ → ℕ → ℕ
number_of l k = path_of l / unit k % 65

-- How many levels are above a group with so many left below it.
unfoldable pub above : ℕ → ℕ
above n = cond (ltb n 8) (7 - n) 0

-- The label of this kind at a spot, of a byte that begins no run.
unfoldable pub packed : ℕ → Spot → ℕ
packed kind s =
    kind % 32 + 64 * (s.number % 32) + 2048 * above s.levels + (16384 * (s.owner % 8) + 131072 * (s.item % 65536)) + 8589934592 * (s.path % 2147483648)

-- A label that tells each part of it.
pub record Tells (kind : ℕ) (s : Spot) (l : ℕ) : Type 0 where
  pub its-kind : kind_of l ≡ kind % 32
  pub its-run : begins_of l ≡ false
  pub its-type : type_of l ≡ s.number % 32
  pub its-level : level_of l ≡ above s.levels + 1
  pub its-owner : owner_of l ≡ s.owner % 8
  pub its-item : item_of l ≡ s.item % 65536
  pub its-path : path_of l ≡ s.path % 2147483648
