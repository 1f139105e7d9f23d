-- What the table's check gives of every schema: the premises of the theorems on messages.
use Rattle.std.specs.Prelude.{◌≡◌, true, false, List, [], ◌∷◌, ℕ, ◌≤◌, ◌<◌, take, drop}
use Rattle.schema.specs.Schema.{Kind, plain, inline, indirect, static, dynamic, Field, Group, fields_of, super_of, shallow, known}

-- "A super number is lower than the group's own", and no id of a group that has one "came before": that a message is accepted exactly when it conforms.
pub record Proper (gs : List Group) : Type 0 where
  pub falls : (g : ℕ) → super_of gs g ≤ g
  pub fresh : (g : ℕ) (x : Group) (rest : List Group) → drop g gs ≡ x ∷ rest → x.has_id ≡ true → known (take g gs) x.id ≡ false

-- No value has width 0, and an inline count fits in its byte.
abbrev pub SizedKind : Kind → Type 0
SizedKind (plain w t) = 1 ≤ w
SizedKind (inline u c) = (1 ≤ c) × (c < 256)
SizedKind (indirect u) = Unit
SizedKind (static g) = Unit
SizedKind (dynamic g) = Unit

abbrev pub SizedFields : List Field → Type 0
SizedFields [] = Unit
SizedFields (f ∷ fs) = SizedKind f.kind × SizedFields fs

-- 33 and 35: that "a sheet is never longer than eleven times its message", and the round trip.
pub record Sized (gs : List Group) : Type 0 where
  pub kinds : (g : ℕ) → SizedFields (fields_of gs g)
  pub shallows : (g : ℕ) → shallow gs 5 g ≡ true
