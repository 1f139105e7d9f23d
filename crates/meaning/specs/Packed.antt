-- Document 01's writing order, said of a message's bytes: where its values stand, with no word of who wrote them.
-- "each value goes straight after all written before it; a sequence's items' values follow its body, in item order, before the next field; the extension is last; no pad bytes":
-- Conforms.antt lists a group's values in this order, so the extents that they take stand one straight behind the other and fill the data area.
use Rattle.std.specs.Prelude.{◌≡◌, true, List, [], ◌∷◌, ℕ, zero, suc, ◌+◌, ◌≤◌, ◌<◌, length}
use Rattle.wire.specs.Bytes.{part, le}
use Rattle.schema.specs.Schema.{Group, find, known}
use Rattle.meaning.specs.Conforms.{Value, number, presence, inline_text, text, list, group, extension, extending, subgroup, target, count_at, values_of, area_of, type_id, Extent, extents, Pad, Each}

-- One straight behind the other, from p to e.
abbrev pub Contiguous : ℕ → List Extent → ℕ → Type 0
Contiguous p [] e = p ≡ e
Contiguous p (x ∷ xs) e = (x.from ≡ p) × Contiguous (p + x.long) xs e

-- C: what a dynamic group must be, by its own bytes. An extension group of unknown type is not opened.
abbrev pub Inside : List Group → (List ℕ → Type 0) → List ℕ → Value → Type 0
Inside gs C b (number w t at) = Unit
Inside gs C b (presence w at) = Unit
Inside gs C b (inline_text u c at) = Unit
Inside gs C b (text u at) = Unit
Inside gs C b (list w at) = Unit
Inside gs C b (group g at) = C (part (4 + count_at b at) (target b at) b)
Inside gs C b (extension at) = Unit
Inside gs C b (extending at) = known gs (le (part 8 (target b at + 4) b)) ≡ true → C (part (4 + count_at b at) (target b at) b)
Inside gs C b subgroup = Unit

-- "The data area runs from the end of the fields to the end of the group."
pub record PackedGroup (gs : List Group) (C : List ℕ → Type 0) (b : List ℕ) : Type 0 where
  pub area : Contiguous (area_of gs (find gs (type_id b))) (extents b (values_of gs (find gs (type_id b)) b)) (length b)
  pub inside : Each (Inside gs C b) (values_of gs (find gs (type_id b)) b)

-- So many levels are left.
abbrev pub PackedAt : List Group → ℕ → List ℕ → Type 0
PackedAt gs zero b = ⊥
PackedAt gs (suc l) b = PackedGroup gs (PackedAt gs l) b

abbrev pub Packed : List Group → List ℕ → Type 0
Packed gs b = PackedAt gs 8 b

-- Byte i of the data area is in no value.
pub record Unheld (gs : List Group) (b : List ℕ) (i : ℕ) : Type 0 where
  pub starts : area_of gs (find gs (type_id b)) ≤ i
  pub ends : i < length b
  pub pad : Pad i (extents b (values_of gs (find gs (type_id b)) b))
