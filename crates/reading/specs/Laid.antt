-- What an accepted message shows of where its values lie, so that no reading tests it again.
use Rattle.std.specs.Prelude.{◌≡◌, true, false, List, [], ◌∷◌, ℕ, ◌+◌, ◌≤◌, length}
use Rattle.schema.specs.Schema.{Kind, plain, inline, indirect, static, dynamic, Field, field_width}
use Rattle.meaning.specs.Conforms.{target}
use Rattle.reading.specs.Item.{absent, value_place}

-- The offset at `at` and the count or size word that it leads to.
pub record Led (b : List ℕ) (at : ℕ) : Type 0 where
  pub offset : at + 4 ≤ length b
  pub word : target b at + 4 ≤ length b

-- The field at `at`; where it is a present sequence, its count.
pub record FieldLaid (sw : ℕ → ℕ) (b : List ℕ) (f : Field) (at : ℕ) : Type 0 where
  pub inside : at + field_width sw f ≤ length b
  pub list : f.sequence ≡ true → absent f b at ≡ false → Led b (value_place f at)

abbrev pub Laid : (ℕ → ℕ) → List ℕ → List Field → ℕ → Type 0
Laid sw b [] at = Unit
Laid sw b (f ∷ fs) at = FieldLaid sw b f at × Laid sw b fs (at + field_width sw f)

-- The item at p, as far as its part is sought.
abbrev pub ItemLaid : List ℕ → Kind → ℕ → Type 0
ItemLaid b (plain w t) p = Unit
ItemLaid b (inline u c) p = p + 1 ≤ length b
ItemLaid b (indirect u) p = Led b p
ItemLaid b (static g) p = Unit
ItemLaid b (dynamic g) p = Led b p
