-- Two messages that differ only in bytes that a setting may ignore: those of absent fields (4), pads (6) and unused inline bytes (8).
-- All other bytes are the same: a group's head, flags, counts, offsets and all that values are made of. Each value of the first is looked up in both.
use Rattle.std.specs.Prelude.{◌≡◌, true, false, List, ℕ, zero, suc, ◌+◌, length}
use Rattle.wire.specs.Bytes.{part, le}
use Rattle.schema.specs.Schema.{Group, find, known}
use Rattle.message.specs.Walk.{byte}
use Rattle.meaning.specs.Conforms.{Value, number, presence, inline_text, text, list, group, extension, extending, subgroup, target, count_at, Each, values_of, type_id}

-- The n bytes from p on.
abbrev pub Same : ℕ → ℕ → List ℕ → List ℕ → Type 0
Same n p b d = part n p b ≡ part n p d

-- An offset, and the count or size word that it leads to.
pub record SamePlace (b d : List ℕ) (at : ℕ) : Type 0 where
  pub offset : Same 4 at b d
  pub count : Same 4 (target b at) b d

-- Its count and its text; not the unused bytes behind it.
pub record SameInline (b d : List ℕ) (at : ℕ) : Type 0 where
  pub count : byte at b ≡ byte at d
  pub text : Same (byte at b) (at + 1) b d

-- C: two dynamic groups, by their bytes.
pub record SameInner (C : List ℕ → List ℕ → Type 0) (b d : List ℕ) (at : ℕ) : Type 0 where
  pub place : SamePlace b d at
  pub inner : C (part (4 + count_at b at) (target b at) b) (part (4 + count_at b at) (target b at) d)

-- "An extension group of unknown type is .. kept as bytes": then all of them.
pub record SameExtending (gs : List Group) (C : List ℕ → List ℕ → Type 0) (b d : List ℕ) (at : ℕ) : Type 0 where
  pub place : SamePlace b d at
  pub id : Same 8 (target b at + 4) b d
  pub inner : known gs (le (part 8 (target b at + 4) b)) ≡ true → C (part (4 + count_at b at) (target b at) b) (part (4 + count_at b at) (target b at) d)
  pub whole : known gs (le (part 8 (target b at + 4) b)) ≡ false → Same (4 + count_at b at) (target b at) b d

pub record SameText (b d : List ℕ) (at : ℕ) : Type 0 where
  pub place : SamePlace b d at
  pub whole : Same (4 + count_at b at) (target b at) b d

-- Of an optional field only the flag: whether its value is there. Where it is, the value is listed behind the flag.
abbrev pub SameValue : List Group → (List ℕ → List ℕ → Type 0) → List ℕ → List ℕ → Value → Type 0
SameValue gs C b d (number w t at) = Same w at b d
SameValue gs C b d (presence w at) = byte at b ≡ byte at d
SameValue gs C b d (inline_text u c at) = SameInline b d at
SameValue gs C b d (text u at) = SameText b d at
SameValue gs C b d (list w at) = SamePlace b d at
SameValue gs C b d (group g at) = SameInner C b d at
SameValue gs C b d (extension at) = SamePlace b d at
SameValue gs C b d (extending at) = SameExtending gs C b d at
SameValue gs C b d subgroup = Unit

pub record SameGroup (gs : List Group) (C : List ℕ → List ℕ → Type 0) (b d : List ℕ) : Type 0 where
  pub long : length b ≡ length d
  pub size : Same 4 0 b d
  pub id : Same 8 4 b d
  pub extension : Same 4 12 b d
  pub values : Each (SameValue gs C b d) (values_of gs (find gs (type_id b)) b)

-- So many levels are left.
abbrev pub SameAt : List Group → ℕ → List ℕ → List ℕ → Type 0
SameAt gs zero b d = SameGroup gs (λ b d. Unit) b d
SameAt gs (suc l) b d = SameGroup gs (SameAt gs l) b d

abbrev pub SameValues : List Group → List ℕ → List ℕ → Type 0
SameValues gs b d = SameAt gs 8 b d
