-- What a message must be: the constraints S1 and W1 to W13 of document 004, as document 01 reads them, and document 01's house rules.
-- Each stands under its own name. There is no order of tests, no scratch and no fault's number here: a message is taken as a whole.
--
-- A plain function lists the values of a group (V), with no test; the bytes that they take follow from the list, and so do the constraints.
use Rattle.std.specs.Prelude.{◌≡◌, Bool, true, false, cond, List, [], ◌∷◌, ◌++◌, ℕ, zero, suc, ◌+◌, ◌-◌, ◌*◌, ◌≤◌, ◌<◌, length, get_or, eqb}
use Rattle.wire.specs.Bytes.{part, le}
use Rattle.schema.specs.Schema.{Test, any, flag, below, symbol, Kind, plain, inline, indirect, static, dynamic, Field, Group, kind_width, value_width, field_width, fields_of, super_of, width}
use Rattle.settings.specs.declared.Ignored.{Ignored}
use Rattle.message.specs.Walk.{word, byte}
use Rattle.meaning.specs.Text.{Utf8}

-- THE VALUES OF A GROUP
-- Those of its fields, of its static groups' fields, of its sequences' items, and its extension.

-- The last number is the value's place, or that of the offset that leads to it.
pub data Value : Type 0 where
  number : ℕ → Test → ℕ → Value  -- of this width
  presence : ℕ → ℕ → Value  -- an optional field's flag, before a value of this width
  inline_text : Bool → ℕ → ℕ → Value  -- whether it must be UTF-8, and its capacity
  text : Bool → ℕ → Value
  list : ℕ → ℕ → Value  -- a sequence, of items of this width
  group : ℕ → ℕ → Value  -- a dynamic group; the kind's number says which is named
  extension : ℕ → Value
  extending : ℕ → Value  -- a group of the extension
  subgroup : Value  -- a static group begins here: it takes no byte of its own

-- "An offset counts from its own first byte": where it leads, and the count or size word there.
abbrev pub target : List ℕ → ℕ → ℕ
target b at = at + word at b

abbrev pub count_at : List ℕ → ℕ → ℕ
count_at b at = word (target b at) b

-- The values of a group's bytes, from a place on.
abbrev pub Values : Type 0
Values = List ℕ → ℕ → List Value

-- n of them, each w bytes further.
unfoldable pub items_v : ℕ → Values → ℕ → Values
items_v w v zero b at = []
items_v w v (suc n) b at = v b at ++ items_v w v n b (at + w)

-- S gives a static group's values, and sw its width.
unfoldable pub kind_v : (ℕ → Values) → Kind → Values
kind_v S (plain w t) b at = number w t at ∷ []
kind_v S (inline u c) b at = inline_text u c at ∷ []
kind_v S (indirect u) b at = text u at ∷ []
kind_v S (static g) b at = subgroup ∷ S g b at
kind_v S (dynamic g) b at = group g at ∷ []

unfoldable pub value_v : (ℕ → ℕ) → (ℕ → Values) → Field → Values
value_v sw S f b at =
    cond f.sequence
    (list (kind_width sw f.kind) at ∷ items_v (kind_width sw f.kind) (kind_v S f.kind) (count_at b at) b (target b at + 4))
    (kind_v S f.kind b at)

-- An optional field has a value where its flag is 1.
unfoldable pub field_v : (ℕ → ℕ) → (ℕ → Values) → Field → Values
field_v sw S f b at =
    cond f.optional
    (presence (value_width sw f) at ∷ cond (eqb (byte at b) 1) (value_v sw S f b (at + 1)) [])
    (value_v sw S f b at)

unfoldable pub fields_v : (ℕ → ℕ) → (ℕ → Values) → List Field → Values
fields_v sw S [] b at = []
fields_v sw S (f ∷ fs) b at = field_v sw S f b at ++ fields_v sw S fs b (at + field_width sw f)

-- "A static group uses its enclosing dynamic group's area." Its static depth is below d.
unfoldable pub static_v : List Group → ℕ → ℕ → Values
static_v gs zero g b at = []
static_v gs (suc d) g b at = fields_v (width gs d) (static_v gs d) (fields_of gs g) b at

-- Document 004, 4: "The presence of an extension is indicated by a non-zero extension offset".
abbrev pub groups_v : Values
groups_v b at = extension at ∷ items_v 4 (λ b p. extending p ∷ []) (count_at b at) b (target b at + 4)

unfoldable pub extension_v : Values
extension_v b at = cond (eqb (word at b) 0) [] (groups_v b at)

-- "Size u32, type id u64, extension offset u32, fields, data area."
abbrev pub values_of : List Group → ℕ → List ℕ → List Value
values_of gs g b = static_v gs 5 g b 16 ++ extension_v b 12

abbrev pub area_of : List Group → ℕ → ℕ
area_of gs g = 16 + width gs 5 g

abbrev pub size : List ℕ → ℕ
size b = word 0 b

abbrev pub type_id : List ℕ → ℕ
type_id b = le (part 8 4 b)

-- THE BYTES THAT VALUES TAKE IN THE DATA AREA

pub record Extent : Type 0 where
  pub from : ℕ
  pub long : ℕ

-- The count or size word, and n bytes more.
abbrev pub extent_at : ℕ → List ℕ → ℕ → List Extent
extent_at n b at = record { from = target b at; long = 4 + n } ∷ []

unfoldable pub extent_of : List ℕ → Value → List Extent
extent_of b (number w t at) = []
extent_of b (presence w at) = []
extent_of b (inline_text u c at) = []
extent_of b (text u at) = extent_at (count_at b at) b at
extent_of b (list w at) = extent_at (count_at b at * w) b at
extent_of b (group g at) = extent_at (count_at b at) b at
extent_of b (extension at) = extent_at (count_at b at * 4) b at
extent_of b (extending at) = extent_at (count_at b at) b at
extent_of b subgroup = []

unfoldable pub extents : List ℕ → List Value → List Extent
extents b [] = []
extents b (v ∷ vs) = extent_of b v ++ extents b vs

-- Byte i is one of an extent's.
pub record Holds (i : ℕ) (e : Extent) : Type 0 where
  pub starts : e.from ≤ i
  pub ends : i < e.from + e.long

-- "Values of one data area share no byte."
abbrev pub Disjoint : Extent → Extent → Type 0
Disjoint e f = (i : ℕ) → Holds i e → Holds i f → ⊥

abbrev pub DisjointAll : Extent → List Extent → Type 0
DisjointAll e [] = Unit
DisjointAll e (f ∷ fs) = Disjoint e f × DisjointAll e fs

abbrev pub Apart : List Extent → Type 0
Apart [] = Unit
Apart (e ∷ es) = DisjointAll e es × Apart es

-- Document 004, 3: a pad byte is one of the "bytes that are not part of any value".
abbrev pub Pad : ℕ → List Extent → Type 0
Pad i [] = Unit
Pad i (e ∷ es) = (Holds i e → ⊥) × Pad i es

-- ONE VALUE

-- The n bytes from p on are zero.
abbrev pub Zero : List ℕ → ℕ → ℕ → Type 0
Zero b p n = (i : ℕ) → p ≤ i → i < p + n → get_or b i 0 ≡ 0

-- "The data area runs from the end of the fields to the end of the group." It starts at a.
pub record InArea (a : ℕ) (b : List ℕ) (p : ℕ) : Type 0 where
  pub starts : a ≤ p
  pub ends : p < length b

-- "Each value lies wholly in the data area": its n bytes from p on.
abbrev pub Whole : List ℕ → ℕ → ℕ → Type 0
Whole b p n = p + n ≤ length b

-- W9, of strings only.
abbrev pub W9 : Bool → List ℕ → Type 0
W9 true s = Utf8 s
W9 false s = Unit

-- W10: x is a symbol's value.
pub data W10 : List ℕ → ℕ → Type 0 where
  first : {x : ℕ} {xs : List ℕ} → W10 (x ∷ xs) x
  later : {x y : ℕ} {ys : List ℕ} → W10 ys x → W10 (y ∷ ys) x

-- W11: a bool or a flag.
abbrev pub W11 : ℕ → Type 0
W11 x = x ≤ 1

-- W12: less than a day.
abbrev pub W12 : ℕ → ℕ → Type 0
W12 day x = x < day

abbrev pub Number : Test → ℕ → Type 0
Number any x = Unit
Number flag x = W11 x
Number (below n) x = W12 n x
Number (symbol vs) x = W10 vs x

pub record Presence (x : Ignored) (b : List ℕ) (w at : ℕ) : Type 0 where
  pub w11 : W11 (byte at b)
  pub w4 : x.absent ≡ false → byte at b ≡ 0 → Zero b (at + 1) w

pub record InlineText (x : Ignored) (b : List ℕ) (u : Bool) (c at : ℕ) : Type 0 where
  pub w7 : byte at b ≤ c
  pub w8 : x.unused ≡ false → Zero b (at + 1 + byte at b) (c - byte at b)
  pub w9 : W9 u (part (byte at b) (at + 1) b)

pub record Text (a : ℕ) (b : List ℕ) (u : Bool) (at : ℕ) : Type 0 where
  pub w5 : InArea a b (target b at)
  pub whole : Whole b (target b at) (4 + count_at b at)
  pub w9 : W9 u (part (count_at b at) (target b at + 4) b)

pub record Sequence (a : ℕ) (b : List ℕ) (w at : ℕ) : Type 0 where
  pub w5 : InArea a b (target b at)
  pub w13 : Whole b (target b at) (4 + count_at b at * w)

-- C: what a dynamic group must be, by the kind's number that names it and by its own bytes.
pub record Dynamic (C : ℕ → List ℕ → Type 0) (a : ℕ) (b : List ℕ) (g at : ℕ) : Type 0 where
  pub w5 : InArea a b (target b at)
  pub whole : Whole b (target b at) (4 + count_at b at)
  pub conforms : C g (part (4 + count_at b at) (target b at) b)

pub record Extension (a : ℕ) (b : List ℕ) (at : ℕ) : Type 0 where
  pub w3 : InArea a b (target b at)
  pub w13 : Whole b (target b at) (4 + count_at b at * 4)

-- The group of this number has this type id.
pub data Names : List Group → ℕ → ℕ → Type 0 where
  here : {g : Group} {gs : List Group} {id : ℕ} → g.has_id ≡ true → g.id ≡ id → Names (g ∷ gs) 0 id
  there : {g : Group} {gs : List Group} {n id : ℕ} → Names gs n id → Names (g ∷ gs) (suc n) id

-- "An extension is a sequence of any groups." "An extension group of unknown type is no fault, by W2 either: .. its contents aren't judged."
pub record Extending (gs : List Group) (C : ℕ → List ℕ → Type 0) (a : ℕ) (b : List ℕ) (at : ℕ) : Type 0 where
  pub w5 : InArea a b (target b at)
  pub whole : Whole b (target b at) (4 + count_at b at)
  pub w1 : 12 ≤ count_at b at
  pub conforms : (g : ℕ) → Names gs g (le (part 8 (target b at + 4) b)) → C 0 (part (4 + count_at b at) (target b at) b)

abbrev pub Good : Ignored → List Group → (ℕ → List ℕ → Type 0) → ℕ → List ℕ → Value → Type 0
Good x gs C a b (number w t at) = Number t (le (part w at b))
Good x gs C a b (presence w at) = Presence x b w at
Good x gs C a b (inline_text u c at) = InlineText x b u c at
Good x gs C a b (text u at) = Text a b u at
Good x gs C a b (list w at) = Sequence a b w at
Good x gs C a b (group g at) = Dynamic C a b g at
Good x gs C a b (extension at) = Extension a b at
Good x gs C a b (extending at) = Extending gs C a b at
Good x gs C a b subgroup = Unit

abbrev pub Each : (Value → Type 0) → List Value → Type 0
Each P [] = Unit
Each P (v ∷ vs) = P v × Each P vs

-- A GROUP

-- "the named group and all below it"
pub data Below (gs : List Group) (a : ℕ) : ℕ → Type 0 where
  itself : Below gs a a
  higher : {g s : ℕ} → super_of gs g ≡ suc s → Below gs a s → Below gs a g

-- By the kind's number: any group where it is 0.
abbrev pub Allowed : List Group → ℕ → ℕ → Type 0
Allowed gs zero g = Unit
Allowed gs (suc a) g = Below gs a g

-- The group of number `type` whose bytes are b, where the kind's number n names it.
pub record GroupConforms (x : Ignored) (gs : List Group) (C : ℕ → List ℕ → Type 0) (n : ℕ) (b : List ℕ) : Type 0 where
  pub w1 : 12 ≤ size b
  pub type : ℕ
  pub w2 : Names gs type (type_id b)
  pub allowed : Allowed gs n type
  pub s1 : width gs 5 type ≤ size b - 12
  pub each : Each (Good x gs C (area_of gs type) b) (values_of gs type b)
  pub apart : Apart (extents b (values_of gs type b))
  pub w6 : x.pads ≡ false → (i : ℕ) → area_of gs type ≤ i → i < length b → Pad i (extents b (values_of gs type b)) → get_or b i 0 ≡ 0

-- "The message is level 1, a dynamic group in it one deeper; 8 is the last level." So many levels are left.
abbrev pub ConformsAt : Ignored → List Group → ℕ → ℕ → List ℕ → Type 0
ConformsAt x gs zero n b = ⊥
ConformsAt x gs (suc l) n b = GroupConforms x gs (ConformsAt x gs l) n b

-- "A message has at most 65,536 bytes and is exactly 4 + size long."
pub record Conforms (x : Ignored) (gs : List Group) (b : List ℕ) : Type 0 where
  pub limit : length b ≤ 65536
  pub exact : length b ≡ 4 + size b
  pub level1 : ConformsAt x gs 8 0 b
