-- The message that a sheet makes. It reads the sheet's records once, in document 01's order, and gives the first fault or the message.
-- "For a record: 40 on the mark, 41, 40 on the rest, 44, 1, 45, 2, 25, 24, then the others."
--
-- It is made of writers (W), one for each of the walk's readers, with the same names: what a reader reads, its writer writes.
-- A body (B) is what stands behind an offset.
use Rattle.std.specs.Prelude.{Bool, not, cond, ◌&&◌, List, [], ◌∷◌, ◌++◌, ℕ, zero, suc, ◌+◌, ◌-◌, ◌*◌, length, take, drop, replicate, leb, eqb}
use Rattle.wire.specs.Bytes.{le, bytes_of, same}
use Rattle.schema.specs.Faults.{need}
use Rattle.schema.specs.Schema.{Test, passes, test_fault, text_ok, Kind, plain, inline, indirect, static, dynamic, Field, Group, kind_width, value_width, field_width, fields_of, width, find, known, allows}
use Rattle.message.specs.Sheet.{Mark, GB, XT, XU, mark_bytes, NO, GE, kind_mark, field_mark}

-- WRITINGS

-- A fault's number, and how many bytes of the sheet are left at its record's start;
-- or the bytes in place, those that go into the data area, and the rest of the sheet.
pub data Writing : Type 0 where
  stopped : ℕ → ℕ → Writing
  wrote : List ℕ → List ℕ → List ℕ → Writing

-- Its own place in the group, the first free place of the data area, the sheet from here on.
abbrev pub Writer : Type 0
Writer = ℕ → ℕ → List ℕ → Writing

-- The writer of a whole dynamic group: which group is named there (a dynamic kind's number), and the sheet behind the mark.
abbrev pub InnerW : Type 0
InnerW = ℕ → List ℕ → Writing

-- With c in front of its bytes in place.
unfoldable pub headed : List ℕ → Writing → Writing
headed c (stopped n p) = stopped n p
headed c (wrote F D r) = wrote (c ++ F) D r

-- One writing and then, with its data and the rest of the sheet, another.
unfoldable pub joined : List ℕ → List ℕ → Writing → Writing
joined F D (stopped n p) = stopped n p
joined F D (wrote F' D' r) = wrote (F ++ F') (D ++ D') r

unfoldable pub next_w : Writing → (List ℕ → List ℕ → Writing) → Writing
next_w (stopped n p) k = stopped n p
next_w (wrote F D r) k = joined F D (k D r)

-- Behind an offset: "each value goes straight after all written before it".
unfoldable pub placed : ℕ → Writing → Writing
placed o (stopped n p) = stopped n p
placed o (wrote X Y r) = wrote (bytes_of 4 o) (X ++ Y) r

-- RECORDS

-- "40 sheet ends inside it": the next n bytes; o are left at the record's start.
unfoldable pub grab : ℕ → ℕ → List ℕ → (List ℕ → List ℕ → Writing) → Writing
grab o n s k = need (leb n (length s)) (stopped 40 o) (k (take n s) (drop n s))

-- "41 mark not due"
unfoldable pub due : List ℕ → List ℕ → (List ℕ → Writing) → Writing
due k s f = grab (length s) 2 s (λ x r. need (same x k) (stopped 41 (length s)) (f r))

-- VALUES IN PLACE

unfoldable pub none_w : Writer
none_w at fr s = wrote [] [] s

unfoldable pub then_w : ℕ → Writer → Writer → Writer
then_w w U W at fr s = next_w (U at fr s) (λ D r. W (at + w) (fr + length D) r)

unfoldable pub marked_w : Mark → Writer → Writer
marked_w k W at fr s = due (mark_bytes k) s (λ r. W at fr r)

-- "`NO` is an absent field": a flag of 0, and zeros.
unfoldable pub optional_w : Mark → ℕ → Writer → Writer
optional_w k w W at fr s =
    cond (same (take 2 s) NO) (wrote (0 ∷ replicate w 0) [] (drop 2 s)) (headed (1 ∷ []) (marked_w k W (at + 1) fr s))

-- What follows stands behind a mark, so a record's start is two bytes further back.

-- 10, 11, 12
unfoldable pub plain_w : ℕ → Test → Writer
plain_w w t at fr s = grab (2 + length s) w s (λ v r. need (passes t v) (stopped (test_fault t) (2 + length s)) (wrote v [] r))

-- "`ST` count u32 and bytes", and so `XU`.
unfoldable pub counted : List ℕ → (List ℕ → List ℕ → List ℕ → Writing) → Writing
counted s k = grab (2 + length s) 4 s (λ c r. grab (2 + length s) (le c) r (λ v r'. k c v r'))

-- 7, 9
unfoldable pub inline_w : Bool → ℕ → Writer
inline_w u c at fr s = counted s (λ x v r.
    need (leb (le x) c) (stopped 7 (2 + length s))
    (need (text_ok u v) (stopped 9 (2 + length s))
    (wrote (le x ∷ (v ++ replicate (c - le x) 0)) [] r)))

-- VALUES IN THE DATA AREA

-- Written from this place on: its own bytes, then the values that hang on it.
abbrev pub Body : Type 0
Body = ℕ → List ℕ → Writing

unfoldable pub indirect_w : Body → Writer
indirect_w B at fr s = placed (fr - at) (B fr s)

unfoldable pub text_b : Bool → Body
text_b u p s = counted s (λ c v r. need (text_ok u v) (stopped 9 (2 + length s)) (wrote (c ++ v) [] r))

unfoldable pub inner_b : InnerW → ℕ → Body
inner_b I g p s = I g s

-- "a sequence's items' values follow its body, in item order, before the next field"
unfoldable pub items_w : ℕ → Writer → ℕ → Writer
items_w w W zero at fr s = none_w at fr s
items_w w W (suc n) at fr s = next_w (W at fr s) (λ D r. items_w w W n (at + w) (fr + length D) r)

-- `SQ`, and `XT` with at least one item: "44 `XT` count 0".
unfoldable pub list_b : ℕ → ℕ → Writer → Body
list_b least w W p s = grab (2 + length s) 4 s (λ c r.
    need (leb least (le c)) (stopped 44 (2 + length s)) (headed c (items_w w W (le c) (p + 4) (p + (4 + le c * w)) r)))

-- FIELDS

unfoldable pub kind_w : InnerW → (ℕ → Writer) → Kind → Writer
kind_w I S (plain w t) = plain_w w t
kind_w I S (inline u c) = inline_w u c
kind_w I S (indirect u) = indirect_w (text_b u)
kind_w I S (static g) = S g
kind_w I S (dynamic g) = indirect_w (inner_b I g)

unfoldable pub value_w : InnerW → (ℕ → ℕ) → (ℕ → Writer) → Field → Writer
value_w I sw S f =
    cond f.sequence
    (indirect_w (list_b 0 (kind_width sw f.kind) (marked_w (kind_mark f.kind) (kind_w I S f.kind))))
    (kind_w I S f.kind)

unfoldable pub field_w : InnerW → (ℕ → ℕ) → (ℕ → Writer) → Field → Writer
field_w I sw S f =
    cond f.optional (optional_w (field_mark f) (value_width sw f) (value_w I sw S f)) (marked_w (field_mark f) (value_w I sw S f))

unfoldable pub fields_w : InnerW → (ℕ → ℕ) → (ℕ → Writer) → List Field → Writer
fields_w I sw S [] = none_w
fields_w I sw S (f ∷ fs) = then_w (field_width sw f) (field_w I sw S f) (fields_w I sw S fs)

unfoldable pub static_w : List Group → InnerW → ℕ → ℕ → Writer
static_w gs I zero g at fr s = none_w at fr s
static_w gs I (suc d) g at fr s = fields_w I (width gs d) (static_w gs I d) (fields_of gs g) at fr s

-- THE EXTENSION

-- `XU`: "40 on the rest, 44, 1, 45"; else `GB`.
unfoldable pub extending_b : List Group → InnerW → Body
extending_b gs I p s =
    cond (same (take 2 s) (mark_bytes XU))
    (due (mark_bytes XU) s (λ r. counted r (λ c v r'.
    need (leb 12 (le c)) (stopped 1 (length s))
    (need (not (known gs (le (take 8 v)))) (stopped 45 (length s))
    (wrote (c ++ v) [] r')))))
    (due (mark_bytes GB) s (λ r. I 0 r))

-- "the extension is last"; where no `XT` stands there is none, and the offset is 0.
unfoldable pub extension_w : List Group → InnerW → Writer
extension_w gs I at fr s =
    cond (same (take 2 s) (mark_bytes XT))
    (due (mark_bytes XT) s (λ r. indirect_w (list_b 1 4 (indirect_w (extending_b gs I))) at fr r))
    (wrote (bytes_of 4 0) [] s)

-- What is written last stands first: the extension's offset, before the fields.
unfoldable pub swapped : List ℕ → List ℕ → Writing → Writing
swapped F D (stopped n p) = stopped n p
swapped F D (wrote F' D' r) = wrote (F' ++ F) (D ++ D') r

unfoldable pub back_w : Writing → (List ℕ → List ℕ → Writing) → Writing
back_w (stopped n p) k = stopped n p
back_w (wrote F D r) k = swapped F D (k D r)

unfoldable pub behind_w : Writer → Writer → Writer
behind_w U W at fr s = back_w (U (at + 4) fr s) (λ D r. W at (fr + length D) r)

-- A DYNAMIC GROUP

-- The size word, the type id, the fields with the extension's offset, the data area: "no pad bytes".
abbrev pub framed : List ℕ → List ℕ → List ℕ → List ℕ
framed id F D = bytes_of 4 (8 + length F + length D) ++ (id ++ (F ++ D))

-- "`GE` closes it"
unfoldable pub closed : List ℕ → Writing → Writing
closed id (stopped n p) = stopped n p
closed id (wrote F D r) = due GE r (λ r'. wrote (framed id F D) [] r')

unfoldable pub body_w : List Group → InnerW → ℕ → List ℕ → List ℕ → Writing
body_w gs I g id s = closed id (behind_w (static_w gs I 5 g) (extension_w gs I) 12 (16 + width gs 5 g) s)

-- "40 on the rest, .., 2, 25, 24"
unfoldable pub head_w : List Group → (ℕ → List ℕ → List ℕ → Writing) → InnerW
head_w gs body n s = grab (2 + length s) 8 s (λ id r.
    need (known gs (le id)) (stopped 2 (2 + length s))
    (need (allows gs n (find gs (le id))) (stopped 25 (2 + length s))
    (body (find gs (le id)) id r)))

unfoldable pub group_w : List Group → ℕ → InnerW
group_w gs zero = head_w gs (λ g id s. stopped 24 (10 + length s))
group_w gs (suc l) = head_w gs (body_w gs (group_w gs l))

-- THE SHEET

-- Places count from the sheet's first byte, of n. "43: bytes after the last `GE`, place the first of them."
unfoldable pub ended : ℕ → Writing → Writing
ended n (stopped k left) = stopped k (n - left)
ended n (wrote X D r) = need (eqb (length r) 0) (stopped 43 (n - length r)) (wrote X D r)

-- "42 sheet over 1,048,576 bytes (place 0), then record by record"
unfoldable pub sheet_w : List Group → List ℕ → Writing
sheet_w gs s = need (leb (length s) 1048576) (stopped 42 0) (ended (length s) (due (mark_bytes GB) s (λ r. group_w gs 8 0 r)))

-- "47 when a message is written and it is longer than the output or 65,536"
unfoldable pub fitted : ℕ → Writing → Writing
fitted room (stopped n p) = stopped n p
fitted room (wrote X D r) = need (leb (length X) room && leb (length X) 65536) (stopped 47 0) (wrote X D r)

-- The message of a sheet, for an output of this length.
unfoldable pub written : List Group → ℕ → List ℕ → Writing
written gs room s = fitted room (sheet_w gs s)
