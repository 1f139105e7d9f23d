-- The walk: the one definition of what a message means. It reads a message once, in document 01's order, and gives the first fault or the sheet.
-- "Walk, first fault wins. Whole message: 20, 23, 21, 22. Group: 1, 2 (extension groups: kept instead), 25, 24, 14, 3, fields in order, extension, 6.
-- Field: 11 on its flag, 4, then its value. Offset: 5, 26 for the count or size word, 26 or 13 for the rest, 27, then the contents. Inline text: 7, 8, 9."
--
-- It is made of readers (R), each of which reads what stands at a place of a dynamic group's bytes, and of a few ways to join them.
use Rattle.std.specs.Prelude.{ℕ, zero, suc, ◌+◌, ◌-◌, ◌*◌, Bool, false, cond, ◌&&◌, ◌||◌, List, [], ◌∷◌, ◌++◌, length, drop, replicate, ◌==◌, nat_le, nat_lt, slice_index}
use Rattle.wire.specs.Bytes.{part, le, bytes_of, all_zero, zeros}
use Rattle.schema.specs.Faults.{need}
use Rattle.schema.specs.Schema.{Test, passes, test_fault, text_ok, Kind, plain, inline, indirect, static, dynamic, Field, Group, kind_width, value_width, field_width, fields_of, width, find, known, allows}
use Rattle.settings.specs.declared.Ignored.{Ignored}
use Rattle.message.specs.Occupancy.{free, occupy, pads_zero, pads_before}
use Rattle.message.specs.Sheet.{Mark, GB, XT, XU, mark_bytes, NO, GE, kind_mark, field_mark}

-- READINGS

-- A fault's number and place; or the sheet, and the occupancy that is left.
pub data Reading : Type 0 where
  refused : ℕ → ℕ → Reading
  done : List ℕ → List ℕ → Reading

-- With s in front of its sheet.
unfoldable pub prefixed : List ℕ → Reading → Reading
prefixed s (refused n p) = refused n p
prefixed s (done t m) = done (s ++ t) m

-- One reading and then, with the occupancy that it leaves, another.
unfoldable pub next : Reading → (List ℕ → Reading) → Reading
next (refused n p) f = refused n p
next (done s m) f = prefixed s (f m)

-- A dynamic group's bytes, its size word among them, where they start in the message, and where in them the data area starts; and which of "absent field,
-- pad or unused inline byte not zero" (4, 6, 8) is no fault. Such a byte reaches no sheet.
pub record Here : Type 0 where
  pub ignored : Ignored
  pub bytes : List ℕ
  pub base : ℕ
  pub area : ℕ

abbrev pub here : Ignored → List ℕ → ℕ → ℕ → Here
here x b base area = record { ignored = x; bytes = b; base = base; area = area }

-- The group, a place in its bytes, its occupancy.
abbrev pub Reader : Type 0
Reader = Here → ℕ → List ℕ → Reading

-- The reader of a whole dynamic group: which group is named there (a dynamic kind's number), where it starts in the message, its bytes.
abbrev pub Inner : Type 0
Inner = ℕ → ℕ → List ℕ → Reading

abbrev pub word : ℕ → List ℕ → ℕ
word at b = le (part 4 at b)

abbrev pub byte : ℕ → List ℕ → ℕ
byte at b = slice_index b at

-- VALUES IN PLACE

unfoldable pub none_r : Reader
none_r h at m = done [] m

-- One reader, and then another, w bytes further.
unfoldable pub then_r : ℕ → Reader → Reader → Reader
then_r w R S h at m = next (R h at m) (λ m'. S h (at + w) m')

-- "a two-byte mark before each record"
unfoldable pub marked_r : Mark → Reader → Reader
marked_r k R h at m = prefixed (mark_bytes k) (R h at m)

-- "Field: 11 on its flag, 4, then its value." w is the width of the value, which the flag stands before.
unfoldable pub optional_r : Mark → ℕ → Reader → Reader
optional_r k w R h at m =
    let v : ℕ = byte at h.bytes in
    let x : List ℕ = part w (at + 1) h.bytes in
    cond (v == 1) (marked_r k R h (at + 1) m)
    (need (v == 0) (refused 11 (h.base + at))
    (need (h.ignored.absent || all_zero x) (refused 4 (h.base + (at + 1) + zeros x))
    (done NO m)))

-- "10, 11, 12: no such symbol; bool or flag not 0, 1; 24 hours or more", at the value
unfoldable pub plain_r : ℕ → Test → Reader
plain_r w t h at m =
    let x : List ℕ = part w at h.bytes in
    need (passes t x) (refused (test_fault t) (h.base + at)) (done x m)

-- "Inline text: 7, 8, 9." The record has the count in four bytes.
unfoldable pub inline_r : Bool → ℕ → Reader
inline_r u c h at m =
    let n : ℕ = byte at h.bytes in
    let x : List ℕ = part n (at + 1) h.bytes in
    let y : List ℕ = part (c - n) (at + 1 + n) h.bytes in
    need (nat_le n c) (refused 7 (h.base + at))
    (need (h.ignored.unused || all_zero y) (refused 8 (h.base + (at + 1 + n) + zeros y))
    (need (text_ok u x) (refused 9 (h.base + (at + 1)))
    (done (bytes_of 4 n ++ x) m)))

-- VALUES IN THE DATA AREA

-- "The data area runs from the end of the fields to the end of the group."
unfoldable pub in_area : Here → ℕ → Bool
in_area h p = nat_le h.area p && nat_lt p (length h.bytes)

-- Where an offset leads: a fault; or the place, the count or size word there, and the occupancy with the value taken.
pub data Place : Type 0 where
  lost : ℕ → ℕ → Place
  found : ℕ → ℕ → List ℕ → Place

-- "An offset counts from its own first byte, as a whole number that never wraps."
-- "Offset: 5, 26 for the count or size word, 26 or 13 for the rest, 27." The value is the word n and n times w bytes; `past` is the fault of the rest.
unfoldable pub locate : ℕ → ℕ → Here → ℕ → List ℕ → Place
locate past w h at m =
    let b : List ℕ = h.bytes in
    let p : ℕ = at + word at b in
    let n : ℕ = word p b in
    need (in_area h p) (lost 5 (h.base + at))
    (need (nat_le (p + 4) (length b)) (lost 26 (h.base + p))
    (need (nat_le (p + (4 + n * w)) (length b)) (lost past (h.base + p))
    (need (free p (4 + n * w) m) (lost 27 (h.base + p))
    (found p n (occupy p (4 + n * w) m)))))

-- ".. then the contents": `inside` reads them, from the word and its place on.
unfoldable pub onward : Place → Here → (ℕ → Reader) → Reading
onward (lost n p) h inside = refused n p
onward (found p n m) h inside = inside n h p m

unfoldable pub indirect_r : ℕ → ℕ → (ℕ → Reader) → Reader
indirect_r past w inside h at m = onward (locate past w h at m) h inside

-- "Indirect string: u32 count and bytes." 9 stands at the first text byte.
unfoldable pub text_r : Bool → ℕ → Reader
text_r u n h p m =
    need (text_ok u (part n (p + 4) h.bytes)) (refused 9 (h.base + (p + 4))) (done (part (4 + n) p h.bytes) m)

-- "A dynamic group is checked as a part of its enclosing group's bytes, with a data area of its own."
unfoldable pub inner_r : Inner → ℕ → ℕ → Reader
inner_r I g n h p m = next (I g (h.base + p) (part (4 + n) p h.bytes)) (λ _. done [] m)

-- "Sequence: u32 count and items." n items, each w bytes further; and with the count before them.
unfoldable pub items_r : ℕ → Reader → ℕ → Reader
items_r w R zero h at m = none_r h at m
items_r w R (suc n) h at m = next (R h at m) (λ m'. items_r w R n h (at + w) m')

unfoldable pub list_r : ℕ → Reader → ℕ → Reader
list_r w R n h p m = prefixed (part 4 p h.bytes) (items_r w R n h (p + 4) m)

-- FIELDS
-- I reads dynamic groups, S static ones, and sw gives a static group's width.

unfoldable pub kind_r : Inner → (ℕ → Reader) → Kind → Reader
kind_r I S (plain w t) = plain_r w t
kind_r I S (inline u c) = inline_r u c
kind_r I S (indirect u) = indirect_r 26 1 (text_r u)
kind_r I S (static g) = S g
kind_r I S (dynamic g) = indirect_r 26 1 (inner_r I g)

-- A field without its flag and its mark.
unfoldable pub value_r : Inner → (ℕ → ℕ) → (ℕ → Reader) → Field → Reader
value_r I sw S f =
    cond f.sequence
    (indirect_r 13 (kind_width sw f.kind) (list_r (kind_width sw f.kind) (marked_r (kind_mark f.kind) (kind_r I S f.kind))))
    (kind_r I S f.kind)

unfoldable pub field_r : Inner → (ℕ → ℕ) → (ℕ → Reader) → Field → Reader
field_r I sw S f =
    cond f.optional (optional_r (field_mark f) (value_width sw f) (value_r I sw S f)) (marked_r (field_mark f) (value_r I sw S f))

-- "fields in order"
unfoldable pub fields_r : Inner → (ℕ → ℕ) → (ℕ → Reader) → List Field → Reader
fields_r I sw S [] = none_r
fields_r I sw S (f ∷ fs) = then_r (field_width sw f) (field_r I sw S f) (fields_r I sw S fs)

-- "A static group uses its enclosing dynamic group's area." Its static depth is below d.
unfoldable pub static_r : List Group → Inner → ℕ → ℕ → Reader
static_r gs I zero g h at m = none_r h at m
static_r gs I (suc d) g h at m = fields_r I (width gs d) (static_r gs I d) (fields_of gs g) h at m

-- THE EXTENSION

-- "An extension group of unknown type is no fault, by W2 either: it is kept as bytes, not opened, and its contents aren't judged."
-- "`XU` size u32 and that many bytes is a group of unknown type there."
unfoldable pub extending_r : List Group → Inner → ℕ → Reader
extending_r gs I n h p m =
    need (nat_le 12 n) (refused 1 (h.base + p))
    (cond (known gs (le (part 8 (p + 4) h.bytes))) (marked_r GB (inner_r I 0 n) h p m) (marked_r XU (text_r false n) h p m))

-- "`XT` count u32 (at least 1), after the fields, opens the extension's groups." "An extension of no groups means the same as none."
unfoldable pub groups_r : List Group → Inner → ℕ → Reader
groups_r gs I n h p m = cond (n == 0) (done [] m) (marked_r XT (list_r 4 (indirect_r 26 1 (extending_r gs I)) n) h p m)

-- "An extension is a sequence of any groups." An offset of 0 is none.
unfoldable pub extension_r : List Group → Inner → Reader
extension_r gs I h at m = cond (word at h.bytes == 0) (done [] m) (indirect_r 13 4 (groups_r gs I) h at m)

-- ".. its own location tested by 3", which comes before the fields.
unfoldable pub extension_in : Here → ℕ → Bool
extension_in h at = word at h.bytes == 0 || in_area h (at + word at h.bytes)

-- "3, fields in order, extension": the extension's offset stands before the fields, and its groups are read behind them.
unfoldable pub behind_r : Reader → Reader → Reader
behind_r R S h at m = need (extension_in h at) (refused 3 (h.base + at)) (next (R h (at + 4) m) (λ m'. S h at m'))

-- A DYNAMIC GROUP

-- ".., 6", and no occupancy goes out: a nested group's is its own.
unfoldable pub padded : Here → Reading → Reading
padded h (refused n p) = refused n p
padded h (done s m) =
    let x : List ℕ = drop h.area m in
    let y : List ℕ = drop h.area h.bytes in
    need (h.ignored.pads || pads_zero x y) (refused 6 (h.base + h.area + pads_before x y)) (done s [])

-- "14, 3, fields in order, extension, 6." "Size u32, type id u64, extension offset u32, fields, data area."
-- "`GB` type id u64 opens a group, `GE` closes it"; the mark `GB` is written where the group is named.
unfoldable pub body_r : Ignored → List Group → Inner → ℕ → ℕ → List ℕ → Reading
body_r x gs I g base b =
    let h : Here = here x b base (16 + width gs 5 g) in
    need (nat_le (16 + width gs 5 g) (length b)) (refused 14 base)
    (padded h (prefixed (part 8 4 b) (next (behind_r (static_r gs I 5 g) (extension_r gs I) h 12 (replicate (length b) 0)) (λ m. done GE m))))

-- "Group: 1, 2, 25, 24, ..", at the group's start. Its bytes are 4 + size; `body` reads a group of known type, or says that its level is 9.
unfoldable pub head_r : List Group → (ℕ → ℕ → List ℕ → Reading) → Inner
head_r gs body a base b =
    let id : ℕ = le (part 8 4 b) in
    need (nat_le 16 (length b)) (refused 1 base)
    (need (known gs id) (refused 2 base)
    (need (allows gs a (find gs id)) (refused 25 base)
    (body (find gs id) base b)))

-- "The message is level 1, a dynamic group in it one deeper; 8 is the last level." l levels are left.
unfoldable pub group_r : Ignored → List Group → ℕ → Inner
group_r x gs zero = head_r gs (λ g base b. refused 24 base)
group_r x gs (suc l) = head_r gs (body_r x gs (group_r x gs l))

-- THE MESSAGE

-- "22: under 4 bytes, or length not 4 + size", then the group.
unfoldable pub walk : Ignored → List Group → List ℕ → Reading
walk x gs b =
    need (nat_le 4 (length b) && length b == 4 + word 0 b) (refused 22 0)
    (prefixed (mark_bytes GB) (group_r x gs 8 0 0 b))

-- "Whole message: 20, 23, 21, 22": the two tests behind 20, where the scratch has this length, and what follows them.
abbrev pub fitting : ℕ → List ℕ → Reading → Reading
fitting scratch b r =
    need (nat_le (length b) 65536) (refused 23 0)
    (need (nat_le (length b) scratch) (refused 21 0)
    r)

unfoldable pub message_r : Ignored → List Group → ℕ → List ℕ → Reading
message_r x gs scratch b = fitting scratch b (walk x gs b)
