-- What the code that writes a message asks of its callers and what it leaves. The sheet was checked before, so nothing is tested:
-- every bound comes from the writing that there is.
use Prim.{Unit}
use Rattle.std.specs.Prelude.{◌≡◌, true, List, [], ◌++◌, ℕ, ◌+◌, ◌-◌, ◌<◌, ◌≤◌, length, drop}
use Rattle.wire.specs.Bytes.{part, splice, bytes_of, le}
use Rattle.schema.specs.Schema.{find, shallow}
use Rattle.schema.specs.Table.{schema}
use Rattle.schema.specs.declared.Scope.{Scope}
use Rattle.schema.specs.declared.Scope.TheVariants.{Whole, Fields}
use Rattle.message.specs.Check.{width_of}
use Rattle.sheet.specs.Written.{Writing, stopped, wrote, Writer}
use Rattle.sheet.specs.Writers.{inner_of, static_of, extension_of}
use Rattle.writing.specs.declared.Opened.{Opened}

-- WHAT IS WRITTEN

-- F in place from `at` on, D in the data area from `free` on.
abbrev pub put : ℕ → ℕ → List ℕ → List ℕ → List ℕ → List ℕ
put at free F D out = splice (length D) free D (splice (length F) at F out)

-- The writing is one, and `out` has room for it: in place before the free place, and in the data area.
pub record Fits (x : Writing) (at free : ℕ) (out : List ℕ) : Type 0 where
  pub fixed : List ℕ
  pub values : List ℕ
  pub rest : List ℕ
  pub is : x ≡ wrote fixed values rest
  pub before : at + length fixed ≤ free
  pub room : free + length values ≤ length out

-- It stands in `out`, which became `left`; the sheet s goes on at `pos`, the data area at `end`. All else is what stood there.
pub record Stands (x : Writing) (at free : ℕ) (s out left : List ℕ) (pos end : ℕ) : Type 0 where
  pub fixed : List ℕ
  pub values : List ℕ
  pub is : x ≡ wrote fixed values (drop pos s)
  pub bytes : left ≡ put at free fixed values out
  pub ends : end ≡ free + length values

-- A GROUP, BY ITS SCOPE

-- A value without its offset: nothing in place, its own bytes and then what hangs on it in the data area.
unfoldable pub behind : Writing → Writing
behind (stopped n p) = stopped n p
behind (wrote X Y r) = wrote [] (X ++ Y) r

-- A dynamic group is a value of its own, whose places count from its first byte.
unfoldable pub group_of : List ℕ → ℕ → ℕ → Scope → Writer
group_of t levels depth (Whole allowed) at free r = behind (inner_of t levels allowed r)
group_of t levels depth (Fields g) at free r = static_of t levels depth g at free r

unfoldable pub place_of : Scope → ℕ → ℕ
place_of (Whole allowed) n = 0
place_of (Fields g) n = n

-- Where its fields begin, and how deep they may lie.
unfoldable pub Scoped : List ℕ → ℕ → Scope → ℕ → Type 0
Scoped t depth (Whole allowed) at = (depth ≡ 5) × (at ≡ 16)
Scoped t depth (Fields g) at = (g < length (schema t)) × (shallow (schema t) depth g ≡ true)

-- BEFORE ITS FIELDS

-- A dynamic group takes a level and begins with its type id.
unfoldable pub HasHead : ℕ → Scope → ℕ → List ℕ → List ℕ → Type 0
HasHead levels (Whole allowed) pos s out = (0 < levels) × (pos + 8 ≤ length s) × (12 ≤ length out)
HasHead levels (Fields g) pos s out = Unit {0}

unfoldable pub open_of : List ℕ → ℕ → Scope → ℕ → ℕ → List ℕ → Opened
open_of t levels (Whole allowed) pos free s =
    let g = find (schema t) (le (part 8 pos s)) in
    record { group = g; levels = levels - 1; ends = record { pos = pos + 8; free = 16 + width_of t 5 g } }
open_of t levels (Fields g) pos free s = record { group = g; levels = levels; ends = record { pos = pos; free = free } }

unfoldable pub head_of : Scope → ℕ → List ℕ → List ℕ → List ℕ
head_of (Whole allowed) pos s out = splice 8 4 (part 8 pos s) out
head_of (Fields g) pos s out = out

-- BEHIND ITS FIELDS

-- A dynamic group ends with its extension and a mark.
unfoldable pub HasEnd : List ℕ → ℕ → Scope → ℕ → ℕ → List ℕ → List ℕ → Type 0
HasEnd t levels (Whole allowed) pos free s out = (f : Fits (extension_of t levels 12 free (drop pos s)) 12 free out) × (2 ≤ length f.rest)
HasEnd t levels (Fields g) pos free s out = Unit {0}

-- Once the extension stands in `mid`, the size is known.
unfoldable pub Ended : List ℕ → ℕ → Scope → ℕ → ℕ → List ℕ → List ℕ → List ℕ → ℕ → ℕ → Type 0
Ended t levels (Whole allowed) pos free s out left p end =
    (mid : List ℕ) × (q : ℕ) × Stands (extension_of t levels 12 free (drop pos s)) 12 free s out mid q end × (left ≡ splice 4 0 (bytes_of 4 (end - 4)) mid) × (p ≡ q + 2)
Ended t levels (Fields g) pos free s out left p end = (left ≡ out) × (p ≡ pos) × (end ≡ free)
