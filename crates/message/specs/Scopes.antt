-- A group, as the check opens, walks and closes it: by its scope a dynamic group, whole, or the fields of a static one.
use Rattle.std.specs.Prelude.{Ok, Err, Result, ◌≡◌, ℕ, ◌+◌, ◌<◌, ◌≤◌, true, List, [], length}
use Rattle.schema.specs.Schema.{shallow}
use Rattle.schema.specs.Table.{schema}
use Rattle.schema.specs.declared.Scope.{Scope}
use Rattle.schema.specs.declared.Scope.TheVariants.{Whole, Fields}
use Rattle.message.specs.Walk.{Here, Reader, extension_r}
use Rattle.message.specs.Count.{Count, failed, counted, count, and_then}
use Rattle.message.specs.Check.{levels_in, ignored_in, occupancy_of, closing, after, within, inner_of, width_of, static_of, Ready}
use Rattle.message.specs.declared.failure.Failure.{Failure}
use Rattle.message.specs.declared.Frame.{Frame}
use Rattle.message.specs.declared.Begun.{Begun}

-- The group, of static depth below d, in the table t and with so many levels left. Of a dynamic group h has the bytes.
abbrev pub group_of : List ℕ → ℕ → ℕ → Scope → Reader
group_of t levels d (Whole a) h at m = inner_of h.ignored t levels a h.base h.bytes
group_of t levels d (Fields g) h at m = static_of h.ignored t levels d g h at m

-- What comes behind its fields: "extension, 6" of a dynamic group.
abbrev pub behind_of : List ℕ → ℕ → Scope → Here → List ℕ → Count
behind_of t levels (Whole a) h m = and_then (count (extension_r (schema t) (inner_of h.ignored t levels) h 12 m)) (closing h)
behind_of t levels (Fields g) h m = counted 0 m

-- The occupancy that it leaves: a dynamic group's is its own.
abbrev pub left_of : Scope → ℕ → ℕ → List ℕ → List ℕ
left_of (Whole a) area s m = []
left_of (Fields g) area s m = occupancy_of area s m

-- Its fields stand at this place of the bytes b. Those of a dynamic group follow its head, and there is room for them once it is opened.
abbrev pub Lies : List ℕ → ℕ → Scope → List ℕ → ℕ → Type 0
Lies t d (Whole a) b at = (d ≡ 5) × (at ≡ 16)
Lies t d (Fields g) b at = (at + width_of t d g ≤ length b) × (g < length (schema t)) × (shallow (schema t) d g ≡ true)

-- Its frame f, in the frame o: a dynamic group has one of its own, a level deeper; a static group is in that of the group that holds it.
abbrev pub Inside : Scope → Frame → Frame → Type 0
Inside (Whole a) o f = ((levels_in f.rules) + 1 ≡ (levels_in o.rules)) × (16 ≤ f.area)
Inside (Fields g) o f = f ≡ o

-- It is begun: its count c, behind k bytes of the sheet, is that of the fields of its number and of what follows them, behind g.length bytes.
pub record Begins (t i b m : List ℕ) (o : Frame) (d : ℕ) (z : Scope) (at k : ℕ) (c : Count) (g : Begun) : Type 0 where
  pub ready : Ready t i b m g.frame
  pub fits : Lies t d (Fields g.group) b at
  pub inside : Inside z o g.frame
  pub counts : after k c ≡ after g.length (and_then (count (static_of (ignored_in g.frame.rules) t (levels_in g.frame.rules) d g.group (within b g.frame) at (occupancy_of g.frame.area g.taken m))) (behind_of t (levels_in g.frame.rules) z (within b g.frame)))

-- It is opened: begun, or refused by its first fault.
unfoldable pub Opens : List ℕ → List ℕ → List ℕ → List ℕ → Frame → ℕ → Scope → ℕ → ℕ → Count → Result Begun Failure → Type 0
Opens t i b m o d z at k c (Ok g) = Begins t i b m o d z at k c g
Opens t i b m o d z at k c (Err f) = c ≡ failed f.number f.place
