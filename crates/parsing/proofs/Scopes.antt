-- A group that is opened, by its scope.
use Rattle.std.proofs.Common.{Result}
use mathlib.Core.Path.{◌≡◌, ◌∙◌}
use mathlib.Core.Bool.{true}
use mathlib.Core.List.{List}
use Prim.Native.Nat.{ℕ, ◌+◌, ◌-◌, ◌*◌, ◌<◌}
use native.Mathlib.Omega.{arith}
use lib.ListN.{length, drop}
use Rattle.wire.specs.Bytes.{part, le}
use Rattle.wire.proofs.Laws.{length_part}
use Rattle.schema.specs.declared.Fault.{Fault}
use Rattle.schema.specs.Schema.{find, allows}
use Rattle.schema.specs.Table.{schema}
use Rattle.schema.specs.Layout.{Layout, width_in}
use Rattle.schema.specs.declared.Scope.{Scope}
use Rattle.schema.specs.declared.Scope.TheVariants.{Whole, Fields}
use Rattle.schema.proofs.Groups.{layout-width}
use Rattle.message.specs.Sheet.{GB, mark_bytes}
use Rattle.sheet.specs.Show.{takes}
use Rattle.sheet.specs.Writers.{inner_of, static_of}
use Rattle.parsing.specs.Count.{capped}
use Rattle.parsing.specs.Parse.{record_fault, group_of, close_of, Ready, Shallow, Within, opened, Opening, Opens}
use Rattle.parsing.specs.declared.Opened.{Opened}
use Rattle.parsing.proofs.Answers.{capped_le}
use Rattle.parsing.proofs.Records.{record-inside}
use Rattle.parsing.proofs.Groups.{body-stopped, body-passed, group-body}
use Rattle.parsing.proofs.Loops.{none_passed}

-- its head took 10 bytes of the sheet
pub opens-whole : (t k s : List ℕ) → Layout t k → (pos d : ℕ) → Ready s pos d → (a l : ℕ) → record_fault (mark_bytes GB) 8 (drop pos s) ≡ 0
    → (g : ℕ) → g ≡ find (schema t) (le (part 8 (pos + 2) s)) → g < length (schema t) → allows (schema t) a g ≡ true → (l ≡ 0 → ⊥)
    → (w : ℕ) → w ≡ width_in k g → (e : ℕ) → e ≡ capped (d + (16 + w)) → Opening t s l 5 (Whole a) pos d (opened g (l - 1) (pos + 10) e)
unfolding group_of close_of takes
opens-whole t k s P pos d R a l z g ig h p o w iw e ie =
    let gs = schema t in
    let I = inner_of t (l - 1) in
    let id = part 8 (pos + 2) s in
    let u = record-inside s pos R.inside _ 8 z in
    let l8 = length_part 8 (pos + 2) s (omega (arith, u)) in
    let j = iw ∙ layout-width t k P g in
    let b = group-body s pos d R gs a l z g ig h p o in
    record {
      ready = record { small = R.small; inside = u; low = omega (arith, ie, capped_le (d + (16 + w))) };
      shallows = (h, P.shallows g);
      lower = omega (arith, o);
      stops = λ v f. b _ (body-stopped s (pos + 10) d gs I g id l8 w j e ie v f);
      goes = λ v f c m. b c (body-passed s (pos + 10) d gs I g id l8 w j e ie v f c m);
    }

module _ (t s : List ℕ) (levels pos d : ℕ) (scope : Scope) where
  pub open-whole : (o : Result Opened Fault) (a : ℕ) → scope ≡ Whole a → Opens t s levels 5 (Whole a) pos d o → (depth : ℕ) → Within t depth scope → Opens t s levels depth scope pos d o
  unfolding Within
  open-whole o a e f depth h = let q : depth ≡ 5 = rw e at h in rw (e, q) f

  pub open-fields : (g : ℕ) → scope ≡ Fields g → Ready s pos d → (depth : ℕ) → Within t depth scope → Opening t s levels depth scope pos d (opened g levels pos d)
  unfolding Within group_of close_of takes
  open-fields g e R depth h =
      let q : Shallow t depth g = rw e at h in
      let W = static_of t levels depth g in
      rw e record { ready = R; shallows = q; lower = omega arith; stops = λ v f. f; goes = λ v f c m. none_passed s W pos d v f R.small c m }

-- WHAT IS LEFT

-- the measure of a group beyond its levels: the fields of a whole one lie a level lower
abbrev pub weight : ℕ → Scope → ℕ
weight depth (Whole a) = 1
weight depth (Fields g) = 10 * depth + 1

pub less-left : (t : List ℕ) (levels depth l : ℕ) (scope : Scope) → Within t depth scope → l + takes scope ≡ levels → 64 * l + 10 * depth < 64 * levels + weight depth scope
unfolding Within takes
less-left t levels depth l (Whole a) h e = omega (arith, h, e)
less-left t levels depth l (Fields g) h e = omega (arith, e)
