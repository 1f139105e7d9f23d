-- A group by its scope: dynamic or static, from its head over its fields to its end.
use Prim.{tt}
use Prim.Native.Nat.{ℕ, ◌+◌, ◌-◌, ◌*◌, ◌<◌, ◌≤◌}
use mathlib.Core.Path.{◌≡◌, refl, ap}
use mathlib.Core.Bool.{true}
use mathlib.Core.List.{List}
use native.Mathlib.Omega.{arith}
use lib.ListN.{length, drop, length-drop}
use Rattle.wire.specs.Bytes.{part, splice, bytes_of, le}
use Rattle.schema.specs.Schema.{find, shallow}
use Rattle.schema.specs.Table.{schema}
use Rattle.schema.specs.Layout.{Layout}
use Rattle.schema.specs.declared.Scope.{Scope}
use Rattle.schema.specs.declared.Scope.TheVariants.{Whole, Fields}
use Rattle.schema.proofs.Depth.{shallow-some}
use Rattle.message.specs.Check.{width_of}
use Rattle.sheet.specs.Writers.{static_of, extension_of}
use Rattle.writing.specs.declared.Opened.{Opened}
use Rattle.writing.specs.Write.{Fits, Stands, group_of, place_of, Scoped, HasHead, open_of, head_of, HasEnd, Ended}
use Rattle.writing.proofs.Left.{one-writing}
use Rattle.writing.proofs.Groups.{extension-inside, head, body-start, fields-fits, extension-fits, contents-stand, whole-stands}

-- WHERE THE CODE HAS MATCHED

module _ (sc : Scope) (a : ℕ) (i : sc ≡ Whole a) (pos free : ℕ) (s out : List ℕ) where
  pub head-room : (l : ℕ) → HasHead l sc pos s out → (0 < l) × (pos + 8 ≤ length s) × (12 ≤ length out)
  unfolding HasHead
  head-room l h = rw i at h

  pub whole-opens : (t : List ℕ) (l g p w : ℕ) (left : List ℕ) → g ≡ find (schema t) (le (part 8 pos s)) → p ≡ pos + 8 → w ≡ width_of t 5 g → left ≡ splice 8 4 (part 8 pos s) out
      → ◌≡◌ {A = Opened} (record { group = g; levels = l - 1; ends = record { pos = p; free = 16 + w } }) (open_of t l sc pos free s) × (left ≡ head_of sc pos s out)
  unfolding open_of head_of
  whole-opens t l g p w left ig ip iw m = (rw (i, iw, ip, ig), rw i m)

  module _ (t : List ℕ) (l : ℕ) (h : HasEnd t l sc pos free s out) where
    end_fits : (f : Fits (extension_of t l 12 free (drop pos s)) 12 free out) × (2 ≤ length f.rest)
    unfolding HasEnd
    end_fits = rw i at h

    pub end-begins : (pos + 2 ≤ length s) × Fits (extension_of t l 12 free (drop pos s)) 12 free out
    end-begins =
        let f = end_fits in
        let q = extension-inside _ _ _ _ _ _ _ _ f.0.is f.1 in
        (omega (arith, q, length-drop pos s), f.0)

    module _ (mid : List ℕ) (q e : ℕ) (v : Stands (extension_of t l 12 free (drop pos s)) 12 free s out mid q e) where
      pub end-room : (12 ≤ e) × (12 ≤ length out) × (q + 2 ≤ length s)
      end-room =
          let f = end_fits in
          let o = one-writing _ _ _ _ _ _ _ f.0.is v.is in
          (omega (arith, f.0.before, v.ends), omega (arith, f.0.before, f.0.room), omega (arith, f.1, ap length o.2, length-drop q s))

      pub whole-ends : (left : List ℕ) → left ≡ splice 4 0 (bytes_of 4 (e - 4)) mid → Ended t l sc pos free s out left (q + 2) e
      unfolding Ended
      whole-ends left m = rw i (mid, q, v, m, refl)

module _ (sc : Scope) (g : ℕ) (i : sc ≡ Fields g) (t : List ℕ) (l pos free : ℕ) (s out : List ℕ) where
  pub fields_open : ◌≡◌ {A = Opened} (record { group = g; levels = l; ends = record { pos = pos; free = free } }) (open_of t l sc pos free s) × (out ≡ head_of sc pos s out)
  unfolding open_of head_of
  fields_open = rw i (refl, refl)

  pub fields-end : Ended t l sc pos free s out out pos free
  unfolding Ended
  fields-end = rw i (refl, refl, refl)

-- FROM THE HEAD TO THE END

-- what a scope adds to the measure: the fields of a dynamic group lie a level below it
unfoldable pub deep : Scope → ℕ → ℕ
deep (Whole a) d = 0
deep (Fields g) d = 10 * d

module _ (t : List ℕ) (l d at free pos : ℕ) (s out : List ℕ) where
  pub has-head : (sc : Scope) → Scoped t d sc at → Fits (group_of t l d sc at free (drop pos s)) (place_of sc at) (place_of sc free) out → HasHead l sc pos s out
  unfolding group_of place_of Scoped HasHead
  has-head (Whole a) h f = let b = head t l a pos s out f in (b.4, b.5, omega (arith, body-start t l a pos s out f))
  has-head (Fields g) h f = tt

  -- once the head stands in `mid`
  pub record Goes (sc : Scope) (o : Opened) (mid : List ℕ) : Type 0 where
    pub inside : o.group < length (schema t)
    pub low : shallow (schema t) d o.group ≡ true
    pub fits : Fits (static_of t o.levels d o.group at o.ends.free (drop o.ends.pos s)) at o.ends.free mid
    pub falls : (64 * o.levels + 10 * d < 64 * l + deep sc d + 1) × (64 * o.levels + 9 < 64 * l + deep sc d + 1)
    pub ends : (last : List ℕ) (p e : ℕ) → Stands (static_of t o.levels d o.group at o.ends.free (drop o.ends.pos s)) at o.ends.free s mid last p e
        → HasEnd t o.levels sc p e s last × ((left : List ℕ) (p' e' : ℕ) → Ended t o.levels sc p e s last left p' e' → Stands (group_of t l d sc at free (drop pos s)) (place_of sc at) (place_of sc free) s out left p' e')

  pub goes : (k : List ℕ) → Layout t k → (sc : Scope) → Scoped t d sc at → Fits (group_of t l d sc at free (drop pos s)) (place_of sc at) (place_of sc free) out
      → (o : Opened) (mid : List ℕ) → o ≡ open_of t l sc pos free s → mid ≡ head_of sc pos s out → Goes sc o mid
  unfolding group_of place_of Scoped open_of head_of HasEnd Ended deep
  goes k P (Whole a) h f o mid i m = let b = head t l a pos s out f in rw (i, m, h.0, h.1) (record {
    inside = b.6;
    low = P.shallows _;
    fits = fields-fits t l a pos s out f;
    falls = (omega (arith, b.4), omega (arith, b.4));
    ends = λ last p e v. (
      extension-fits t l a pos s out f last p e v,
      λ left p' e' w. rw w.4 (whole-stands t l a pos s out f _ left _ e' (contents-stand t l a pos s out f last p e v _ _ _ w.2) w.3),
    );
  })
  goes k P (Fields g) h f o mid i m = let n = shallow-some (schema t) d g h.1 in rw (i, m) (record {
    inside = h.0;
    low = h.1;
    fits = f;
    falls = (omega arith, omega (arith, n));
    ends = λ last p e v. (tt, λ left p' e' w. rw (w.0, w.1, w.2) v);
  })
