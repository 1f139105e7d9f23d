-- What every accepted table gives: its enumerations are in order, so request 4's theorems hold of them, its groups begin with those above them, and
-- what they store is their width.
use Rattle.std.proofs.Common.{Ok}
use mathlib.Core.Path.{◌≡◌, refl, sym, ap, ◌∙◌}
use mathlib.Core.Bool.{Bool, true, false, ◌||◌, ◌&&◌}
use mathlib.Core.List.{List, [], ◌++◌, append_assoc, append-nil}
use Prim.Native.Nat.{ℕ, zero, suc, ◌-◌, ◌<◌}
use native.Mathlib.Omega.{arith}
use lib.ListN.{length, length-append, get_or-append}
use lib.Seq.{take-append-le}
use lib.Dec.{ltb, eqb}
use borrow.Author.Tests.{eqb-true, ltb-true}
use Rattle.schema.specs.Schema.{Field, Group, fields_width, fields_of, super_of, under}
use Rattle.schema.specs.Table.{widths_verdict, table_verdict}
use Rattle.schema.proofs.Symbols.{nine}
use Rattle.table.specs.Claims.{Begins, BeginsSuper, SameField, Inherits, StoredWidths, AcceptedTables, TrueWidths}
use Rattle.schema.proofs.Forms.{schema-to_gr, places-to_gr}
use Rattle.table.proofs.Supers.{groups-placed}
use Rattle.table.proofs.Stored.{stored-true}
use Rattle.table.proofs.Formed.{passed, all-marked}
use Rattle.table.proofs.Accepted.{accepted}
use Rattle.table.proofs.Values.{accepted-ordered}

begins-all : (xs : List Field) → Begins xs xs
begins-all xs = ([], sym (append-nil xs))

begins-on : (xs ys zs : List Field) → Begins xs ys → Begins ys zs → Begins xs zs
begins-on xs ys zs (r, e) (s, f) = (s ++ r, e ∙ ap (λ (l : List Field). l ++ r) f ∙ append_assoc zs s r)

module _ (gs : List Group) (super : BeginsSuper gs) where
  above : (n a g : ℕ) → under gs n a g ≡ true → Begins (fields_of gs g) (fields_of gs a)
  unfolding under
  above zero a g h = rw (eqb-true a g h) (begins-all (fields_of gs g))
  above (suc n) a g h = go (eqb a g) (ltb 0 (super_of gs g)) refl refl h (above n a (super_of gs g - 1))
    where
      go : (c d : Bool) → eqb a g ≡ c → ltb 0 (super_of gs g) ≡ d → (c || d && under gs n a (super_of gs g - 1)) ≡ true
          → (under gs n a (super_of gs g - 1) ≡ true → Begins (fields_of gs (super_of gs g - 1)) (fields_of gs a)) → Begins (fields_of gs g) (fields_of gs a)
      go true d p q h k = rw (eqb-true a g p) (begins-all (fields_of gs g))
      go false true p q h k = begins-on (fields_of gs g) (fields_of gs (super_of gs g - 1)) (fields_of gs a) (super g (ltb-true 0 (super_of gs g) q)) (k h)
      go false false p q h k = absurd (let z : ◌≡◌ {A = ℕ} 0 1 = cc in omega arith)

  same-field : (a g n : ℕ) → Begins (fields_of gs g) (fields_of gs a) → n < length (fields_of gs a) → SameField gs a g n
  same-field a g n (r, e) l = record {
    there = rw e (rw (length-append (fields_of gs a) r) (omega arith));
    same = λ none. rw e (get_or-append (fields_of gs a) r none n l);
    place = λ sw. ap (fields_width sw) (rw e (take-append-le n (fields_of gs a) r (omega arith)));
  }

  pub inherits-all : Inherits gs
  inherits-all = record { super = super; above = λ a g. above g a g; field = λ a g n h. same-field a g n (above g a g h) }

stored-widths : (t : List ℕ) → table_verdict t ≡ Ok tt → StoredWidths t
stored-widths t h =
    let p = passed t h in
    let m = all-marked t p.shape in
    record { mark = (m.0, λ g l. m.1 g (rw (← (groups-placed t)) l)); own = λ g l. stored-true t p.stored g (rw (← (groups-placed t)) l) }

pub true-widths : TrueWidths
unfolding widths_verdict
true-widths t = rw (schema-to_gr t, places-to_gr t)

pub accepted-tables : AcceptedTables
accepted-tables = record {
  lists = λ t h. record { ordered = accepted-ordered t h; nine = λ e v. nine _ v (accepted-ordered t h e) };
  inherits = λ t h. inherits-all _ (accepted t h).begins;
  widths = stored-widths;
}
