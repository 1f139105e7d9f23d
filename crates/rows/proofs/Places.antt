-- The search for a group's record, one record of the table after the other.
use Prim.Native.Nat.{ℕ, zero, suc, ◌+◌, ◌*◌, ◌/◌}
use mathlib.Core.Path.{◌≡◌, refl, sym, ap, ◌∙◌}
use mathlib.Core.Bool.{Bool, true, false, cond, ◌&&◌}
use mathlib.Core.List.{List, ◌∷◌, map}
use native.Mathlib.Omega.{arith}
use lib.ListN.{length, get_or, drop}
use lib.Seq.{drop-drop}
use lib.Dec.{eqb}
use Rattle.std.specs.List.{slice_get, filter, range_with_len, find as first}
use Rattle.std.specs.Option.{option_map, unwrap_or}
use Rattle.std.specs.declared.option.Option.{Option}
use Rattle.std.specs.declared.option.Option.TheVariants.{Some}
use Rattle.std.proofs.lemmas.Option.{unwrap_or-slice_get}
use Rattle.std.proofs.lemmas.Iterator.Adapters.{option_map_id}
use Rattle.schema.specs.Schema.{Group, find}
use Rattle.schema.specs.Table.{group_marked, id_flag, type_id, group_at, groups_from, places_from, enums, schema, places}
use Rattle.rows.specs.Rows.{place_of, place_named}

-- the places of the table's records, from record i on
abbrev pub records_from : ℕ → ℕ → List ℕ
records_from i n = map (λ k. 16 * k) (range_with_len i n)

further : (i : ℕ) → 16 * i + 16 ≡ 16 * (i + 1)
further i = omega arith

groups : (t : List ℕ) (n i : ℕ) → places_from n (16 * i) (drop (16 * i) t) ≡ filter (λ at. group_marked (drop at t)) (records_from i n)
unfolding places_from
groups t zero i = refl
groups t (suc n) i = rw (drop-drop 16 (16 * i) t, further i, groups t n (i + 1))

pub place-numbered : (t : List ℕ) (g : ℕ) (r : Option ℕ) → option_map (λ x. x) r ≡ slice_get (filter (λ at. group_marked (drop at t)) (records_from 0 (length t / 16))) g
    → unwrap_or r (length t) ≡ place_of t g
unfolding place_of places
place-numbered t g r e =
    ap (λ o. unwrap_or o (length t)) (sym (option_map_id r) ∙ e) ∙ unwrap_or-slice_get _ g (length t)
    ∙ ap (λ ps. get_or ps g (length t)) (sym (groups t (length t / 16) 0))

abbrev pub named : List ℕ → ℕ → ℕ → Bool
named t id at = group_marked (drop at t) && (eqb (id_flag (drop at t)) 1 && eqb (type_id (drop at t)) id)

first-named : (t : List ℕ) (id n i : ℕ) → unwrap_or (first (named t id) (records_from i n)) (length t)
    ≡ get_or (places_from n (16 * i) (drop (16 * i) t)) (find (groups_from (enums t) n (drop (16 * i) t)) id) (length t)
unfolding places_from groups_from find group_at
first-named t id zero i = refl
first-named t id (suc n) i =
    let s = drop (16 * i) t in
    go (group_marked s) (eqb (id_flag s) 1 && eqb (type_id s) id) (first (named t id) (records_from (i + 1) n)) (group_at (enums t) s)
    (groups_from (enums t) n (drop 16 s)) (places_from n (16 * i + 16) (drop 16 s)) refl
    (rw (drop-drop 16 (16 * i) t, further i) (first-named t id n (i + 1)))
  where
    go : (b c : Bool) (o : Option ℕ) (g : Group) (gs : List Group) (ps : List ℕ) → c ≡ (g.has_id && eqb g.id id) → unwrap_or o (length t) ≡ get_or ps (find gs id) (length t)
        → unwrap_or (cond (b && c) (Some (16 * i)) o) (length t) ≡ get_or (cond b (16 * i ∷ ps) ps) (find (cond b (g ∷ gs) gs) id) (length t)
    go true true o g gs ps e h = rw (← e)
    go true false o g gs ps e h = rw (← e) h
    go false c o g gs ps e h = h

pub place-named : (t : List ℕ) (id : ℕ) (r : Option ℕ) → option_map (λ x. x) r ≡ first (named t id) (records_from 0 (length t / 16)) → unwrap_or r (length t) ≡ place_named t id
unfolding place_named place_of places schema
place-named t id r e = ap (λ o. unwrap_or o (length t)) (sym (option_map_id r) ∙ e) ∙ first-named t id (length t / 16) 0
