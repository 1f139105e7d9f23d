-- An enumeration's symbols where they stand in the table, and the search for one of them: what a step does, and that nine decide.
use Rattle.std.proofs.Common.{◌≡◌, ℕ, zero, suc, ◌+◌, ◌-◌, ◌*◌, ◌/◌, ◌%◌, ◌^◌, ◌<◌, ◌≤◌, Bool, true, false, cond, ◌||◌, eqb, ltb, ◌⊎◌, List, [], ◌∷◌, length, get_or, drop, pos, negsuc, sym, refl, ap, ◌∙◌, inl, inr, arith, drop-drop, ltb-false, ltb-true, le-ltb, lt-ltb, eq-eqb, ne_eqb, eqb-true}
use native.Mathlib.Nat.{pow-succ'}
use lib.Signed.{lt_z}
use Rattle.wire.specs.Bytes.{signed}
use borrow.Author.Tests.{eqb-false}
use Rattle.schema.specs.Schema.{member}
use Rattle.schema.specs.Symbols.{rank, Ordered, start, halve, steps}
use Rattle.schema.specs.Table.{symbol_value, values_at, enums}
use Rattle.schema.specs.Layout.{symbol_place, symbol_total, Layout}
use Rattle.schema.specs.Claims.{Equals, Halves, Decides}
use Rattle.schema.specs.declared.Search.{Search}

-- WHERE THEY STAND

pub values_length : (n : ℕ) (s : List ℕ) → length (values_at n s) ≡ n
unfolding values_at
values_length zero s = refl
values_length (suc n) s = ap suc (values_length n (drop 16 s))

values-at : (n i : ℕ) (s : List ℕ) → i < n → get_or (values_at n s) i 0 ≡ symbol_value (drop (16 * i) s)
unfolding values_at
values-at zero i s h = absurd (omega arith)
values-at (suc n) zero s h = refl
values-at (suc n) (suc i) s h = let e : 16 + 16 * i ≡ 16 * suc i = omega arith in values-at n i (drop 16 s) (omega arith) ∙ rw (drop-drop (16 * i) 16 s, e)

module _ (t k : List ℕ) (l : Layout t k) (e : ℕ) (h : e < 64) where
  abbrev symbols : List ℕ
  symbols = get_or (enums t) e []

  pub symbols-count : length symbols ≡ symbol_total k e
  symbols-count = ap length (l.symbols e h) ∙ values_length (symbol_total k e) (drop (symbol_place k e) t)

  module _ (i : ℕ) (n : i < length symbols) where
    pub symbol-inside : symbol_place k e + 16 * i + 16 ≤ length t
    symbol-inside = omega (arith, symbols-count, l.held e h)

    pub symbol-stands : symbol_value (drop (symbol_place k e + 16 * i) t) ≡ get_or symbols i 0
    symbol-stands =
        sym (rw (l.symbols e h) (values-at (symbol_total k e) i (drop (symbol_place k e) t) (omega (arith, symbols-count)) ∙ rw (drop-drop (16 * i) (symbol_place k e) t)))

-- THEIR ORDER

same-order : (a b c d : ℕ) → (a < b → c < d) → (b ≤ a → d ≤ c) → ltb a b ≡ ltb c d
same-order a b c d f g = go (ltb a b) refl
  where
    go : (x : Bool) → ltb a b ≡ x → x ≡ ltb c d
    go true e = sym (lt-ltb c d (f (ltb-true a b e)))
    go false e = sym (le-ltb c d (g (ltb-false a b e)))

pub rank-order : (v w : ℕ) → v < 2 ^ 32 → w < 2 ^ 32 → ltb (rank v) (rank w) ≡ lt_z (signed 31 v) (signed 31 w)
unfolding rank
rank-order v w h l = go (ltb v (2 ^ 31)) (ltb w (2 ^ 31)) refl refl
  where
    a : ℕ
    a = (v + 0x80000000) % 0x100000000

    b : ℕ
    b = (w + 0x80000000) % 0x100000000

    go : (c d : Bool) → ltb v (2 ^ 31) ≡ c → ltb w (2 ^ 31) ≡ d → ltb a b ≡ lt_z (cond c (pos v) (negsuc (2 ^ 32 - 1 - v))) (cond d (pos w) (negsuc (2 ^ 32 - 1 - w)))
    go true true p q = let x = ltb-true v (2 ^ 31) p in let y = ltb-true w (2 ^ 31) q in same-order a b v w (λ z. omega arith) (λ z. omega arith)
    go true false p q = let x = ltb-true v (2 ^ 31) p in let y = ltb-false w (2 ^ 31) q in le-ltb a b (omega arith)
    go false true p q = let x = ltb-false v (2 ^ 31) p in let y = ltb-true w (2 ^ 31) q in lt-ltb a b (omega arith)
    go false false p q =
        let x = ltb-false v (2 ^ 31) p in
        let y = ltb-false w (2 ^ 31) q in
        same-order a b (2 ^ 32 - 1 - w) (2 ^ 32 - 1 - v) (λ z. omega arith) (λ z. omega arith)

-- MEMBERS

member-at : (v i : ℕ) (vs : List ℕ) → i < length vs → get_or vs i 0 ≡ v → member v vs ≡ true
unfolding member
member-at v i [] h e = absurd (omega arith)
member-at v zero (x ∷ xs) h e = rw (eq-eqb v x (sym e))
member-at v (suc i) (x ∷ xs) h e = rw (member-at v i xs (omega arith) e) (or-true (eqb v x))
  where
    or-true : (b : Bool) → (b || true) ≡ true
    or-true true = refl
    or-true false = refl

member-none : (v : ℕ) (vs : List ℕ) → ((i : ℕ) → i < length vs → get_or vs i 0 ≡ v → ⊥) → member v vs ≡ false
unfolding member
member-none v [] h = refl
member-none v (x ∷ xs) h = rw (ne_eqb v x (λ e. h 0 (omega arith) (sym e))) (member-none v xs (λ i l. h (suc i) (omega arith)))

-- THE SEARCH

module _ (vs : List ℕ) (v : ℕ) where
  -- the steps that are left of nine, from s on
  pub record Running (s : Search) : Type 0 where
    pub left : ℕ
    pub same : steps 9 vs v (start vs) ≡ steps left vs v s

  pub running : (n : ℕ) → length vs ≡ n → Running (record { at = n; first = 0; count = n })
  running n e = record { left = 9; same = ap (λ (n : ℕ). steps 9 vs v (record { at = n; first = 0; count = n })) e }

  steps-over : (n : ℕ) (s : Search) → s.count ≤ 0 → steps n vs v s ≡ s
  unfolding steps
  steps-over zero s h = refl
  steps-over (suc n) s h = rw (le-ltb 0 s.count h)

  steps_on : (n : ℕ) (s : Search) → 0 < s.count → steps (suc n) vs v s ≡ steps n vs v (halve vs v s)
  unfolding steps
  steps_on n s h = rw (lt-ltb 0 s.count h)

  module _ (o : Ordered vs) where
    -- A STEP

    module _ (s : Search) (h : 0 < s.count) (l : s.first + s.count ≤ length vs) where
      abbrev half : ℕ
      half = s.count / 2

      abbrev m : ℕ
      m = s.first + half

      abbrev x : ℕ
      x = get_or vs m 0

      abbrev after : Bool → Bool → Search
      after c d = record { at = cond c m s.at; first = cond d (s.first + (s.count - half)) s.first; count = half }

      -- a symbol that equals v stands on the side that v's rank says
      module _ (i : ℕ) (e : Equals vs v s i) where
        lower : rank x ≤ rank v → i < m → ⊥
        lower q z = absurd (omega (arith, q, o.rise i m z (omega arith), ap rank e.equal))

        higher : rank v ≤ rank x → m < i → ⊥
        higher q z = absurd (omega (arith, q, o.rise m i z (omega (arith, e.before)), ap rank e.equal))

        apart : eqb x v ≡ false → m ≡ i → ⊥
        apart p z = eqb-false _ _ p (ap (λ (j : ℕ). get_or vs j 0) z ∙ e.equal)

        keeps : (c d : Bool) → eqb x v ≡ c → ltb (rank x) (rank v) ≡ d → ((after c d).at ≡ i) ⊎ Equals vs v (after c d) i
        keeps true d p q = let r = ap rank (eqb-true x v p) in inl (omega (arith, lower (omega (arith, r)), higher (omega (arith, r))))
        keeps false true p q =
            let n = lower (omega (arith, ltb-true (rank x) (rank v) q)) in
            inr (record { from = omega (arith, n, apart p); before = omega (arith, e.before); equal = e.equal })
        keeps false false p q = inr (record { from = e.from; before = omega (arith, higher (ltb-false _ _ q), apart p); equal = e.equal })

      among : (d : Bool) → (s.first ≤ (after true d).first) × ((after true d).first + half ≤ s.first + s.count)
      among true = (omega arith, omega arith)
      among false = (omega arith, omega arith)

      finds : (c : Bool) → eqb x v ≡ c → ((after c true).at ≡ s.at) ⊎ Equals vs v s (after c true).at
      finds true p = inr (record { from = omega arith; before = omega arith; equal = eqb-true _ _ p })
      finds false p = inl refl

      pub halves : Halves vs v s (halve vs v s)
      unfolding halve
      halves = record {
        half = omega arith;
        among = among (ltb (rank x) (rank v));
        keeps = λ i e. keeps i e (eqb x v) (ltb (rank x) (rank v)) refl refl;
        finds = finds (eqb x v) refl;
      }

    -- NINE STEPS

    -- what the search has found at s equals v, and what equals v is found or in question
    record Sound (s : Search) : Type 0 where
      within : s.first + s.count ≤ length vs
      equal : s.at < length vs → get_or vs s.at 0 ≡ v
      all : (i : ℕ) → i < length vs → get_or vs i 0 ≡ v → (s.at < length vs) ⊎ Equals vs v s i

    sound : Sound (start vs)
    sound = record { within = omega arith; equal = λ l. absurd (omega arith); all = λ i l e. inr (record { from = omega arith; before = omega arith; equal = e }) }

    sound-on : (s : Search) → 0 < s.count → Sound s → Sound (halve vs v s)
    sound-on s h b = record { within = omega (arith, n.among.1, b.within); equal = equal n.finds; all = λ i l e. all i l (b.all i l e) }
      where
        r : Search
        r = halve vs v s

        n : Halves vs v s r
        n = halves s h b.within

        equal : (r.at ≡ s.at) ⊎ Equals vs v s r.at → r.at < length vs → get_or vs r.at 0 ≡ v
        equal (inl e) l = rw e (b.equal (omega (arith, e)))
        equal (inr e) l = e.equal

        stays : (r.at ≡ s.at) ⊎ Equals vs v s r.at → s.at < length vs → r.at < length vs
        stays (inl e) l = omega (arith, e)
        stays (inr e) l = omega (arith, e.before, b.within)

        found : (i : ℕ) → i < length vs → (r.at ≡ i) ⊎ Equals vs v r i → (r.at < length vs) ⊎ Equals vs v r i
        found i l (inl e) = inl (omega (arith, e))
        found i l (inr e) = inr e

        all : (i : ℕ) → i < length vs → (s.at < length vs) ⊎ Equals vs v s i → (r.at < length vs) ⊎ Equals vs v r i
        all i l (inl e) = inl (stays n.finds e)
        all i l (inr e) = found i l (n.keeps i e)

    sound-over : (s : Search) → s.count ≤ 0 → Sound s → Decides vs v s
    sound-over s h b = record { over = omega arith; answer = go (ltb s.at (length vs)) refl }
      where
        none : length vs ≤ s.at → (i : ℕ) → (s.at < length vs) ⊎ Equals vs v s i → ⊥
        none n i (inl l) = absurd (omega arith)
        none n i (inr e) = absurd (omega (arith, e.from, e.before))

        go : (c : Bool) → ltb s.at (length vs) ≡ c → c ≡ member v vs
        go true q = let l = ltb-true _ _ q in sym (member-at v s.at vs l (b.equal l))
        go false q = sym (member-none v vs (λ i l e. none (ltb-false _ _ q) i (b.all i l e)))

    decided : (n : ℕ) (s : Search) → s.count < 2 ^ n → Sound s → Decides vs v (steps n vs v s)
    unfolding steps
    decided zero s l b = sound-over s (omega arith) b
    decided (suc n) s l b = go (ltb 0 s.count) refl (decided n (halve vs v s))
      where
        go : (c : Bool) → ltb 0 s.count ≡ c → ((halve vs v s).count < 2 ^ n → Sound (halve vs v s) → Decides vs v (steps n vs v (halve vs v s)))
            → Decides vs v (cond c (steps n vs v (halve vs v s)) s)
        go true q d = let h = ltb-true _ _ q in let w = rw pow-succ' at l in d (omega (arith, (halves s h b.within).half, w)) (sound-on s h b)
        go false q d = sound-over s (ltb-false _ _ q) b

    pub nine : Decides vs v (steps 9 vs v (start vs))
    nine = decided 9 (start vs) (omega (arith, o.few)) sound

    -- THE LOOP

    pub running-over : (s : Search) → s.count ≤ 0 → Running s → ltb s.at (length vs) ≡ member v vs
    running-over s h r = rw (r.same ∙ steps-over r.left s h) at nine.answer

    pub running-on : (s : Search) → 0 < s.count → Running s → Running (halve vs v s)
    unfolding steps
    running-on s h r = go r.left r.same
      where
        go : (n : ℕ) → steps 9 vs v (start vs) ≡ steps n vs v s → Running (halve vs v s)
        go zero e = absurd (omega (arith, ap (λ (s : Search). s.count) e, nine.over))
        go (suc n) e = record { left = n; same = e ∙ steps_on n s h }
