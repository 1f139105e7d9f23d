-- Fields, static groups and dynamic groups: the knot is tied on the levels that are left.
use mathlib.Core.Path.{◌≡◌, refl, sym, ap, ◌∙◌}
use mathlib.Core.Bool.{Bool, true, false, cond, or-true}
use mathlib.Core.List.{List, [], ◌∷◌, ◌++◌, append_assoc, append-nil}
use Prim.Native.Nat.{ℕ, zero, suc, ◌+◌, ◌≤◌, ◌<◌, ◌^◌}
use native.Mathlib.Omega.{arith}
use lib.ListN.{length, take, drop, replicate, length-append, length-take, length-drop, length-replicate, replicate-append-replicate}
use lib.Seq.{take_at, drop_at}
use borrow.Author.Tests.{le-leb, leb-true}
use Rattle.wire.specs.Bytes.{part, le, bytes_of, same}
use Rattle.wire.proofs.Laws.{length-bytes}
use Rattle.schema.specs.Faults.{need}
use Rattle.schema.specs.Schema.{Kind, plain, inline, indirect, static, dynamic, Field, Group, kind_width, value_width, field_width, fields_width, fields_of, width, find, known, allows}
use Rattle.message.specs.Sheet.{GE, mark_bytes, kind_mark, field_mark}
use Rattle.settings.specs.declared.Ignored.{Ignored}
use Rattle.message.specs.Walk.{Here, here, done, Reader, Inner, prefixed, next, kind_r, value_r, field_r, fields_r, static_r, extension_r, behind_r, padded, body_r, head_r, group_r}
use Rattle.meaning.specs.Proper.{SizedKind, SizedFields, Sized}
use Rattle.meaning.proofs.Occupying.{taken-le}
use Rattle.meaning.proofs.Sat.{Sat, unsaid, said, sat-need, sat-prefixed, sat-next, sat-map, sat-padded}
use Rattle.sheet.specs.Written.{Writing, Writer, InnerW, kind_w, value_w, field_w, fields_w, static_w, extension_w, behind_w, framed, closed, body_w, head_w, group_w}
use Rattle.sheet.proofs.Laws.{four, at_right, pads-ones}
use Rattle.sheet.proofs.Match.{SatW, said_w, unsaid_w, satw-is, satw-need, satw-map, Held, Again, Match, match_none, match-then}
use Rattle.sheet.proofs.Layers.{grab-eats, due-eats, satw-grab, satw-due, match-marked, match-optional, match-plain, match-inline}
use Rattle.sheet.proofs.Bodies.{match-indirect, match-text, match-list, match-inner, GroupFit, GroupAgain, GroupMatch}
use Rattle.sheet.proofs.Extension.{Ends, LastTaken, LastMatch, match-extension, match-behind}

-- FIELDS

match-cond : (c : Bool) {w v : ℕ} {R S : Reader} {U W : Writer} → Match w R U → Match v S W → Match (cond c w v) (cond c R S) (cond c U W)
match-cond true A B = A
match-cond false A B = B

module _ (gs : List Group) (I : Inner) (J : InnerW) (G : GroupMatch gs I J) (sw : ℕ → ℕ) (S : ℕ → Reader) (T : ℕ → Writer) (A : (g : ℕ) → Match (sw g) (S g) (T g)) where
  match-kind : (k : Kind) → SizedKind k → Match (kind_width sw k) (kind_r I S k) (kind_w J T k)
  unfolding kind_width kind_r kind_w
  match-kind (plain w t) e = match-plain w t
  match-kind (inline u c) e = match-inline u c e.1
  match-kind (indirect u) e = match-indirect _ _ _ _ (match-text u)
  match-kind (static g) e = A g
  match-kind (dynamic g) e = match-indirect _ _ _ _ (match-inner gs I J G g)

  match-value : (f : Field) → SizedKind f.kind → Match (value_width sw f) (value_r I sw S f) (value_w J sw T f)
  unfolding value_width value_r value_w
  match-value f e = match-cond f.sequence
      (match-indirect _ _ _ _ (match-list _ _ _ (match-marked (kind_mark f.kind) _ _ _ (match-kind f.kind e))))
      (match-kind f.kind e)

  match-field : (f : Field) → SizedKind f.kind → Match (field_width sw f) (field_r I sw S f) (field_w J sw T f)
  unfolding field_width field_r field_w
  match-field f e = match-cond f.optional (match-optional (field_mark f) _ _ _ (match-value f e)) (match-marked (field_mark f) _ _ _ (match-value f e))

  match-fields : (fs : List Field) → SizedFields fs → Match (fields_width sw fs) (fields_r I sw S fs) (fields_w J sw T fs)
  unfolding fields_width fields_r fields_w
  match-fields [] e = match_none
  match-fields (f ∷ fs) e = match-then _ _ _ _ _ _ (match-field f e.0) (match-fields fs e.1)

module _ (gs : List Group) (ok : Sized gs) (I : Inner) (J : InnerW) (G : GroupMatch gs I J) where
  match-static : (d g : ℕ) → Match (width gs d g) (static_r gs I d g) (static_w gs J d g)
  unfolding width static_r static_w
  match-static zero g = match_none
  match-static (suc d) g = match-fields gs I J G (width gs d) (static_r gs I d) (static_w gs J d) (match-static d) (fields_of gs g) (ok.kinds g)

  -- the extension's offset and the fields
  pub match-body : (g : ℕ) → LastMatch (4 + width gs 5 g) (behind_r (static_r gs I 5 g) (extension_r gs I)) (behind_w (static_w gs J 5 g) (extension_w gs J))
  match-body g = match-behind _ _ _ _ _ (match-static 5 g) (match-extension gs I J G)

-- A DYNAMIC GROUP

ge-ends : (r : List ℕ) → Ends (GE ++ r)
unfolding same mark_bytes
ge-ends r = refl

pub framed-length : (i F D : List ℕ) → length i ≡ 8 → length (framed i F D) ≡ 12 + length F + length D
framed-length i F D li = simp (length-append, length-bytes 4 (8 + length F + length D)) (omega arith)

pub framed-id : (i F D : List ℕ) → length i ≡ 8 → part 8 4 (framed i F D) ≡ i
framed-id i F D li = let n = 8 + length F + length D in rw (drop_at (bytes_of 4 n) (i ++ (F ++ D)) 4 (length-bytes 4 n)) (take_at i (F ++ D) 8 li)

-- it holds its fields, and from a on its data area
pub framed-held : (y : Ignored) (base a : ℕ) (i F D : List ℕ) → length i ≡ 8 → a ≡ 12 + length F → length (framed i F D) < 2 ^ 32
    → Held (here y (framed i F D) base a) 12 a F D (replicate a 0) 0 (length D)
framed-held y base a i F D li ea small =
    let n : ℕ = 8 + length F + length D in
    let d : drop 12 (framed i F D) ≡ F ++ D = rw (← append_assoc (bytes_of 4 n) i (F ++ D)) (drop_at (bytes_of 4 n ++ i) (F ++ D) 12 (rw (length-append (bytes_of 4 n) i, length-bytes 4 n, li))) in
    record {
      fix = (D, d);
      dat = at_right (framed i F D) 12 a F D ea ([], d ∙ sym (append-nil (F ++ D)));
      run = length-replicate {A = ℕ} a 0;
      all = omega (arith, framed-length i F D li);
      zeros = omega arith;
      before = omega arith;
      area = omega arith;
      small = small;
    }

pub satw-closed : {Q : List ℕ → List ℕ → List ℕ → Type 0} (i : List ℕ) {x : Writing}
    → SatW (λ F D r. (r' : List ℕ) → r ≡ GE ++ r' → Q (framed i F D) [] r') x → SatW Q (closed i x)
unfolding closed
satw-closed i unsaid_w = unsaid_w
satw-closed i (said_w {r = r} q) = satw-due GE r _ (λ r' e. said_w (q r' e))

module _ (gs : List Group) (ok : Sized gs) (y : Ignored) (l : ℕ) (G : GroupMatch gs (group_r y gs l) (group_w gs l)) where
  -- the width of the fields with the extension's offset, and where the data area starts
  abbrev W : ℕ → ℕ
  W g = 4 + width gs 5 g

  abbrev A : ℕ → ℕ
  A g = 16 + width gs 5 g

  abbrev R : ℕ → Reader
  R g = behind_r (static_r gs (group_r y gs l) 5 g) (extension_r gs (group_r y gs l))

  abbrev U : ℕ → Writer
  U g = behind_w (static_w gs (group_w gs l) 5 g) (extension_w gs (group_w gs l))

  M : (g : ℕ) → LastMatch (W g) (R g) (U g)
  M g = match-body gs ok (group_r y gs l) (group_w gs l) G g

  body-fit : (c g : ℕ) (i s m m' r : List ℕ) (n : ℕ) → length i ≡ 8 → find gs (le i) ≡ g → known gs (le i) ≡ true → allows gs c g ≡ true
      → LastTaken (U g) (A g) m s m' → length m ≡ n → A g ≤ n
      → GroupFit (group_w gs (suc l) c ((i ++ (s ++ GE)) ++ r)) r n
  unfolding group_w head_w need body_w closed
  body-fit c g i s m m' r n li eg t₂ t₃ t lm la =
      let x = t.puts 12 (A g) (GE ++ r) (ge-ends r) in
      let k = (satw-is (rw x.is at ((M g).back 12 (A g) (s ++ (GE ++ r))))).long in
      let few = taken-le (A g) m' in
      record {
        own = framed i x.fixed x.values;
        is = rw (append_assoc i (s ++ GE) r, append_assoc s GE r) (grab-eats _ 8 i (s ++ (GE ++ r)) _ li ∙ rw (t₂, eg, t₃, x.is) (due-eats GE r _ refl));
        small = omega (arith, framed-length i x.fixed x.values li, x.small, t.same);
      }

  group-forth : (c base : ℕ) (b : List ℕ) → Sat (λ s m. (r : List ℕ) → GroupFit (group_w gs (suc l) c (s ++ r)) r (length b)) (group_r y gs (suc l) c base b)
  unfolding group_r head_r body_r
  group-forth c base b =
      let g : ℕ = find gs (le (part 8 4 b)) in
      let h : Here = here y b base (A g) in
      sat-need _ 1 _ (λ t₁. sat-need _ 2 _ (λ t₂. sat-need _ 25 _ (λ t₃. sat-need _ 14 _ (λ t₄.
      let l₁ : 16 ≤ length b = leb-true _ _ t₁ in
      let l₄ : A g ≤ length b = leb-true _ _ t₄ in
      sat-padded h (sat-prefixed (part 8 4 b) (sat-next (sat-map
      (λ s m' t. said (λ r. body-fit c g (part 8 4 b) s (replicate (length b) 0) m' r (length b) (simp (length-take, length-drop) (omega arith)) refl t₂ t₃ t (length-replicate {A = ℕ} (length b) 0) l₄))
      ((M g).forth h 12 (replicate (length b) 0) (omega arith) (length-replicate {A = ℕ} (length b) 0)))))))))

  module _ (c g : ℕ) (i s F D r : List ℕ) (li : length i ≡ 8) (eg : find gs (le i) ≡ g) (t₂ : known gs (le i) ≡ true) (t₃ : allows gs c g ≡ true)
      (a : Again (R g) (W g) 12 (A g) s F D r) where
    body_reads : (base : ℕ) → length (framed i F D) < 2 ^ 32 → group_r y gs (suc l) c base (framed i F D) ≡ done (i ++ (a.used ++ GE)) []
    unfolding group_r head_r need body_r padded prefixed next
    body_reads base small =
        let h : Here = here y (framed i F D) base (A g) in
        let lX = framed-length i F D li in
        let pi = framed-id i F D li in
        let lF = a.long in
        let u = a.reads h (replicate (A g) 0) 0 (length D) (framed-held y base (A g) i F D li (omega arith) small) in
        let lY : length (framed i F D) ≡ A g + length D = omega (arith, lX) in
        let m : replicate {A = ℕ} (length (framed i F D)) 0 ≡ replicate (A g) 0 ++ replicate (length D) 0 = rw (replicate-append-replicate {A = ℕ} (A g) (length D) 0) (rw lY) in
        let l₁ : 16 ≤ length (framed i F D) = omega (arith, lX) in
        let l₄ : A g ≤ length (framed i F D) = omega (arith, lX) in
        let d : drop (A g) ((replicate (A g) 0 ++ replicate (length D) 1) ++ []) ≡ replicate {A = ℕ} (length D) 1 =
        rw append-nil (drop_at {A = ℕ} (replicate (A g) 0) (replicate (length D) 1) (A g) (length-replicate {A = ℕ} (A g) 0)) in
        rw (pi, t₂, eg, le-leb _ _ l₁, t₃, le-leb _ _ l₄, m, u) (rw (d, pads-ones (length D) (drop (A g) (framed i F D)), or-true))

    body-again : (s₀ r' : List ℕ) → s₀ ≡ i ++ s → r ≡ GE ++ r' → GroupAgain gs (group_r y gs (suc l)) c s₀ (framed i F D) [] r'
    body-again s₀ r' e er = record {
      used = i ++ (a.used ++ GE);
      split = e ∙ ap (λ (x : List ℕ). i ++ x) (a.split ∙ ap (λ (x : List ℕ). a.used ++ x) er) ∙ simp append_assoc;
      none = refl;
      again = λ small.
          let n : ℕ = 8 + length F + length D in
          let lX = framed-length i F D li in
          let pi = framed-id i F D li in
          let knows : known gs (le (part 8 4 (framed i F D))) ≡ true = rw pi t₂ in
          let t : take 4 (framed i F D) ≡ bytes_of 4 n = take_at (bytes_of 4 n) (i ++ (F ++ D)) 4 (length-bytes 4 n) in
          record { sixteen = omega (arith, lX, a.long); knows = knows; size = rw (t, four n (omega (arith, lX))) (omega (arith, lX)); reads = λ base. body_reads base small };
    }

  group-back : (c : ℕ) (s : List ℕ) → SatW (λ X Y r. GroupAgain gs (group_r y gs (suc l)) c s X Y r) (group_w gs (suc l) c s)
  unfolding group_w head_w body_w
  group-back c s = satw-grab _ 8 s _ (λ i s' e li.
      let g : ℕ = find gs (le i) in
      satw-need _ 2 _ (λ t₂. satw-need _ 25 _ (λ t₃. satw-closed i (satw-map (λ F D r a r' er. body-again c g i s' F D r li refl t₂ t₃ a s r' e er)
      ((M g).back 12 (A g) s')))))

pub match-group : (gs : List Group) → Sized gs → (y : Ignored) (l : ℕ) → GroupMatch gs (group_r y gs l) (group_w gs l)
unfolding group_r group_w head_r head_w
match-group gs ok y zero = record {
  forth = λ c base b. sat-need _ 1 _ (λ _. sat-need _ 2 _ (λ _. sat-need _ 25 _ (λ _. unsaid)));
  back = λ c s. satw-grab _ 8 s _ (λ i r e l. satw-need _ 2 _ (λ _. satw-need _ 25 _ (λ _. unsaid_w)));
}
match-group gs ok y (suc l) = record { forth = λ c base b. group-forth gs ok y l (match-group gs ok y l) c base b; back = λ c s. group-back gs ok y l (match-group gs ok y l) c s }
