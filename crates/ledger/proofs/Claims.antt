-- The claims of specs/Claims.antt, shown.
use Rattle.schema.specs.declared.Fault.{Fault}
use Rattle.std.proofs.Common.{Ok, Err, Result}
use Prim.Native.Nat.{ℕ, zero, suc, ◌+◌, ◌-◌, ◌≤◌}
use mathlib.Core.Path.{◌≡◌, refl, sym, ap, ◌∙◌, subst}
use mathlib.Core.Bool.{Bool, true, false, ◌&&◌}
use mathlib.Core.List.{List, [], ◌∷◌, ◌++◌, append_assoc}
use native.Mathlib.Omega.{arith}
use lib.ListN.{length, take, drop, length-append, length-replicate, length-drop}
use lib.Seq.{drop-drop}
use lib.Dec.{leb, eqb}
use borrow.Author.Tests.{leb-true, leb-false, le-leb, lt-leb, eqb-true, eq-eqb}
use Rattle.wire.specs.Bytes.{part, le, splice}
use Rattle.wire.proofs.Laws.{length-bytes, length_part, same-eq}
use Rattle.schema.specs.Faults.{Verdict, fault_at, need, also}
use Rattle.schema.specs.Schema.{fields_of, find, known}
use Rattle.schema.specs.Table.{enums, schema, table_verdict}
use Rattle.schema.specs.Forms.{Alike}
use Rattle.schema.proofs.Depth.{and_both}
use Rattle.schema.proofs.Numbered.{Numbered, accepts, in-need, not-zero, refuses}
use Rattle.fields.specs.Fields.{signature_of, has_under, has_after, has_fields}
use Rattle.fields.proofs.Claims.{fields-claims}
use Rattle.message.specs.Walk.{done}
use Rattle.message.specs.Sheet.{VA, ST, GB, mark_bytes}
use Rattle.meaning.specs.Conforms.{type_id}
use Rattle.opening.specs.Opening.{Under, message_reading, message_verdict}
use Rattle.codec.specs.Answers.{message_type}
use Rattle.codec.specs.Claims.{SameAnswers}
use Rattle.codec.proofs.Claims.{claims}
use Rattle.codec.proofs.Demands.{demands}
use Rattle.ledger.specs.Ledger.{Blank, line_with, Call, call, barcode_of, field_of, Line, unfit, line, line_from, line_under, line_of, Ledger, lines, enters, entered, run, with_line, lines_of, kept}
use Rattle.ledger.specs.Claims.{Bytes, Fit, OwnBytes, sheet_line, LedgerClaims}
use Rattle.ledger.proofs.Own.{blank-fields, own-values}

-- A LINE THAT IS MADE

unfit-line : {X : Type 0} {n p : ℕ} {x : List ℕ} → unfit n p ≡ line x → X
unfit-line e = absurd (cc)

need-line : (c : Bool) (n p : ℕ) (r : Line) (x : List ℕ) → need c (unfit n p) r ≡ line x → (c ≡ true) × (r ≡ line x)
unfolding need
need-line true n p r x e = (refl, e)
need-line false n p r x e = unfit-line e

record Made (c : Call) (a : Result ℕ Fault) (x : List ℕ) : Type 0 where
  pub id : ℕ
  pub answers : a ≡ Ok id
  pub type : id ≡ c.blank
  pub fields : has_fields c.table c.blank Blank ≡ true
  pub some : 1 ≤ length (barcode_of c)
  pub short : length (barcode_of c) ≤ 40
  pub is : x ≡ line_with (barcode_of c) (field_of c 1) (field_of c 2) (field_of c 3)

made-under : (c : Call) (a : Result ℕ Fault) (x : List ℕ) → line_under c a ≡ line x → Made c a x
unfolding line_under line_from
made-under c (Err f) x e = unfit-line e
made-under c (Ok id) x e =
    let (h, f) = need-line _ 54 0 _ x e in
    let (l, g) = need-line _ 55 0 _ x f in
    let (y, s) = and_both (eqb id c.blank) _ h in
    let (m, n) = and_both (leb 1 (length (barcode_of c))) _ l in
    let q : line_with (barcode_of c) (field_of c 1) (field_of c 2) (field_of c 3) ≡ x = cc in
    record { id = id; answers = refl; type = eqb-true id c.blank y; fields = s; some = leb-true 1 _ m; short = leb-true _ 40 n; is = sym q }

made : (c : Call) (x : List ℕ) → line_of c ≡ line x → Made c (message_type c.table c.message c.reads) x
unfolding line_of
made c x e = made-under c (message_type c.table c.message c.reads) x e

long-line : (b d s g : List ℕ) → length b ≤ 40 → length d ≡ 4 → length s ≡ 4 → length g ≡ 4 → length (line_with b d s g) ≡ 64
long-line b d s g h e f k = simp (length-append, length-replicate, e, f, k) (omega arith)

line-64 : (c : Call) (x : List ℕ) → line_of c ≡ line x → length x ≡ 64
line-64 c x e = let m = made c x e in ap length m.is ∙ long-line (barcode_of c) (field_of c 1) (field_of c 2) (field_of c 3) m.short (length-bytes 4 _) (length-bytes 4 _) (length-bytes 4 _)

-- an accepted message has its type, and a refused one its number
type-by : (v : Verdict) (b : List ℕ) (id : ℕ) → also v (Ok (type_id b)) ≡ Ok id → (v ≡ Ok tt) × (id ≡ type_id b)
unfolding also
type-by (Ok _) b id e = let q : type_id b ≡ id = cc in (refl, sym q)
type-by (Err f) b id e = absurd (cc)

fit : (c : Call) (x : List ℕ) → line_of c ≡ line x → Fit c
unfolding message_type
fit c x e =
    let m = made c x e in
    let (a, i) = type-by (message_verdict c.table c.message c.reads) c.message m.id m.answers in
    record { accepted = a; type = sym i ∙ m.type; fields = m.fields; some = m.some; short = m.short }

fits : (c : Call) → Fit c → (x : List ℕ) × (line_of c ≡ line x)
unfolding line_of line_under line_from message_type also need
fits c F = (line_with (barcode_of c) (field_of c 1) (field_of c 2) (field_of c 3), rw (F.accepted, eq-eqb (type_id c.message) c.blank F.type, F.fields, le-leb 1 (length (barcode_of c)) F.some, le-leb (length (barcode_of c)) 40 F.short))

own-number : (c : Call) (n p : ℕ) → message_verdict c.table c.message c.reads ≡ Err (fault_at n p) → line_of c ≡ unfit n p
unfolding line_of line_under message_type also
own-number c n p e = rw e

-- ITS BYTES

take-front : (A R : List ℕ) → take (length A) (A ++ R) ≡ A
take-front [] R = refl
take-front (a ∷ A) R = ap (λ x. a ∷ x) (take-front A R)

drop-front : (A R : List ℕ) → drop (length A) (A ++ R) ≡ R
drop-front [] R = refl
drop-front (a ∷ A) R = drop-front A R

same-fields : (t : List ℕ) (id : ℕ) (x : List ℕ) → table_verdict t ≡ Ok tt → has_fields t id x ≡ true → signature_of (fields_of (schema t) (find (schema t) id)) ≡ x
unfolding has_fields has_after has_under
same-fields t id x a h = same-eq _ x (and_both (known (schema t) id) _ (rw a at h)).1

own : (c : Call) (x s : List ℕ) → Bytes c.message → line_of c ≡ line x → message_reading c.table c.message c.reads ≡ done s [] → OwnBytes c.message s x
own c x s below e r =
    let t = c.table in
    let m = made c x e in
    let f = fit c x e in
    let R = claims.reads t c.message c.reads s r in
    let F = blank-fields (enums t) (fields_of (schema t) (find (schema t) (type_id c.message))) (fields-claims.kinds t _) (same-fields t (type_id c.message) Blank R.table (rw f.type m.fields)) in
    rw m.is (own-values t c.message c.reads s R below F)

-- x stands behind A
at_place : (A x R s : List ℕ) (n p : ℕ) → s ≡ A ++ (x ++ R) → length A ≡ p → length x ≡ n → part n p s ≡ x
at_place A x R s n p e a l = rw (e, ← a, ← l) (ap (take (length x)) (drop-front A (x ++ R)) ∙ take-front x R)

-- a record's mark has two bytes
mark-two : (length (mark_bytes GB) ≡ 2) × (length (mark_bytes ST) ≡ 2) × (length (mark_bytes VA) ≡ 2)
unfolding mark_bytes
mark-two = (refl, refl, refl)

by-sheet : (b s x : List ℕ) → OwnBytes b s x → x ≡ sheet_line s
by-sheet b s x O =
    let n = length O.barcode in
    let i = part 8 4 b in
    let d = part 4 O.density b in
    let v = part 4 O.speed b in
    let g = part 4 O.grade b in
    let (G, S, M) = mark-two in
    let ι : length i ≡ 8 = length_part 8 4 b (omega (arith, O.long)) in
    let δ : length d ≡ 4 = length_part 4 O.density b O.inside.0 in
    let ν : length v ≡ 4 = length_part 4 O.speed b O.inside.1 in
    let γ : length g ≡ 4 = length_part 4 O.grade b O.inside.2 in
    let count = at_place (mark_bytes GB ++ (i ++ mark_bytes ST)) O.count (O.barcode ++ (mark_bytes VA ++ (d ++ (mark_bytes VA ++ (v ++ (mark_bytes VA ++ (g ++ O.rest))))))) s 4 12 (O.sheet ∙ simp append_assoc) (simp (length-append, G, S, ι)) O.four in
    let barcode = at_place (mark_bytes GB ++ (i ++ (mark_bytes ST ++ O.count))) O.barcode (mark_bytes VA ++ (d ++ (mark_bytes VA ++ (v ++ (mark_bytes VA ++ (g ++ O.rest)))))) s n 16 (O.sheet ∙ simp append_assoc) (simp (length-append, G, S, ι, O.four)) refl in
    let density = at_place (mark_bytes GB ++ (i ++ (mark_bytes ST ++ (O.count ++ (O.barcode ++ mark_bytes VA))))) d (mark_bytes VA ++ (v ++ (mark_bytes VA ++ (g ++ O.rest)))) s 4 (18 + n) (O.sheet ∙ simp append_assoc) (simp (length-append, G, S, M, ι, O.four) (omega arith)) δ in
    let speed = at_place (mark_bytes GB ++ (i ++ (mark_bytes ST ++ (O.count ++ (O.barcode ++ (mark_bytes VA ++ (d ++ mark_bytes VA))))))) v (mark_bytes VA ++ (g ++ O.rest)) s 4 (24 + n) (O.sheet ∙ simp append_assoc) (simp (length-append, G, S, M, ι, O.four, δ) (omega arith)) ν in
    let grade = at_place (mark_bytes GB ++ (i ++ (mark_bytes ST ++ (O.count ++ (O.barcode ++ (mark_bytes VA ++ (d ++ (mark_bytes VA ++ (v ++ mark_bytes VA))))))))) g O.rest s 4 (30 + n) (O.sheet ∙ simp append_assoc) (simp (length-append, G, S, M, ι, O.four, δ, ν) (omega arith)) γ in
    let m : n ≡ le (part 4 12 s) = sym (ap le count ∙ O.counts) in
    O.line ∙ (λ j. line_with (sym barcode j) (sym density j) (sym speed j) (sym grade j)) ∙ ap (λ (k : ℕ). line_with (part k 16 s) (part 4 (18 + k) s) (part 4 (24 + k) s) (part 4 (30 + k) s)) m

-- ONE CALL

abbrev NumberedL : Line → Type 0
NumberedL (unfit n p) = 1 ≤ n
NumberedL (line x) = Unit

line-numbered : (c : Call) (a : Result ℕ Fault) → ((p : ℕ) → a ≡ Err (fault_at 0 p) → ⊥) → NumberedL (line_under c a)
unfolding line_under line_from
line-numbered c (Err f) h = let g : f.number ≡ 0 → ⊥ = λ e. h f.place (ap (λ (k : ℕ). Err (fault_at k f.place)) e) in omega (arith, g)
line-numbered c (Ok id) h = in-need NumberedL (eqb id c.blank && has_fields c.table c.blank Blank) (omega arith) (in-need NumberedL (leb 1 (length (barcode_of c)) && leb (length (barcode_of c)) 40) (omega arith) tt)

enters-numbered : (s : Ledger) (l : Line) → NumberedL l → Numbered (enters s l)
unfolding enters
enters-numbered s (unfit n p) h = refuses (fault_at n p) h
enters-numbered s (line x) h = in-need Numbered (leb (s.fill + 64) (length s.bytes)) (refuses (fault_at 56 0) (omega arith)) (accepts (s.fill + 64))

numbered : (c : Call) (s : Ledger) (p : ℕ) → enters s (line_of c) ≡ Err (fault_at 0 p) → ⊥
unfolding line_of
numbered c s = not-zero (enters-numbered s _ (line-numbered c (message_type c.table c.message c.reads) (demands.first c.table c.message [] c.reads).numbered.type))

unchanged : (s : Ledger) (l : Line) (n p : ℕ) → enters s l ≡ Err (fault_at n p) → entered s l ≡ s
unfolding enters entered
unchanged s (unfit k q) n p e = refl
unchanged s (line x) n p e = go (leb (s.fill + 64) (length s.bytes)) e
  where
    go : (v : Bool) → need v (Err (fault_at 56 0)) (Ok (s.fill + 64)) ≡ Err (fault_at n p) → need v s (lines (splice 64 s.fill x s.bytes) (s.fill + 64)) ≡ s
    go true e = unfold need in absurd (cc)
    go false e = unfold need in refl

stands : (s : Ledger) (l : Line) (n : ℕ) → enters s l ≡ Ok n → (x : List ℕ) × (l ≡ line x) × (n ≡ s.fill + 64) × (n ≤ length s.bytes) × (entered s l ≡ lines (take s.fill s.bytes ++ (x ++ drop n s.bytes)) n)
unfolding enters entered
stands s (unfit k q) n e = absurd (cc)
stands s (line x) n e = go (leb (s.fill + 64) (length s.bytes)) refl e
  where
    go : (v : Bool) → leb (s.fill + 64) (length s.bytes) ≡ v → need v (Err (fault_at 56 0)) (Ok (s.fill + 64)) ≡ Ok n
        → (y : List ℕ) × (line x ≡ line y) × (n ≡ s.fill + 64) × (n ≤ length s.bytes) × (need v s (lines (splice 64 s.fill x s.bytes) (s.fill + 64)) ≡ lines (take s.fill s.bytes ++ (y ++ drop n s.bytes)) n)
    go true f e = unfold need in
        let q : s.fill + 64 ≡ n = cc in
        let l = leb-true (s.fill + 64) (length s.bytes) f in
        (x, refl, sym q, omega (arith, q, l), ap (λ z. lines (take s.fill s.bytes ++ (x ++ z)) (s.fill + 64)) (drop-drop 64 s.fill s.bytes) ∙ ap (λ k. lines (take s.fill s.bytes ++ (x ++ drop k s.bytes)) k) q)
    go false f e = unfold need in absurd (cc)

-- two tables of which every answer is the same
same_lines : (t u b : List ℕ) (x : Under) (k : ℕ) → SameAnswers t u → (a : Result ℕ Fault) → line_under (call t b x k) a ≡ line_under (call u b x k) a
unfolding line_under
same_lines t u b x k S (Err f) = refl
same_lines t u b x k S (Ok id) = rw (S.fields k Blank, S.bytes b x 0 0, S.number b x 1 0, S.number b x 2 0, S.number b x 3 0)

forms : (t u b : List ℕ) (x : Under) (k : ℕ) → table_verdict t ≡ Ok tt → table_verdict u ≡ Ok tt → Alike t u → line_of (call t b x k) ≡ line_of (call u b x k)
unfolding line_of
forms t u b x k p q e =
    let S = claims.forms t u p q e in
    ap (line_under (call t b x k)) (S.type b x) ∙ same_lines t u b x k S (message_type u b x)

-- A RUN OF CALLS

kept-none : (room : ℕ) (ls : List (List ℕ)) → leb 64 room ≡ false → kept room ls ≡ []
unfolding kept need
kept-none room [] e = refl
kept-none room (x ∷ ls) e = rw e

kept_more : (room : ℕ) (x : List ℕ) (ls : List (List ℕ)) → leb 64 room ≡ true → kept room (x ∷ ls) ≡ x ++ kept (room - 64) ls
unfolding kept need
kept_more room x ls e = rw e

-- From a ledger that is filled with A, with R free behind it: the lines that fit go behind A, one behind the other.
abbrev Runs : List ℕ → List ℕ → List Call → Type 0
Runs A R cs =
    run (lines (A ++ R) (length A)) cs
    ≡ lines (A ++ (kept (length R) (lines_of cs) ++ drop (length (kept (length R) (lines_of cs))) R)) (length A + length (kept (length R) (lines_of cs)))

module _ (A R x : List ℕ) (long : length x ≡ 64) (K : List ℕ) where
  -- one line that fits, and then those of the rest
  more_bytes : (A ++ x) ++ (K ++ drop (length K) (drop 64 R)) ≡ A ++ ((x ++ K) ++ drop (length (x ++ K)) R)
  more_bytes = simp (append_assoc, length-append, long, drop-drop)

  more-fill : length (A ++ x) + length K ≡ length A + length (x ++ K)
  more-fill = simp (length-append) (omega arith)

enters-line : (A R x : List ℕ) → length x ≡ 64 → leb (length A + 64) (length (A ++ R)) ≡ true → entered (lines (A ++ R) (length A)) (line x) ≡ lines ((A ++ x) ++ drop 64 R) (length (A ++ x))
unfolding entered need
enters-line A R x long e =
    let b : splice 64 (length A) x (A ++ R) ≡ (A ++ x) ++ drop 64 R = rw (take-front A R, drop-front A R) (sym (append_assoc A x (drop 64 R))) in
    let n : length A + 64 ≡ length (A ++ x) = rw (length-append A x, long) in rw e (λ i. lines (b i) (n i))

enters-full : (A R x : List ℕ) → leb (length A + 64) (length (A ++ R)) ≡ false → entered (lines (A ++ R) (length A)) (line x) ≡ lines (A ++ R) (length A)
unfolding entered need
enters-full A R x e = rw e

one_more : (c : Call) (cs : List Call) → ((A R : List ℕ) → Runs A R cs) → (l : Line) → line_of c ≡ l → (A R : List ℕ) → Runs A R (c ∷ cs)
unfolding run lines_of with_line entered
one_more c cs rest (unfit n p) e A R = rw e (rest A R)
one_more c cs rest (line x) e A R = rw e (by-room (leb (length A + 64) (length (A ++ R))) refl)
  where
    by-room : (v : Bool) → leb (length A + 64) (length (A ++ R)) ≡ v
        → run (entered (lines (A ++ R) (length A)) (line x)) cs ≡ lines (A ++ (kept (length R) (x ∷ lines_of cs) ++ drop (length (kept (length R) (x ∷ lines_of cs))) R)) (length A + length (kept (length R) (x ∷ lines_of cs)))
    by-room true f =
        let long = line-64 c x e in
        let room : 64 ≤ length R = let h = leb-true (length A + 64) (length (A ++ R)) f in omega (arith, h, length-append A R) in
        let k : kept (length R) (x ∷ lines_of cs) ≡ x ++ kept (length R - 64) (lines_of cs) = kept_more (length R) x (lines_of cs) (le-leb 64 (length R) room) in
        let d : length (drop 64 R) ≡ length R - 64 = length-drop 64 R in
        rw (enters-line A R x long f, k)
        (rest (A ++ x) (drop 64 R) ∙ rw d (λ i. lines (more_bytes A R x long (kept (length R - 64) (lines_of cs)) i) (more-fill A R x long (kept (length R - 64) (lines_of cs)) i)))
    by-room false f =
        let full : leb 64 (length R) ≡ false = let h = leb-false (length A + 64) (length (A ++ R)) f in lt-leb 64 (length R) (omega (arith, h, length-append A R)) in
        rw (enters-full A R x f) (rest A R ∙ rw (kept-none (length R) (lines_of cs) full, kept-none (length R) (x ∷ lines_of cs) full))

runs : (cs : List Call) (A R : List ℕ) → Runs A R cs
unfolding run lines_of kept
runs [] A R = λ i. lines (A ++ R) (add-zero i)
  where
    add-zero : length A ≡ length A + 0
    add-zero = omega arith
runs (c ∷ cs) A R = one_more c cs (runs cs) (line_of c) refl A R

none_before : (n : ℕ) → 0 + n ≡ n
none_before n = omega arith

pub ledger-claims : LedgerClaims
ledger-claims = record {
  sixty-four = line-64;
  made-exactly = λ c. (λ m. fit c m.0 m.1, fits c);
  own-number = own-number;
  numbered = numbered;
  unchanged = λ c s n p e. unchanged s (line_of c) n p e;
  stands = λ c s n e. stands s (line_of c) n e;
  own = own;
  by-sheet = λ c x s below e r. by-sheet c.message s x (own c x s below e r);
  holds = λ bytes cs. ap (λ (s : Ledger). s.bytes) (runs cs [] bytes);
  fills = λ bytes cs. ap (λ (s : Ledger). s.fill) (runs cs [] bytes) ∙ none_before (length (kept (length bytes) (lines_of cs)));
  behind = λ A R cs. runs cs A R;
  forms = forms;
}
