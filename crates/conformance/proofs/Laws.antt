-- One turn of each loop over a lent buffer, what a load leaves in a room, and that a tape's reader moves on.
use Prim.Native.Nat.{ℕ, zero, suc, ◌+◌, ◌-◌, ◌*◌, ◌%◌, ◌<◌, ◌≤◌}
use mathlib.Core.Path.{◌≡◌}
use mathlib.Core.List.{List, ◌++◌}
use native.Mathlib.Omega.{arith}
use native.Mathlib.Nat.{sub-zero}
use lib.ListN.{length, get_or, set, drop, replicate}
use lib.Seq.{drop-length, drop_at}
use borrow.Author.Tests.{le-leb}
use Rattle.wire.specs.Bytes.{splice}
use Rattle.wire.proofs.Laws.{drop_more, splice-cons, splice-nil}
use Rattle.opening.specs.Opening.{Under}
use Rattle.tape.specs.Tape.{tape_step}
use Rattle.tape.proofs.Whole.{step_past}
use Rattle.conformance.specs.Room.{filled, adler_from}
use Rattle.conformance.specs.Vectors.{behind}

-- FILLING

module _ (n i : ℕ) (room : List ℕ) where
  pub fill-turn : i < n → length room ≡ n
      → splice (n - i) i (filled i (n - i)) room ≡ splice (n - (i + 1)) (i + 1) (filled (i + 1) (n - (i + 1))) (set room i (2 + i % 251))
  unfolding filled
  fill-turn h l =
      let e : n - i ≡ suc (n - (i + 1)) = omega arith in
      rw e (splice-cons (n - (i + 1)) i (2 + i % 251) (filled (i + 1) (n - (i + 1))) room (omega arith))

  pub fill_end : n ≤ i → splice (n - i) i (filled i (n - i)) room ≡ room
  unfolding filled
  fill_end h = let e : n - i ≡ 0 = omega arith in rw e (splice-nil i room)

-- THE CHECKSUM

module _ (a b i : ℕ) (s : List ℕ) where
  pub adler-turn : (x : ℕ) → x ≡ get_or s i 0 → i < length s
      → adler_from a b (drop i s) ≡ adler_from ((a + x) % 65521) ((b + (a + x) % 65521) % 65521) (drop (i + 1) s)
  unfolding adler_from
  adler-turn x e h = rw (drop_more s i h, ← e)

  pub adler-end : i ≡ length s → adler_from a b (drop i s) ≡ 65536 * b + a
  unfolding adler_from
  adler-end h = rw (h, drop-length s)

-- LOADING

drop-zeros : (k n : ℕ) (t : List ℕ) → k ≤ n → drop k (replicate n 0 ++ t) ≡ replicate (n - k) 0 ++ t
drop-zeros zero n t h = rw sub-zero
drop-zeros (suc k) zero t h = absurd (omega arith)
drop-zeros (suc k) (suc n) t h = let e : suc n - suc k ≡ n - k = omega arith in rw e (drop-zeros k n t (omega arith))

-- the stored bytes `got`, read over the zeros
pub loaded : (k n : ℕ) (got room : List ℕ) → length got ≡ k → k ≤ n → n ≤ length room
    → drop k (got ++ drop k (replicate n 0 ++ drop n room)) ≡ behind k n room
unfolding behind
loaded k n got room e h l =
    rw (le-leb n (length room) l, le-leb k n h, drop_at got (drop k (replicate n 0 ++ drop n room)) k e) (drop-zeros k n (drop n room) h)

-- A TAPE'S READER

pub moved_on : (t s : List ℕ) (u : Under) (p next : ℕ) → next ≡ (tape_step t s p u).next → p < length s → p < next
moved_on t s u p next e h = rw e (step_past t s u p h)
