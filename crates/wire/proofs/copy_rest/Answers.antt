use Rattle.std.proofs.Common.{◌≡◌, sym, ◌∙◌, ℕ, ◌+◌, ◌-◌, ◌<◌, ◌≤◌, List, arith}
use Rattle.wire.specs.Bytes.{part, splice}
use Rattle.wire.proofs.Copies.{copied-first, words-next, words-start, words-none, words_last}
use Rattle.wire.proofs.copy_rest.Goals.{then-n-ge4, else-n-ge4, then-n-i-ge2, else-n-i-ge2}
use Rattle.wire.proofs.copy_rest.Goals as goal

-- fewer than w of the n bytes are left behind the first i

abbrev Left : ℕ → ℕ → ℕ → List ℕ → List ℕ → ℕ → ℕ → List ℕ → Type 0
Left n at from s out w i o = (i ≤ n) × (n < i + w) × (splice n at (part n from s) out ≡ splice (n - i) (at + i) (part (n - i) (from + i) s) o)

pub returns-then-i-n : goal.returns-then-i-n
returns-then-i-n c =
    let a = c.args in
    let s = a.s.now in
    let R = c.requires in
    let j = c.if-n-ge4 in
    let k = c.if-n-i-ge2 in
    let f : Left a.n a.at a.from s a.out.now 4 j.i j.out = elim j.branch [
      | then-n-ge4 w ↦ (omega arith, omega arith, rw w.i-is (copied-first a.n 4 (a.n - 4) a.from a.at s a.out.now _ (omega arith) R.1 R.2 (w.out-is ∙ w.copy_bytes.ensures)))
      | else-n-ge4 w ↦ (omega arith, omega arith, rw (w.out-is, w.i-is) (words-start a.n a.from a.at s a.out.now))
    ] in
    let g : Left a.n a.at a.from s a.out.now 2 k.i k.out = elim k.branch [
      | then-n-i-ge2 w ↦ (omega arith, omega (arith, f.1), f.2 ∙ words-next a.n j.i 2 k.i a.from a.at s j.out _ w.i-is (omega arith) R.1 (omega (arith, j.auto.out)) (w.out-is ∙ w.copy_bytes-then-n-i-ge2.ensures))
      | else-n-i-ge2 w ↦ (omega (arith, f.0), omega arith, rw (w.out-is, w.i-is) f.2)
    ] in
    sym (g.2 ∙ words_last a.n k.i a.from a.at s _ (omega (arith, g.1)) R.1 (omega (arith, j.auto.out, k.auto.out)))

pub returns-else-i-n : goal.returns-else-i-n
returns-else-i-n c =
    let a = c.args in
    let s = a.s.now in
    let R = c.requires in
    let j = c.if-n-ge4 in
    let k = c.if-n-i-ge2 in
    let f : Left a.n a.at a.from s a.out.now 4 j.i j.out = elim j.branch [
      | then-n-ge4 w ↦ (omega arith, omega arith, rw w.i-is (copied-first a.n 4 (a.n - 4) a.from a.at s a.out.now _ (omega arith) R.1 R.2 (w.out-is ∙ w.copy_bytes.ensures)))
      | else-n-ge4 w ↦ (omega arith, omega arith, rw (w.out-is, w.i-is) (words-start a.n a.from a.at s a.out.now))
    ] in
    let g : Left a.n a.at a.from s a.out.now 2 k.i k.out = elim k.branch [
      | then-n-i-ge2 w ↦ (omega arith, omega (arith, f.1), f.2 ∙ words-next a.n j.i 2 k.i a.from a.at s j.out _ w.i-is (omega arith) R.1 (omega (arith, j.auto.out)) (w.out-is ∙ w.copy_bytes-then-n-i-ge2.ensures))
      | else-n-i-ge2 w ↦ (omega (arith, f.0), omega arith, rw (w.out-is, w.i-is) f.2)
    ] in
    sym (g.2 ∙ words-none a.n k.i a.from a.at s _ c.if-i-n.false)
