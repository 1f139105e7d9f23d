use Rattle.std.proofs.Common.{◌≡◌, ◌≢◌, ℕ, length, refl, sym, ◌∙◌, rules, tests, arith}
use Rattle.std.proofs.lemmas.Iterator.{IsFirst-from_position, YieldsList-from_slice, index_from_first}
use native.Mathlib.Nat.{add-sub_cancel_left}
use Rattle.wire.specs.Bytes.{part, zeros}
use Rattle.wire.proofs.Laws.{length_part}
use Rattle.wire.proofs.Turns.{zeros-hit, zeros-miss, zeros-le}
use Rattle.wire.proofs.count_zeros.Goals as goal

pub returns : goal.returns
unfolding zeros
returns c =
    let a = c.args in
    let xs = part a.n a.at a.s.now in
    let l : length xs ≡ a.n = length_part a.n a.at a.s.now c.requires in
    let first = IsFirst-from_position _ _ c.position.result (λ (x : ℕ). x ≢ 0) (λ (x : ℕ). x ≡ 0) c.position.ensures.ran (YieldsList-from_slice xs (c.iter.ensures.rest ∙ rw add-sub_cancel_left)) (λ x q k. search (rules, tests)) (λ x q k. search (rules, tests)) in
    let e = index_from_first zeros (λ (x : ℕ). x ≢ 0) (λ (x : ℕ). x ≡ 0) refl zeros-hit zeros-miss xs c.position.result first in
    let r : c.unwrap_or.result ≡ zeros xs = c.unwrap_or.ensures ∙ sym (rw l at e) in
    (r, omega (arith, zeros-le xs))
