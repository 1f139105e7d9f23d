use mathlib.Core.Path.{◌≡◌, ◌∙◌}
use native.Mathlib.Omega.{arith}
use native.Mathlib.Nat.{add-sub_cancel_left}
use lib.ListN.{length}
use Rattle.wire.specs.Bytes.{part, le}
use Rattle.wire.proofs.Laws.{length_part, le-bound}
use Rattle.wire.proofs.Numbers.{le-padded, part_small}
use Rattle.wire.proofs.read.Goals as goal

pub returns : goal.returns
returns g c =
    let n = g.row.N in
    let xs = part n c.args.at c.args.s.now in
    let l : length xs ≡ n = length_part n c.args.at c.args.s.now c.requires.1 in
    let e : c.copy_from_slice.new.self ≡ xs = simp add-sub_cancel_left at c.copy_from_slice.ensures.after in
    let r : c.from_le_bytes.result ≡ le xs = c.from_le_bytes.ensures ∙ rw e (le-padded n xs c.requires.0 l) in
    (r, rw r (rw l at (le-bound xs (part_small n c.args.at c.args.s.now (λ i. omega (arith, c.type_inv.s i))))))
