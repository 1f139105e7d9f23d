use Rattle.std.proofs.Common.{◌≡◌, true, ℕ, sym, ◌∙◌, ◌<◌, leb-true, arith, rules, length}
use lib.Dec.{leb}
use Rattle.schema.specs.Table.{schema, in_bounds, widths_verdict}
use Rattle.table.specs.Measure.{levels}
use Rattle.table.proofs.Widths.{all-bounded, bounds-tested, all-sized}
use Rattle.table.proofs.check_widths.Goals as goal

pub returns : goal.returns
unfolding widths_verdict
returns c =
    let t = c.args.table.now in
    let k = c.measure_groups.new.index in
    let m = c.measure_groups.ensures in
    let tested = bounds-tested t c.args.index.now k m.0 m.1 in
    let v : c.check_each.result ≡ widths_verdict t = c.check_each.ensures (λ g _. in_bounds (schema t) g) (λ g l before b post. let e : b ≡ leb (levels k g) 5 = search rules in e ∙ tested g l before) in
    record {
      verdict = v;
      placing = λ _. m.0.placing;
      known = λ q. let p : (g : ℕ) → g < length (schema t) → in_bounds (schema t) g ≡ true = all-bounded t (sym v ∙ q) in all-sized t c.args.index.now k m.0 m.1 (λ g l. leb-true _ _ (tested g l (λ h b. p h (omega arith)) ∙ p g l));
    }
