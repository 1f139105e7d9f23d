use Rattle.std.proofs.Common.{ℕ, length, drop, ◌≡◌, ◌-◌, subst}
use Rattle.wire.specs.Bytes.{part}
use Rattle.faults.specs.Words.{line}
use native.Mathlib.Omega.{arith}
use Rattle.faults.proofs.Lines.{line-none, grown-stop, grown-more, grown-end}
use borrow.Author.Rules.{rules}
use Rattle.faults.proofs.line_length.Goals as goal

pub loop-n-init : goal.loop-n-init
loop-n-init c = line-none c.args.text.now c.args.at

pub returns-then-text-at-eq10 : goal.returns-then-text-at-eq10
returns-then-text-at-eq10 c = (search rules, grown-stop c.args.text.now c.args.at c.loop-n.n (omega arith) c.if-text-at-eq10.true c.loop-n.invariant)

pub loop-n-preserved : goal.loop-n-preserved
loop-n-preserved c = (grown-more c.args.text.now c.args.at c.loop-n.n (omega arith) (λ e. omega (arith, e)) c.loop-n.invariant)

pub returns : goal.returns
returns c =
    let s = c.args.text.now in
    let a = c.args.at in
    let e : c.loop-n.n ≡ length s - a = omega arith in
    (omega arith, subst (λ (n : ℕ). line (drop a s) ≡ part n a s) e (grown-end s a c.loop-n.n (omega arith) c.loop-n.invariant))
