use Prim.Native.Nat.{◌-◌, ◌<◌}
use mathlib.Core.Path.{◌≡◌, ap}
use mathlib.Core.Bool.{true, false}
use native.Mathlib.Omega.{arith}
use borrow.Author.Rules.{rules}
use lib.ListN.{length}
use Rattle.values.specs.declared.characters.Kind.TheVariants.{Plain}
use Rattle.values.specs.Characters.{is_plain, plain_run}
use Rattle.values.proofs.Texts.{run_on, run-stop, plain_inside}
use Rattle.values.proofs.characters.plain_run.Goals as goal

pub loop-length-init : goal.loop-length-init
unfolding plain_run
loop-length-init c = (length c.args.text.now, omega arith, omega arith, omega arith, omega arith)

plain : (c : goal.In-Plain) → is_plain c.piece_at.result.kind ≡ true
unfolding is_plain
plain c = let h : c.piece_at.result.kind ≡ Plain = cc in ap is_plain h

inside : (c : goal.In-Plain) → c.loop-length.end < length c.args.text.now
inside c = plain_inside c.args.text.now c.loop-length.end _ c.piece_at.ensures.value (plain c)

pub overflow_add-end : goal.overflow_add-end
overflow_add-end c = let st = c.piece_at.ensures.stays in omega (arith, inside c, st.inside)

pub loop-length-smaller : goal.loop-length-smaller
loop-length-smaller c = let st = c.piece_at.ensures.stays in omega (arith, inside c, st.some)

pub loop-length-preserved : goal.loop-length-preserved
loop-length-preserved c = let v = c.loop-length.invariant in
    let st = c.piece_at.ensures.stays in
    let l = inside c in
    let z = run_on c.args.text.now c.loop-length.end _ c.piece_at.ensures.value v.0 (omega (arith, v.3)) (plain c) in
    (v.0 - 1, omega (arith, v.1), omega (arith, v.2, st.inside), omega (arith, v.3, st.some), omega (arith, v.4, v.1, z))

pub returns-clause-value : goal.returns-clause-value
unfolding is_plain
returns-clause-value c = let v = c.loop-length.invariant in
    let h : is_plain c.piece_at.result.kind ≡ false = search rules in
    let z = run-stop c.args.text.now c.loop-length.end _ c.piece_at.ensures.value v.0 h in
    omega (arith, v.4, z)
