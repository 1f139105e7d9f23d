use Rattle.std.proofs.Common.{◌≡◌, ◌-◌, length, sym, ◌∙◌, arith}
use Rattle.message.proofs.CheckPlaces.{before-turn, before-stop, before-end}
use Rattle.message.proofs.pads_before.Goals as goal

pub returns-then-not-is_clean : goal.returns-then-not-is_clean
returns-then-not-is_clean c = let a = c.args in (sym (c.loop-i.invariant ∙ before-stop a.occupied.now a.bytes.now c.requires.0 c.loop-i.i a.at (omega arith) c.loop-i-test.true (sym c.is_clean.ensures ∙ c.if-not-is_clean.true)), omega arith)

pub loop-i-preserved : goal.loop-i-preserved
loop-i-preserved c = let a = c.args in c.loop-i.invariant ∙ before-turn a.occupied.now a.bytes.now c.requires.0 c.loop-i.i a.at (omega arith) c.loop-i-test.true (sym c.is_clean.ensures ∙ c.if-not-is_clean.false)

pub returns : goal.returns
returns c = let a = c.args in let e : length a.bytes.now - a.at ≡ c.loop-i.i - a.at = omega arith in
    (e ∙ sym (c.loop-i.invariant ∙ before-end a.occupied.now a.bytes.now c.requires.0 c.loop-i.i a.at (omega arith) c.loop-i-test.false), omega arith)
