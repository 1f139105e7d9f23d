use Rattle.wire.proofs.Forms.{one-ascii, four-eights, both}
use Rattle.wire.proofs.ascii_width.Goals as goal

pub returns-then-s-at-lt8 : goal.returns-then-s-at-lt8
returns-then-s-at-lt8 c = one-ascii c.args.s.now c.args.at c.requires c.if-s-at-ge128.false

pub returns-then-not-has_eight : goal.returns-then-not-has_eight
returns-then-not-has_eight c = one-ascii c.args.s.now c.args.at c.requires c.if-s-at-ge128.false

pub returns-then-has_eight : goal.returns-then-has_eight
returns-then-has_eight c = let x = both _ _ c.if-has_eight.true in let y = both _ _ x.0 in four-eights c.args.at c.args.s.now (c.has_eight.ensures c.if-not-has_eight.false) (c.has_eight-2.ensures y.0) (c.has_eight-3.ensures y.1) (c.has_eight-4.ensures x.1)
