use mathlib.Core.Path.{sym, ◌∙◌}
use Rattle.wire.proofs.Forms.{no_start, bad-second, form-two, bad-third, form-three, bad-fourth, form-four}
use Rattle.wire.proofs.multibyte_width.Goals as goal

pub returns-then-not-begins : goal.returns-then-not-begins
returns-then-not-begins c = no_start c.args.s.now c.args.at c.requires.0 (sym c.begins.ensures ∙ c.if-not-begins.true)

pub returns-then-not-continues : goal.returns-then-not-continues
returns-then-not-continues c =
    let g = sym c.begins.ensures ∙ c.if-not-begins.false in
    bad-second c.args.s.now c.args.at _ _ c.requires.0 c.requires.1 g c.lowest.ensures c.highest.ensures (sym c.continues.ensures ∙ c.if-not-continues.true)

pub returns-then-b-lt224 : goal.returns-then-b-lt224
returns-then-b-lt224 c =
    let g = sym c.begins.ensures ∙ c.if-not-begins.false in
    let e = sym c.continues.ensures ∙ c.if-not-continues.false in
    form-two c.args.s.now c.args.at _ _ c.requires.0 c.requires.1 g c.lowest.ensures c.highest.ensures e c.if-b-lt224.true

pub returns-then-not-continues-2 : goal.returns-then-not-continues-2
returns-then-not-continues-2 c =
    let g = sym c.begins.ensures ∙ c.if-not-begins.false in
    let e = sym c.continues.ensures ∙ c.if-not-continues.false in
    bad-third c.args.s.now c.args.at _ _ c.requires.0 c.requires.1 g c.lowest.ensures c.highest.ensures e c.if-b-lt224.false (sym c.continues-2.ensures ∙ c.if-not-continues-2.true)

pub returns-then-b-lt240 : goal.returns-then-b-lt240
returns-then-b-lt240 c =
    let g = sym c.begins.ensures ∙ c.if-not-begins.false in
    let e = sym c.continues.ensures ∙ c.if-not-continues.false in
    let f = sym c.continues-2.ensures ∙ c.if-not-continues-2.false in
    form-three c.args.s.now c.args.at _ _ c.requires.0 c.requires.1 g c.lowest.ensures c.highest.ensures e c.if-b-lt224.false f c.if-b-lt240.true

pub returns-then-not-continues-3 : goal.returns-then-not-continues-3
returns-then-not-continues-3 c =
    let g = sym c.begins.ensures ∙ c.if-not-begins.false in
    let e = sym c.continues.ensures ∙ c.if-not-continues.false in
    let f = sym c.continues-2.ensures ∙ c.if-not-continues-2.false in
    bad-fourth c.args.s.now c.args.at _ _ c.requires.0 c.requires.1 g c.lowest.ensures c.highest.ensures e c.if-b-lt224.false f c.if-b-lt240.false (sym c.continues-3.ensures ∙ c.if-not-continues-3.true)

pub returns : goal.returns
returns c =
    let g = sym c.begins.ensures ∙ c.if-not-begins.false in
    let e = sym c.continues.ensures ∙ c.if-not-continues.false in
    let f = sym c.continues-2.ensures ∙ c.if-not-continues-2.false in
    form-four c.args.s.now c.args.at _ _ c.requires.0 c.requires.1 g c.lowest.ensures c.highest.ensures e c.if-b-lt224.false f c.if-b-lt240.false (sym c.continues-3.ensures ∙ c.if-not-continues-3.false)
