use Rattle.std.proofs.Common.{◌≤◌, sym, refl, ◌∙◌, arith}
use Rattle.message.proofs.CheckAnswers.{refuses, counts}
use Rattle.message.proofs.CheckValues.{inline-over, inline-dirty, inline-bad, inline-counts}
use Rattle.message.proofs.check_inline.Goals as goal

pub returns-then-room-count : goal.returns-then-room-count
returns-then-room-count c = λ I S F. let a = c.args in refuses F _ _ _ (inline-over _ I S a.bytes.now a.frame.base a.frame.area a.at (F a.taken) a.utf8 a.capacity _ c.from-count.ensures (omega (arith, c.if-room-count.true, c.from-room.ensures)))

pub returns-then-not-is_blank : goal.returns-then-not-is_blank
returns-then-not-is_blank c = λ I S F. let a = c.args in let l : c.from-count.result ≤ a.capacity = omega (arith, c.if-room-count.false, c.from-room.ensures) in
    let z = rw (c.from-room.ensures, c.ignores_unused.ensures) at (sym c.is_blank.ensures ∙ c.if-not-is_blank.true) in
    refuses F _ _ _ (inline-dirty _ I S a.bytes.now a.frame.base a.frame.area a.at (F a.taken) a.utf8 a.capacity _ c.from-count.ensures l _ (rw c.from-room.ensures at c.count_zeros.ensures.0) z)

pub returns-then-not-is_text : goal.returns-then-not-is_text
returns-then-not-is_text c = λ I S F. let a = c.args in let l : c.from-count.result ≤ a.capacity = omega (arith, c.if-room-count.false, c.from-room.ensures) in
    let z = rw (c.from-room.ensures, c.ignores_unused.ensures) at (sym c.is_blank.ensures ∙ c.if-not-is_blank.false) in
    refuses F _ _ _ (inline-bad _ I S a.bytes.now a.frame.base a.frame.area a.at (F a.taken) a.utf8 a.capacity _ c.from-count.ensures l z (sym c.is_text.ensures ∙ c.if-not-is_text.true))

pub returns : goal.returns
returns c = λ I S F. let a = c.args in let l : c.from-count.result ≤ a.capacity = omega (arith, c.if-room-count.false, c.from-room.ensures) in
    let z = rw (c.from-room.ensures, c.ignores_unused.ensures) at (sym c.is_blank.ensures ∙ c.if-not-is_blank.false) in
    counts F _ _ _ _ (inline-counts _ I S a.bytes.now a.frame.base a.frame.area a.at (F a.taken) a.utf8 a.capacity _ c.from-count.ensures l z (sym c.is_text.ensures ∙ c.if-not-is_text.false) (omega (arith, l, c.requires.0))) refl
