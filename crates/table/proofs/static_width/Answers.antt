use Rattle.std.proofs.Common.{◌≡◌, ◌+◌, ◌≤◌, ℕ, Bool, true, false, cond, refl, arith}
use mir.Val.{bool_byte}
use Rattle.schema.specs.Schema.{field_width}
use Rattle.table.proofs.static_width.Goals as goal

added : (b : Bool) (w : ℕ) → (w + bool_byte b ≡ cond b (w + 1) w) × (bool_byte b ≤ 1)
added true w = (refl, omega arith)
added false w = (omega arith, omega arith)

pub returns : goal.returns
unfolding field_width
returns c =
    let w = c.value_width.ensures in
    (λ es. rw (c.from.ensures, c.is_optional.ensures es, w.0 es) (added _ _).0, omega (arith, c.from.ensures, (added c.is_optional.result 0).1, w.1))
