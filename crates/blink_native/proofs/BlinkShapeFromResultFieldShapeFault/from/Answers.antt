use Rattle.std.proofs.Common.{Ok, ◌≡◌, sym, ap, ◌∙◌}
use mir.Val.{bool_byte}
use Rattle.fields.specs.declared.FieldShape.{FieldShape}
use Rattle.blink_native.specs.declared.BlinkShape.{BlinkShape}
use Rattle.blink_native.specs.Boundary.{exported_shape}
use Rattle.blink_native.proofs.Flag.{flag-bits}
use Rattle.blink_native.proofs.BlinkShapeFromResultFieldShapeFault.from.Goals as goal

flags : (x : FieldShape) → ◌≡◌ {A = BlinkShape} (record { number = 0; place = 0; kind = x.number; optional = bool_byte x.optional; sequence = bool_byte x.sequence; size = x.size }) (exported_shape (Ok x))
unfolding exported_shape
flags x = rw (flag-bits x.optional, flag-bits x.sequence)

pub returns-in-Ok : goal.returns-in-Ok
returns-in-Ok c = flags _ ∙ sym (ap exported_shape c.in-Ok.is)

pub returns-in-Err : goal.returns-in-Err
unfolding exported_shape
returns-in-Err c = sym (ap exported_shape c.in-Err.is)
