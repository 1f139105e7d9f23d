-- A flag's byte.
use mathlib.Core.Path.{◌≡◌, refl}
use mathlib.Core.Bool.{Bool, true, false, cond}
use mir.Val.{bool_byte}

pub flag-bits : (b : Bool) → bool_byte b ≡ cond b 1 0
flag-bits true = refl
flag-bits false = refl
