use Rattle.std.proofs.Common.{Ok, ◌≡◌, sym, ap, ◌∙◌}
use mir.Val.{bool_byte}
use Rattle.settings.specs.declared.Ignored.{Ignored}
use Rattle.blink_native.specs.declared.BlinkSettings.{BlinkSettings}
use Rattle.blink_native.specs.Boundary.{exported_settings}
use Rattle.blink_native.proofs.Flag.{flag-bits}
use Rattle.blink_native.proofs.BlinkSettingsFromResultIgnoredFault.from.Goals as goal

flags : (x : Ignored) → ◌≡◌ {A = BlinkSettings} (record { number = 0; place = 0; absent = bool_byte x.absent; pads = bool_byte x.pads; unused = bool_byte x.unused }) (exported_settings (Ok x))
unfolding exported_settings
flags x = rw (flag-bits x.absent, flag-bits x.pads, flag-bits x.unused)

pub returns-in-Ok : goal.returns-in-Ok
returns-in-Ok c = flags _ ∙ sym (ap exported_settings c.in-Ok.is)

pub returns-in-Err : goal.returns-in-Err
unfolding exported_settings
returns-in-Err c = sym (ap exported_settings c.in-Err.is)
