use Rattle.std.proofs.Common.{◌≡◌}
use Rattle.settings.specs.Store.{strict, ignored_by}
use Rattle.settings.specs.declared.Ignored.{Ignored}
use Rattle.store.proofs.ignored_by.Goals as goal

pub returns-in-Some : goal.returns-in-Some
unfolding ignored_by
returns-in-Some c = rw c.in-Some.is c.ignored_of.ensures

pub returns-in-None : goal.returns-in-None
unfolding ignored_by
returns-in-None c = let i = c.default.result in let d = c.default.ensures in
    let e : ◌≡◌ {A = Ignored} (record { absent = i.absent; pads = i.pads; unused = i.unused }) strict = rw (d.0, d.1.0, d.1.1) in rw c.in-None.is e
