use Rattle.std.proofs.Common.{sym, ◌∙◌}
use Rattle.schema.specs.Faults.{need}
use Rattle.store.proofs.Laws.{is-sound}
use Rattle.store.proofs.sound_records.Goals as goal

pub returns-then-not-is_sound-clause-value : goal.returns-then-not-is_sound-clause-value
unfolding need
returns-then-not-is_sound-clause-value c = let n = c.count_records-count.ensures.0 in
    rw (sym (is-sound c.args.store.now _ n) ∙ sym c.is_sound.ensures ∙ c.if-not-is_sound.true, c.damaged.ensures, n)

pub returns-clause-value : goal.returns-clause-value
unfolding need
returns-clause-value c = let n = c.count_records-count.ensures.0 in rw (sym (is-sound c.args.store.now _ n) ∙ sym c.is_sound.ensures ∙ c.if-not-is_sound.false, n)
