use Rattle.std.proofs.Common.{◌≡◌, ℕ, ◌+◌, ◌-◌, ◌*◌, ◌^◌, ◌<◌, ◌≤◌, List, length}
use Rattle.schema.specs.Table.{enums}
use Rattle.schema.specs.FieldKinds.{tested_kind}
use Rattle.settings.specs.declared.Ignored.{Ignored}
use Rattle.message.specs.Walk.{here, Reader, Inner, items_r}
use Rattle.message.specs.Count.{count}
use Rattle.message.specs.Check.{after, item_r}
use Rattle.message.proofs.check_numbers.Given as goal

abbrev pub invariant-loop : goal.invariant-loop
invariant-loop l = record {
  inside : l.place + (l.total - l.counter) * l.width ≤ length l.bytes;
  fits : l.step.length < 2 ^ 64;
  counts : (y : Ignored) (I : Inner) (S : ℕ → Reader) (area : ℕ) (F : ℕ → List ℕ)
      → after l.before (count (items_r l.width (item_r I S (tested_kind (enums l.table) l.tested)) l.total (here y l.bytes l.base area) l.at (F l.taken)))
      ≡ after l.step.length (count (items_r l.width (item_r I S (tested_kind (enums l.table) l.tested)) (l.total - l.counter) (here y l.bytes l.base area) l.place (F l.step.taken)));
}
