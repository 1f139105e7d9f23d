use Rattle.std.proofs.Common.{◌≡◌, ◌+◌, ◌-◌, ◌*◌, ◌^◌, ◌<◌, ◌≤◌, length}
use Rattle.message.specs.Sheet.{ST}
use Rattle.message.specs.Walk.{marked_r, indirect_r, text_r, items_r}
use Rattle.message.specs.Count.{count}
use Rattle.message.specs.Check.{occupancy_of, after, within}
use Rattle.message.proofs.check_texts.Given as goal

abbrev pub invariant-loop : goal.invariant-loop
invariant-loop l = record {
  inside : l.place + (l.total - l.counter) * 4 ≤ length l.bytes;
  fits : l.step.length < 2 ^ 64;
  counts :
      after l.before (count (items_r 4 (marked_r ST (indirect_r 26 1 (text_r l.utf8))) l.total (within l.bytes l.frame) l.at (occupancy_of l.frame.area l.initial.step.taken l.initial.occupied)))
      ≡ after l.step.length (count (items_r 4 (marked_r ST (indirect_r 26 1 (text_r l.utf8))) (l.total - l.counter) (within l.bytes l.frame) l.place (occupancy_of l.frame.area l.step.taken l.occupied)));
}
