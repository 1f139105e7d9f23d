use mathlib.Core.Path.{refl}
use native.Mathlib.Omega.{arith}
use Rattle.schema.specs.Table.{enums}
use Rattle.schema.specs.declared.FieldKind.TheVariants.{Number}
use Rattle.settings.specs.Store.{lax}
use Rattle.message.specs.Sheet.{VA}
use Rattle.message.specs.Check.{inner_of, width_of, static_of}
use Rattle.sheet.proofs.ShowLaws.{fits-opens, shown-opens, shown-bytes, bytes-room}
use Rattle.sheet.proofs.ShowReaders.{is-VA, item-number}
use Rattle.sheet.proofs.Loops.{items-start, item-inside, item-fits, items-next, items-done}
use Rattle.sheet.proofs.show_numbers.Goals as goal

pub loop-init : goal.loop-init
loop-init c = items-start c.requires.0 c.requires.2

pub show_bytes-next-requires : goal.show_bytes-next-requires
show_bytes-next-requires c = let a = c.args in let t = a.table.now in let L = c.loop.invariant in let l = c.loop-test.true in let h = item-inside L l in
    let o = item-number (inner_of lax t a.levels) (static_of lax t a.levels a.depth) (enums t) a.bytes.now c.loop.place (Number a.tested) (width_of t a.depth) a.tested a.width refl c.requires.1 in
    (h, bytes-room VA _ _ _ _ _ h (fits-opens _ _ _ _ o (item-fits L l)))

pub overflow_add-place : goal.overflow_add-place
overflow_add-place c = omega (arith, item-inside c.loop.invariant c.loop-test.true)

pub loop-preserved : goal.loop-preserved
loop-preserved c = let a = c.args in let t = a.table.now in let L = c.loop.invariant in let l = c.loop-test.true in let v = c.show_bytes-next.ensures in
    let o = item-number (inner_of lax t a.levels) (static_of lax t a.levels a.depth) (enums t) a.bytes.now c.loop.place (Number a.tested) (width_of t a.depth) a.tested a.width refl c.requires.1 in
    items-next L l (shown-opens _ _ _ _ _ _ o (shown-bytes VA _ is-VA _ _ _ _ _ _ _ (item-inside L l) v.0 v.1))

pub returns : goal.returns
returns c = items-done c.loop.invariant c.loop-test.false
