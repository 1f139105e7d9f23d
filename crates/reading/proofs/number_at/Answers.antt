use Rattle.std.proofs.Common.{Ok}
use mathlib.Core.Path.{refl, sym, ap}
use Prim.Native.Nat.{ℕ}
use native.Mathlib.Omega.{arith}
use lib.Dec.{eqb}
use Rattle.schema.specs.Schema.{member}
use Rattle.schema.specs.Table.{scalar_width}
use Rattle.schema.proofs.Types.{le-one}
use Rattle.reading.specs.Number.{number_width, number_of}
use Rattle.reading.specs.declared.Number.TheVariants.{Bool as Flag}
use Rattle.reading.proofs.Numbers.{room, other}
use Rattle.reading.proofs.number_at.Goals as goal

pub unsigned_at-requires : goal.unsigned_at-requires
unfolding number_width member scalar_width
unsigned_at-requires c = (room _ 1 1 _ _ c.in-1.is refl c.requires, refl)

pub signed_at-requires : goal.signed_at-requires
unfolding number_width member scalar_width
signed_at-requires c = (room _ 2 1 _ _ c.in-2.is refl c.requires, refl)

pub unsigned_at-requires-in-3 : goal.unsigned_at-requires-in-3
unfolding number_width member scalar_width
unsigned_at-requires-in-3 c = (room _ 3 2 _ _ c.in-3.is refl c.requires, refl)

pub signed_at-requires-in-4 : goal.signed_at-requires-in-4
unfolding number_width member scalar_width
signed_at-requires-in-4 c = (room _ 4 2 _ _ c.in-4.is refl c.requires, refl)

pub unsigned_at-requires-in-5 : goal.unsigned_at-requires-in-5
unfolding number_width member scalar_width
unsigned_at-requires-in-5 c = (room _ 5 4 _ _ c.in-5.is refl c.requires, refl)

pub signed_at-requires-in-6 : goal.signed_at-requires-in-6
unfolding number_width member scalar_width
signed_at-requires-in-6 c = (room _ 6 4 _ _ c.in-6.is refl c.requires, refl)

pub unsigned_at-requires-in-7 : goal.unsigned_at-requires-in-7
unfolding number_width member scalar_width
unsigned_at-requires-in-7 c = (room _ 7 8 _ _ c.in-7.is refl c.requires, refl)

pub signed_at-requires-in-8 : goal.signed_at-requires-in-8
unfolding number_width member scalar_width
signed_at-requires-in-8 c = (room _ 8 8 _ _ c.in-8.is refl c.requires, refl)

pub float_at-requires : goal.float_at-requires
unfolding number_width member scalar_width
float_at-requires c = room _ 9 8 _ _ c.in-9.is refl c.requires

pub decimal_at-requires : goal.decimal_at-requires
unfolding number_width member scalar_width
decimal_at-requires c = room _ 10 9 _ _ c.in-10.is refl c.requires

pub bounds-bytes-at : goal.bounds-bytes-at
unfolding number_width member scalar_width
bounds-bytes-at c = let p = room _ 11 1 _ _ c.in-11.is refl c.requires in omega (arith, p)

pub signed_at-requires-in-12 : goal.signed_at-requires-in-12
unfolding number_width member scalar_width
signed_at-requires-in-12 c = (room _ 12 4 _ _ c.in-12.is refl c.requires, refl)

pub signed_at-requires-in-13 : goal.signed_at-requires-in-13
unfolding number_width member scalar_width
signed_at-requires-in-13 c = (room _ 13 8 _ _ c.in-13.is refl c.requires, refl)

pub signed_at-requires-in-14 : goal.signed_at-requires-in-14
unfolding number_width member scalar_width
signed_at-requires-in-14 c = (room _ 14 8 _ _ c.in-14.is refl c.requires, refl)

pub unsigned_at-requires-in-15 : goal.unsigned_at-requires-in-15
unfolding number_width member scalar_width
unsigned_at-requires-in-15 c = (room _ 15 4 _ _ c.in-15.is refl c.requires, refl)

pub unsigned_at-requires-in-16 : goal.unsigned_at-requires-in-16
unfolding number_width member scalar_width
unsigned_at-requires-in-16 c = (room _ 16 8 _ _ c.in-16.is refl c.requires, refl)

pub signed_at-requires-in-20 : goal.signed_at-requires-in-20
unfolding number_width member scalar_width
signed_at-requires-in-20 c = (room _ 20 4 _ _ c.in-20.is refl c.requires, refl)

pub returns-in-1 : goal.returns-in-1
unfolding number_of number_width member scalar_width
returns-in-1 c = rw c.in-1.is (ap Ok c.unsigned_at.ensures)

pub returns-in-2 : goal.returns-in-2
unfolding number_of number_width member scalar_width
returns-in-2 c = rw c.in-2.is (ap Ok c.signed_at.ensures)

pub returns-in-3 : goal.returns-in-3
unfolding number_of number_width member scalar_width
returns-in-3 c = rw c.in-3.is (ap Ok c.unsigned_at-in-3.ensures)

pub returns-in-4 : goal.returns-in-4
unfolding number_of number_width member scalar_width
returns-in-4 c = rw c.in-4.is (ap Ok c.signed_at-in-4.ensures)

pub returns-in-5 : goal.returns-in-5
unfolding number_of number_width member scalar_width
returns-in-5 c = rw c.in-5.is (ap Ok c.unsigned_at-in-5.ensures)

pub returns-in-6 : goal.returns-in-6
unfolding number_of number_width member scalar_width
returns-in-6 c = rw c.in-6.is (ap Ok c.signed_at-in-6.ensures)

pub returns-in-7 : goal.returns-in-7
unfolding number_of number_width member scalar_width
returns-in-7 c = rw c.in-7.is (ap Ok c.unsigned_at-in-7.ensures)

pub returns-in-8 : goal.returns-in-8
unfolding number_of number_width member scalar_width
returns-in-8 c = rw c.in-8.is (ap Ok c.signed_at-in-8.ensures)

pub returns-in-9 : goal.returns-in-9
unfolding number_of number_width member scalar_width
returns-in-9 c = rw c.in-9.is (ap Ok c.float_at.ensures)

pub returns-in-10 : goal.returns-in-10
unfolding number_of number_width member scalar_width
returns-in-10 c = rw c.in-10.is (ap Ok c.decimal_at.ensures)

pub returns-in-11 : goal.returns-in-11
unfolding number_of number_width member scalar_width
returns-in-11 c = rw c.in-11.is (ap (λ (x : ℕ). Ok (Flag (eqb x 1))) (sym (le-one c.args.bytes.now c.args.at (room _ 11 1 _ _ c.in-11.is refl c.requires))))

pub returns-in-12 : goal.returns-in-12
unfolding number_of number_width member scalar_width
returns-in-12 c = rw c.in-12.is (ap Ok c.signed_at-in-12.ensures)

pub returns-in-13 : goal.returns-in-13
unfolding number_of number_width member scalar_width
returns-in-13 c = rw c.in-13.is (ap Ok c.signed_at-in-13.ensures)

pub returns-in-14 : goal.returns-in-14
unfolding number_of number_width member scalar_width
returns-in-14 c = rw c.in-14.is (ap Ok c.signed_at-in-14.ensures)

pub returns-in-15 : goal.returns-in-15
unfolding number_of number_width member scalar_width
returns-in-15 c = rw c.in-15.is (ap Ok c.unsigned_at-in-15.ensures)

pub returns-in-16 : goal.returns-in-16
unfolding number_of number_width member scalar_width
returns-in-16 c = rw c.in-16.is (ap Ok c.unsigned_at-in-16.ensures)

pub returns-in-20 : goal.returns-in-20
unfolding number_of number_width member scalar_width
returns-in-20 c = rw c.in-20.is (ap Ok c.signed_at-in-20.ensures)

pub returns-in_default : goal.returns-in_default
returns-in_default c = let m = c.in_default.in_default-own.rest in other _ _ m.0.0.0.0.0.0.0.0.0.0.0.0.0.0.0.0.1 m.0.0.0.0.0.0.0.0.0.0.0.0.0.0.0.1 m.0.0.0.0.0.0.0.0.0.0.0.0.0.0.1 m.0.0.0.0.0.0.0.0.0.0.0.0.0.1 m.0.0.0.0.0.0.0.0.0.0.0.0.1 m.0.0.0.0.0.0.0.0.0.0.0.1 m.0.0.0.0.0.0.0.0.0.0.1 m.0.0.0.0.0.0.0.0.0.1 m.0.0.0.0.0.0.0.0.1 m.0.0.0.0.0.0.0.1 m.0.0.0.0.0.0.1 m.0.0.0.0.0.1 m.0.0.0.0.1 m.0.0.0.1 m.0.0.1 m.0.1 m.1
