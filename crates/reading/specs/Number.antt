-- "A number answer fits types 1..16 and 20: signed (2, 4, 6, 8, 12 to 14, 20), unsigned (1, 3, 5, 7, 15, 16), bool, decimal or float;
-- an f64 reading is the float whose bits are the eight bytes."
use Rattle.schema.specs.declared.Fault.{Fault}
use Rattle.schema.specs.Faults.{fault_at}
use Rattle.std.specs.Prelude.{Ok, Err, Result, cond, List, [], ◌∷◌, ◌++◌, ℕ, ◌-◌, ◌*◌, eqb}
use Rattle.std.specs.Float.Ieee.{of_bits, nan_bits}
use Rattle.std.specs.Float.{binary64}
use Rattle.wire.specs.Bytes.{part, le, signed}
use Rattle.schema.specs.Schema.{member}
use Rattle.schema.specs.Table.{scalar_width}
use Rattle.reading.specs.declared.Number.{Number}
use Rattle.reading.specs.declared.Number.TheVariants.{Signed, Unsigned, Bool as Flag, Decimal, Float, NanBits}
use Rattle.reading.specs.Item.{Item, missing, item}

abbrev pub unsigned_types : List ℕ
unsigned_types = 1 ∷ (3 ∷ (5 ∷ (7 ∷ (15 ∷ (16 ∷ [])))))

abbrev pub signed_types : List ℕ
signed_types = 2 ∷ (4 ∷ (6 ∷ (8 ∷ (12 ∷ (13 ∷ (14 ∷ (20 ∷ [])))))))

-- These, and an f64, a decimal and a bool.
abbrev pub number_types : List ℕ
number_types = unsigned_types ++ (signed_types ++ (9 ∷ (10 ∷ (11 ∷ []))))

-- How many bytes the number of a type is made of; 0 where the type is no number.
unfoldable pub number_width : ℕ → ℕ
number_width t = cond (member t number_types) (scalar_width t) 0

-- The logic has one NaN, so a NaN's bits are kept as the number that they are; any other eight bytes are the float whose bits they are.
unfoldable pub float_of : ℕ → Number
float_of n = cond (nan_bits binary64 n) (NanBits n) (Float (of_bits binary64 n))

-- "10 decimal 9 (i8 exponent, i64 mantissa)"
unfoldable pub decimal_of : List ℕ → Number
decimal_of x = Decimal (signed 7 (le (part 1 0 x))) (signed 63 (le (part 8 1 x)))

-- The number of type t that the bytes x are; "48 other kind".
unfoldable pub number_of : ℕ → List ℕ → Result Number Fault
number_of t x =
    cond (member t unsigned_types) (Ok (Unsigned (le x)))
    (cond (member t signed_types) (Ok (Signed (signed (8 * number_width t - 1) (le x))))
    (cond (eqb t 9) (Ok (float_of (le x)))
    (cond (eqb t 10) (Ok (decimal_of x))
    (cond (eqb t 11) (Ok (Flag (eqb (le x) 1)))
    (Err (fault_at 48 0))))))

unfoldable pub number_at : List ℕ → Item → Result Number Fault
number_at b (missing n) = Err (fault_at n 0)
number_at b (item f p) = number_of f.type (part (number_width f.type) p b)
