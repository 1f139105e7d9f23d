-- Document 01: "Date ff ff ff ff reads as -1, the day before 2000-01-01; 00 00 00 80 as -2,147,483,648."
use Rattle.std.specs.Prelude.{Ok, ◌≡◌, refl, [], ◌∷◌, negsuc}
use Rattle.wire.specs.Bytes.{le}
use Rattle.schema.specs.Schema.{member}
use Rattle.schema.specs.Table.{scalar_width}
use Rattle.reading.specs.declared.Number.TheVariants.{Signed}
use Rattle.reading.specs.Number.{number_width, number_of}

-- negsuc n is -1 - n.
pub day-before : number_of 12 (0xff ∷ (0xff ∷ (0xff ∷ (0xff ∷ [])))) ≡ Ok (Signed (negsuc 0))
unfolding le member scalar_width number_width number_of
day-before = refl

pub first-day : number_of 12 (0x00 ∷ (0x00 ∷ (0x00 ∷ (0x80 ∷ [])))) ≡ Ok (Signed (negsuc 2147483647))
unfolding le member scalar_width number_width number_of
first-day = refl
