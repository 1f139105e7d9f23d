-- The faults' words, and how a number's words are found in a text of lines.
use Rattle.std.specs.Prelude.{Bool, true, cond, ◌&&◌, List, [], ◌∷◌, ◌++◌, ℕ, ◌+◌, ◌/◌, ◌%◌, length, take, drop, ltb, eqb}
use Prim.Native.Char.{code}
use Prim.Native.String.{String, [] as none, ◌∷◌ as ◌then◌}
use Rattle.wire.specs.Bytes.{same}

-- What a line begins with: its number's two digits, the first a space below 10, and a space.
unfoldable pub heading : ℕ → List ℕ
heading n = cond (ltb n 10) 32 (48 + n / 10) ∷ ((48 + n % 10) ∷ (32 ∷ []))

-- The first line, without its end.
unfoldable pub line : List ℕ → List ℕ
line [] = []
line (b ∷ bs) = cond (eqb b 10) [] (b ∷ line bs)

-- What follows the heading in the first line that begins with it; nothing where none does. `first` says whether the text
-- begins with a line.
unfoldable pub behind : List ℕ → Bool → List ℕ → List ℕ
behind h first [] = []
behind h first (b ∷ bs) = cond (first && same (take 3 (b ∷ bs)) h) (line (drop 2 bs)) (behind h (eqb b 10) bs)

-- A number's words.
abbrev pub words_of : ℕ → List ℕ → List ℕ
words_of n text = behind (heading n) true text

-- A room after words were written at its start, as far as they fit.
abbrev pub fitted : List ℕ → List ℕ → List ℕ
fitted words room = take (length room) words ++ drop (length words) room

-- A line of text as bytes, with its end: all of it is ASCII.
unfoldable pub bytes : String → List ℕ
bytes none = 10 ∷ []
bytes (c then s) = code c ∷ bytes s

-- What each fault means, as include/faults.txt has it for all.
unfoldable pub faults : List ℕ
faults =
    bytes " 1 a group's size is under 12: too short for its type id and its extension offset"
    ++ bytes " 2 no group of the table has this type id"
    ++ bytes " 3 the extension offset leads outside the group's data area"
    ++ bytes " 4 a byte of an absent field is not zero"
    ++ bytes " 5 an offset leads outside the group's data area"
    ++ bytes " 6 a byte of the data area that belongs to no value is not zero"
    ++ bytes " 7 the count of an inline string or binary is over its capacity"
    ++ bytes " 8 an unused byte of an inline string or binary is not zero"
    ++ bytes " 9 a string is not valid UTF-8"
    ++ bytes "10 the enumeration has no symbol of this value"
    ++ bytes "11 a bool or a presence flag is neither 0 nor 1"
    ++ bytes "12 a time of day is 24 hours or more"
    ++ bytes "13 the items of a sequence run past the data area"
    ++ bytes "14 a group's size is too small for its fields"
    ++ bytes "20 the table is refused"
    ++ bytes "21 the scratch is shorter than the message"
    ++ bytes "22 the message is under 4 bytes long, or its length is not 4 plus its size"
    ++ bytes "23 the message is longer than 65536 bytes"
    ++ bytes "24 a group lies deeper than level 8"
    ++ bytes "25 a group of this type is not allowed here"
    ++ bytes "26 a value runs past the data area"
    ++ bytes "27 a value lies on a byte that another value has taken"
    ++ bytes "28 there is no such field, or no such item in it"
    ++ bytes "29 the field is absent"
    ++ bytes "30 the table is empty, longer than 65536 bytes, or not made of records of 16 bytes"
    ++ bytes "31 a mark is not the one due, GR and GW are mixed, a record is missing, a count is out of range, or a 65th enumeration or group"
    ++ bytes "32 a byte that must be zero is not, or a flag is neither 0 nor 1"
    ++ bytes "33 a type, size, reference or super group is out of range"
    ++ bytes "34 symbols do not rise, a type id comes twice, or no group has one"
    ++ bytes "35 a group is wider than 4096 bytes, its static groups nest deeper than 4, or a static group has no width"
    ++ bytes "36 a group's fields do not begin with those of its super group"
    ++ bytes "37 the width that a group stores is not its own"
    ++ bytes "40 the sheet ends inside a record"
    ++ bytes "41 a record's mark is not the one due"
    ++ bytes "42 the sheet is longer than 1048576 bytes"
    ++ bytes "43 bytes follow the end of the message's group"
    ++ bytes "44 an extension record says that it has no groups"
    ++ bytes "45 a group kept as unknown has a type id of the table"
    ++ bytes "46 the sheet is longer than its room"
    ++ bytes "47 the message is longer than its room or than 65536 bytes"
    ++ bytes "48 the field is of another kind: no number, or no bytes"
    ++ bytes "50 the settings store is damaged, has a flag that is neither 0 nor 1 or a version that does not rise, or the addition would make it so"
    ++ bytes "51 the settings store has no room for another record"
    ++ bytes "59 the customer has no settings of that version"
