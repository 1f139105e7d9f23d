-- "The bytes answer fits 17, 18, 19, 22, 23: the exact part of the caller's message, without the count for 17 and 18, for a dynamic group with
-- its size word, so that it is a message too. On any refusal it is the empty part, and a twin question gives the number."
use Rattle.schema.specs.declared.Fault.{Fault}
use Rattle.schema.specs.Faults.{Verdict, fault_at}
use Rattle.std.specs.Prelude.{Ok, Err, Result, cond, List, [], ℕ, ◌+◌, eqb}
use Rattle.wire.specs.Bytes.{part}
use Rattle.schema.specs.Schema.{Kind, plain, inline, indirect, static, dynamic}
use Rattle.message.specs.Walk.{byte}
use Rattle.meaning.specs.Conforms.{target, count_at}
use Rattle.reading.specs.declared.Part.{Part}
use Rattle.reading.specs.Item.{Item, missing, item}

-- The part of an item at p, of type t and this kind: where it starts, and how long it is. "48 other kind".
unfoldable pub part_of : ℕ → Kind → List ℕ → ℕ → Result Part Fault
part_of t (plain w x) b p = cond (eqb t 19) (Ok (record { start = p; length = w })) (Err (fault_at 48 0))
part_of t (inline u c) b p = Ok (record { start = p + 1; length = byte p b })
part_of t (indirect u) b p = Ok (record { start = target b p + 4; length = count_at b p })
part_of t (static g) b p = Err (fault_at 48 0)
part_of t (dynamic g) b p = Ok (record { start = target b p; length = 4 + count_at b p })

unfoldable pub part_at : List ℕ → Item → Result Part Fault
part_at b (missing n) = Err (fault_at n 0)
part_at b (item f p) = part_of f.type f.kind b p

-- The bytes themselves, where they start, and the twin question's answer.
unfoldable pub bytes_in : List ℕ → Result Part Fault → List ℕ
bytes_in b (Err f) = []
bytes_in b (Ok x) = part x.length x.start b

unfoldable pub start_of : Result Part Fault → ℕ
start_of (Err f) = 0
start_of (Ok x) = x.start

unfoldable pub verdict_of : Result Part Fault → Verdict
verdict_of (Err f) = Err f
verdict_of (Ok x) = Ok tt
