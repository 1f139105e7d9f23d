-- For C an answer's number says whether it is one: it is 0 exactly where nothing is refused. Of a tape's step `ended` says whether the tape has
-- ended, and offset and length which of its bytes are handed out.
use Rattle.settings.specs.declared.Ignored.{Ignored}
use Rattle.reading.specs.declared.Part.{Part}
use Rattle.schema.specs.declared.Fault.{Fault}
use Rattle.schema.specs.Faults.{Verdict, fault_at}
use Rattle.std.specs.Prelude.{Err, Some, None, Result, ◌≡◌, ◌↔◌, List, ℕ}
use Rattle.wire.specs.Bytes.{part}
use Rattle.schema.specs.Table.{table_verdict}
use Rattle.fields.specs.declared.FieldShape.{FieldShape}
use Rattle.fields.specs.Fields.{field_shape}
use Rattle.settings.specs.Store.{store_verdict, setting_at, add_verdict}
use Rattle.reading.specs.declared.Number.{Number}
use Rattle.sheet.specs.Rewritten.{Rooms}
use Rattle.tape.specs.declared.Step.{Step}
use Rattle.tape.specs.Tape.{tape_step, handed}
use Rattle.opening.specs.Opening.{Under, message_verdict}
use Rattle.codec.specs.Answers.{written_of, to_sheet, to_message, rewriting, number_answer, part_answer}
use Rattle.ledger.specs.Ledger.{Call, line_of, Ledger, enters}
use Rattle.blink_native.specs.Boundary.{exported, exported_written, exported_number, exported_span, exported_settings, exported_step, exported_shape}

abbrev pub VerdictTold : Verdict → Type 0
VerdictTold v = ((exported v).number ≡ 0) ↔ ((n p : ℕ) → v ≡ Err (fault_at n p) → ⊥)

abbrev pub WrittenTold : Result ℕ Fault → Type 0
WrittenTold w = ((exported_written w).number ≡ 0) ↔ ((n p : ℕ) → w ≡ Err (fault_at n p) → ⊥)

abbrev pub SettingTold : Result Ignored Fault → Type 0
SettingTold x = ((exported_settings x).number ≡ 0) ↔ ((n p : ℕ) → x ≡ Err (fault_at n p) → ⊥)

abbrev pub NumberTold : Result Number Fault → Type 0
NumberTold x = ((exported_number x).number ≡ 0) ↔ ((n p : ℕ) → x ≡ Err (fault_at n p) → ⊥)

abbrev pub SpanTold : Result Part Fault → Type 0
SpanTold x = ((exported_span x).number ≡ 0) ↔ ((n p : ℕ) → x ≡ Err (fault_at n p) → ⊥)

abbrev pub ShapeTold : Result FieldShape Fault → Type 0
ShapeTold x = ((exported_shape x).number ≡ 0) ↔ ((n p : ℕ) → x ≡ Err (fault_at n p) → ⊥)

pub record StepTold (s : List ℕ) (at : ℕ) (x : Step) : Type 0 where
  pub told : ((exported_step at x).number ≡ 0) ↔ ((n p : ℕ) → x.answer ≡ Some (Err (fault_at n p)) → ⊥)
  pub ended : ((exported_step at x).ended ≡ 1) ↔ (x.answer ≡ None)
  pub bytes : part (exported_step at x).length (exported_step at x).offset s ≡ handed s at x.answer

-- Each question, of any bytes.
pub record Claims : Type 0 where
  pub table : (t : List ℕ) → VerdictTold (table_verdict t)
  pub shape : (t : List ℕ) (id field : ℕ) → ShapeTold (field_shape t id field)
  pub store : (st : List ℕ) → VerdictTold (store_verdict st)
  pub settings : (st : List ℕ) (c v : ℕ) → SettingTold (setting_at st c v)
  pub addition : (st : List ℕ) (c v absent pads unused : ℕ) → VerdictTold (add_verdict st c v absent pads unused)
  pub message : (t b : List ℕ) (u : Under) → VerdictTold (message_verdict t b u)
  pub tape : (t s : List ℕ) (u : Under) (at : ℕ) → StepTold s at (tape_step t s at u)
  pub number : (t b : List ℕ) (u : Under) (field item : ℕ) → NumberTold (number_answer t b u field item)
  pub span : (t b : List ℕ) (u : Under) (field item : ℕ) → SpanTold (part_answer t b u field item)
  pub to-sheet : (t b : List ℕ) (u : Under) (room : ℕ) → WrittenTold (written_of (to_sheet t b u room))
  pub to-message : (t s : List ℕ) (room : ℕ) → WrittenTold (written_of (to_message t s room))
  pub rewrite : (t b st : List ℕ) (c : ℕ) (rooms : Rooms) → WrittenTold (written_of (rewriting t b st c rooms))
  pub line : (s : Ledger) (c : Call) → WrittenTold (enters s (line_of c))
