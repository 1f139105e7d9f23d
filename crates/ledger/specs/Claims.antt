-- What request 10 says of a line and of a run of calls, sentence by sentence.
use Rattle.schema.specs.Faults.{fault_at}
use Rattle.std.specs.Prelude.{Ok, Err, ◌≡◌, ◌↔◌, true, List, [], ◌++◌, ℕ, ◌+◌, ◌≤◌, ◌<◌, length, take, drop, get_or}
use Rattle.wire.specs.Bytes.{part, le}
use Rattle.schema.specs.Table.{table_verdict}
use Rattle.schema.specs.Forms.{Alike}
use Rattle.fields.specs.Fields.{has_fields}
use Rattle.message.specs.Walk.{done}
use Rattle.message.specs.Sheet.{VA, ST, GB, mark_bytes}
use Rattle.meaning.specs.Conforms.{type_id}
use Rattle.opening.specs.Opening.{Under, message_reading, message_verdict}
use Rattle.ledger.specs.Ledger.{Blank, line_with, Call, call, barcode_of, unfit, line, line_of, Ledger, lines, enters, entered, run, lines_of, kept}

-- Bytes are below 256.
abbrev pub Bytes : List ℕ → Type 0
Bytes b = (i : ℕ) → get_or b i 0 < 256

-- A message that makes a line: accepted, "of our Blank group", whose type id "the caller names" and whose fields are "these five in this order, none a
-- sequence and only the last optional", and with a barcode of 1 to 40 bytes.
pub record Fit (c : Call) : Type 0 where
  pub accepted : message_verdict c.table c.message c.reads ≡ Ok tt
  pub type : type_id c.message ≡ c.blank
  pub fields : has_fields c.table c.blank Blank ≡ true
  pub some : 1 ≤ length (barcode_of c)
  pub short : length (barcode_of c) ≤ 40

-- The line x holds what the sheet s of the message b lists first, in that order: "`GB` type id u64", "`ST` count u32 and bytes", and three times "`VA` and
-- the wire bytes". `density`, `speed` and `grade` are where these bytes stand in the message.
pub record OwnBytes (b s x : List ℕ) : Type 0 where
  pub barcode : List ℕ
  pub count : List ℕ
  pub density : ℕ
  pub speed : ℕ
  pub grade : ℕ
  pub rest : List ℕ
  pub long : 12 ≤ length b
  pub inside : (density + 4 ≤ length b) × (speed + 4 ≤ length b) × (grade + 4 ≤ length b)
  pub four : length count ≡ 4
  pub counts : le count ≡ length barcode
  pub line : x ≡ line_with barcode (part 4 density b) (part 4 speed b) (part 4 grade b)
  pub sheet :
      s ≡ mark_bytes GB ++ (part 8 4 b
      ++ (mark_bytes ST ++ (count ++ (barcode
      ++ (mark_bytes VA ++ (part 4 density b
      ++ (mark_bytes VA ++ (part 4 speed b
      ++ (mark_bytes VA ++ (part 4 grade b ++ rest))))))))))

-- The same by the sheet alone: the count stands at 12, the barcode of n bytes at 16, and behind it, each after a mark, density, speed and grade.
abbrev pub sheet_line : List ℕ → List ℕ
sheet_line s = let n = le (part 4 12 s) in line_with (part n 16 s) (part 4 (18 + n) s) (part 4 (24 + n) s) (part 4 (30 + n) s)

pub record LedgerClaims : Type 0 where
  -- "one fixed 64-byte ledger line"
  pub sixty-four : (c : Call) (x : List ℕ) → line_of c ≡ line x → length x ≡ 64
  -- "From one message of our Blank group .. it makes one .. line", and from no other
  pub made-exactly : (c : Call) → ((x : List ℕ) × (line_of c ≡ line x)) ↔ Fit c
  -- "A refused message (its own number)", before all else
  pub own-number : (c : Call) (n p : ℕ) → message_verdict c.table c.message c.reads ≡ Err (fault_at n p) → line_of c ≡ unfit n p
  pub numbered : (c : Call) (s : Ledger) (p : ℕ) → enters s (line_of c) ≡ Err (fault_at 0 p) → ⊥
  -- "makes no line and leaves the ledger as it was": bytes and fill, at every refusal
  pub unchanged : (c : Call) (s : Ledger) (n p : ℕ) → enters s (line_of c) ≡ Err (fault_at n p) → entered s (line_of c) ≡ s
  -- else the line stands behind the fill, and every other byte is as it was
  pub stands : (c : Call) (s : Ledger) (n : ℕ) → enters s (line_of c) ≡ Ok n → (x : List ℕ) × (line_of c ≡ line x) × (n ≡ s.fill + 64) × (n ≤ length s.bytes)
      × (entered s (line_of c) ≡ lines (take s.fill s.bytes ++ (x ++ drop n s.bytes)) n)
  -- "barcode up to 40 bytes .., density, speed and grade as wire bytes": the message's own, as its sheet lists them
  pub own : (c : Call) (x s : List ℕ) → Bytes c.message → line_of c ≡ line x → message_reading c.table c.message c.reads ≡ done s [] → OwnBytes c.message s x
  -- so a line follows from its own message's sheet alone, whatever came before it: two messages that mean the same make the same line
  pub by-sheet : (c : Call) (x s : List ℕ) → Bytes c.message → line_of c ≡ line x → message_reading c.table c.message c.reads ≡ done s [] → x ≡ sheet_line s
  -- "From an empty ledger, over any run of calls, each given ledger and fill as the last left them, it holds exactly the lines of the messages that none of
  -- these refuse, in order, up to the first 56": and behind them what stood there
  pub holds : (bytes : List ℕ) (cs : List Call) → (run (lines bytes 0) cs).bytes ≡ kept (length bytes) (lines_of cs) ++ drop (length (kept (length bytes) (lines_of cs))) bytes
  pub fills : (bytes : List ℕ) (cs : List Call) → (run (lines bytes 0) cs).fill ≡ length (kept (length bytes) (lines_of cs))
  -- and from a ledger that has lines already, A, with R free behind them: these stay, and the new lines go behind them
  pub behind : (A R : List ℕ) (cs : List Call)
      → run (lines (A ++ R) (length A)) cs ≡ lines (A ++ (kept (length R) (lines_of cs) ++ drop (length (kept (length R) (lines_of cs))) R)) (length A + length (kept (length R) (lines_of cs)))
  -- request 8: the same for two accepted tables, `GR` and `GW`, alike but for marks and widths
  pub forms : (t u b : List ℕ) (x : Under) (blank : ℕ) → table_verdict t ≡ Ok tt → table_verdict u ≡ Ok tt → Alike t u → line_of (call t b x blank) ≡ line_of (call u b x blank)
