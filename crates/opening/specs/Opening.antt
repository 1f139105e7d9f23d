-- What every question about a message begins with: the message's reading under a table, a settings store and a scratch, and what is left
-- in the scratch.
use Rattle.schema.specs.declared.Fault.{Fault}
use Rattle.std.specs.Prelude.{Ok, Err, Result, ◌≡◌, Bool, true, false, cond, ◌&&◌, List, [], ℕ, ◌*◌, ◌≤◌, length, replicate, leb}
use Rattle.wire.specs.Bytes.{splice}
use Rattle.schema.specs.Faults.{Verdict, fault_at, need}
use Rattle.schema.specs.Table.{schema, table_verdict}
use Rattle.schema.specs.Layout.{Layout}
use Rattle.settings.specs.Store.{lax, records, sound, governing}
use Rattle.message.specs.Walk.{Reading, refused, done, walk, fitting}

-- "A table is accepted when its check gives no number."
unfoldable pub accepted : Verdict → Bool
accepted (Ok _) = true
accepted (Err f) = false

-- What a message is read under, besides the table: the settings store, whose message it is, and how long the scratch is.
pub record Under : Type 0 where
  pub store : List ℕ
  pub customer : ℕ
  pub scratch : ℕ

abbrev pub under : List ℕ → ℕ → ℕ → Under
under store customer scratch = record { store = store; customer = customer; scratch = scratch }

-- The message b under the table t: its first fault, or its sheet.
-- "Whole message: 20, 23, 21, 22." 20 has place 0, whatever the table's own. "In every message question 50 comes right after 21".
unfoldable pub message_reading : List ℕ → List ℕ → Under → Reading
message_reading t b u =
    need (accepted (table_verdict t)) (refused 20 0)
    (fitting u.scratch b
    (need (sound u.store) (refused 50 (9 * records u.store))
    (walk (governing u.store u.customer) (schema t) b)))

-- A reading's verdict.
unfoldable pub verdict_of : Reading → Verdict
verdict_of (refused n p) = Err (fault_at n p)
verdict_of (done s m) = Ok tt

unfoldable pub message_verdict : List ℕ → List ℕ → Under → Verdict
message_verdict t b u = verdict_of (message_reading t b u)

-- The scratch s after any question about a message: "after 20, 23 and 21 untouched; after all else its first bytes, as many as the message has,
-- are zero and the rest untouched"; after 50 untouched.
unfoldable pub scratch_after : List ℕ → List ℕ → List ℕ → List ℕ → List ℕ
scratch_after t st b s =
    cond (accepted (table_verdict t) && (leb (length b) 65536 && (leb (length b) (length s) && sound st)))
    (splice (length b) 0 (replicate (length b) 0) s) s

-- An accepted message b of the table t, whose index is k: its sheet, of n bytes.
pub record Known (t b : List ℕ) (u : Under) (k : List ℕ) (n : ℕ) : Type 0 where
  pub table : table_verdict t ≡ Ok tt
  pub layout : Layout t k
  pub small : length b ≤ 65536
  pub store : sound u.store ≡ true
  pub sheet : List ℕ
  pub walks : walk lax (schema t) b ≡ done sheet []
  pub means : message_reading t b u ≡ done sheet []
  pub long : length sheet ≡ n

-- What a question that goes on from the check's answer w learns.
pub record Opened (t b : List ℕ) (u : Under) (k : List ℕ) (w : Result ℕ Fault) : Type 0 where
  pub refuses : (f : Fault) → w ≡ Err f → message_reading t b u ≡ refused f.number f.place
  pub opens : (n : ℕ) → w ≡ Ok n → Known t b u k n
