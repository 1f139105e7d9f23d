-- The records of a file of questions, as README.md describes them.
use Rattle.std.specs.Prelude.{Bool, not, cond, ◌&&◌, ◌||◌, List, ◌++◌, ℕ, ◌-◌, ◌%◌, ◌^◌, length, drop, replicate, leb, eqb}
use Rattle.wire.specs.Bytes.{part, le}
use Rattle.conformance.specs.declared.record.Record.{Record}
use Rattle.conformance.specs.declared.held.Held.{Held}

-- The record of a header.
abbrev pub record_of : List ℕ → Record
record_of h =
    record {
      kind = le (part 4 0 h);
      length = le (part 4 4 h);
      stored = le (part 4 8 h);
      scratch = le (part 4 12 h);
      sheet = le (part 4 16 h);
      output = le (part 4 20 h);
      field = le (part 8 24 h);
      item = le (part 8 32 h);
    }

-- "The input is the stored bytes and zeros up to its length": what follows the stored bytes in a room, where the input fits.
unfoldable pub behind : ℕ → ℕ → List ℕ → List ℕ
behind stored n room =
    cond (leb n (length room) && leb stored n)
    (replicate (n - stored) 0 ++ drop n room)
    (drop stored room)

-- What is in force: how long the table and the store are, and the customer.
pub record InForce : Type 0 where
  pub table : ℕ
  pub store : ℕ
  pub customer : ℕ

abbrev pub in_force : Held → InForce
in_force h = record { table = h.table.length; store = h.store.length; customer = h.customer }

-- "the table in force from here on", and the store, "and in `field` the customer".
abbrev pub held_after : Record → InForce → InForce
held_after r h =
    cond (leb r.kind 1)
    (record { table = r.length; store = h.store; customer = h.customer })
    (cond (eqb r.kind 8)
    (record { table = h.table; store = r.length; customer = r.field % 2 ^ 16 })
    h)

-- A question that writes a sheet or a message: kinds 3, 4 and 5.
abbrev pub writes : ℕ → Bool
writes kind = leb 3 kind && leb kind 5

-- "no scratch or output longer than 65,600, no sheet room longer than 786,432": the last two are for kinds 3, 4 and 5.
abbrev pub lendable : Record → Bool
lendable r = leb r.scratch 65600 && (not (writes r.kind) || leb r.sheet 786432 && leb r.output 65600)
