-- The settings store: which of document 01's faults 4, 6 and 8 a customer's messages may have. All citations are document 02's, of request 7.
-- "Add a settings store, a lent buffer of records, a two-byte mark before each, `CS`: customer number u16, version u16, three flag bytes to ignore
-- 4, 6 and 8. Records of 9 bytes stand from the start, all bytes after them are zero."
use Rattle.schema.specs.declared.Fault.{Fault}
use Rattle.std.specs.Prelude.{Ok, Err, Result, Bool, true, false, cond, ◌&&◌, List, [], ◌∷◌, ◌++◌, ℕ, zero, suc, ◌+◌, ◌*◌, length, drop, get_or, leb, ltb, eqb}
use Rattle.wire.specs.Bytes.{part, splice, le, bytes_of, same, all_zero}
use Rattle.schema.specs.Faults.{Verdict, fault_at, need}
use Rattle.settings.specs.declared.Ignored.{Ignored}

-- WHAT IS IGNORED

-- "no settings means nothing ignored"
abbrev pub strict : Ignored
strict = record { absent = false; pads = false; unused = false }

-- All three.
abbrev pub lax : Ignored
lax = record { absent = true; pads = true; unused = true }

-- By flag bytes.
abbrev pub ignoring : ℕ → ℕ → ℕ → Ignored
ignoring absent pads unused = record { absent = eqb absent 1; pads = eqb pads 1; unused = eqb unused 1 }

-- RECORDS
-- By number, from 0: record n starts at 9 * n.

abbrev pub CS : List ℕ
CS = 67 ∷ (83 ∷ [])

abbrev pub customer_of : List ℕ → ℕ → ℕ
customer_of st n = le (part 2 (9 * n + 2) st)

abbrev pub version_of : List ℕ → ℕ → ℕ
version_of st n = le (part 2 (9 * n + 4) st)

abbrev pub flag_of : List ℕ → ℕ → ℕ → ℕ
flag_of st n i = get_or st (9 * n + 6 + i) 0

abbrev pub ignored_of : List ℕ → ℕ → Ignored
ignored_of st n = ignoring (flag_of st n 0) (flag_of st n 1) (flag_of st n 2)

-- The last of the first n records of which p holds, by its number plus 1; 0 where there is none.
unfoldable pub last_of : (ℕ → Bool) → ℕ → ℕ
last_of p zero = 0
last_of p (suc k) = cond (p k) (suc k) (last_of p k)

-- The customer's newest record, and that of one version.
abbrev pub newest : List ℕ → ℕ → ℕ → ℕ
newest st c n = last_of (λ k. eqb (customer_of st k) c) n

abbrev pub versioned : List ℕ → ℕ → ℕ → ℕ → ℕ
versioned st c v n = last_of (λ k. eqb (customer_of st k) c && eqb (version_of st k) v) n

-- "A customer's versions rise": version v is above that of this record, which is named by its number plus 1.
unfoldable pub above : List ℕ → ℕ → ℕ → Bool
above st v zero = true
above st v (suc k) = ltb (version_of st k) v

-- "a flag other than 0 or 1"
unfoldable pub flags_ok : ℕ → ℕ → ℕ → Bool
flags_ok absent pads unused = leb absent 1 && (leb pads 1 && leb unused 1)

-- Whether version v of customer c with these flags may stand behind the first n records.
unfoldable pub follows : List ℕ → ℕ → ℕ → ℕ → ℕ → ℕ → ℕ → Bool
follows st n c v absent pads unused = flags_ok absent pads unused && above st v (newest st c n)

-- Nine bytes with the mark are there.
unfoldable pub stands : List ℕ → ℕ → Bool
stands st n = leb (9 * n + 9) (length st) && same (part 2 (9 * n) st) CS

unfoldable pub good : List ℕ → ℕ → Bool
good st n = stands st n && follows st n (customer_of st n) (version_of st n) (flag_of st n 0) (flag_of st n 1) (flag_of st n 2)

-- THE STORE

-- The first number from n on of which p does not hold, k further on at most.
unfoldable pub run : (ℕ → Bool) → ℕ → ℕ → ℕ
run p zero n = n
run p (suc k) n = cond (p n) (run p k (n + 1)) n

-- How many good records stand from the start on.
unfoldable pub records : List ℕ → ℕ
records st = run (good st) (length st) 0

-- "all bytes after them are zero": what is no good record is the rest. A record at fault is never zero, it has the mark.
unfoldable pub sound : List ℕ → Bool
sound st = all_zero (drop (9 * records st) st)

-- "A store that is damaged, holds a flag other than 0 or 1, or has a version that doesn't rise is 50". "Its place is the start, in the store, of the
-- first record (or rest) at fault."
unfoldable pub store_verdict : List ℕ → Verdict
store_verdict st = need (sound st) (Err (fault_at 50 (9 * records st))) (Ok tt)

-- WHAT A CUSTOMER'S SETTINGS ARE

-- By a record's number plus 1; "and no settings means nothing ignored".
unfoldable pub ignored_by : List ℕ → ℕ → Ignored
ignored_by st zero = strict
ignored_by st (suc k) = ignored_of st k

-- "the newest governs"
unfoldable pub governing : List ℕ → ℕ → Ignored
governing st c = ignored_by st (newest st c (records st))

unfoldable pub setting_of : List ℕ → ℕ → Result Ignored Fault
setting_of st c = need (sound st) (Err (fault_at 50 (9 * records st))) (Ok (governing st c))

-- "older ones stay readable (59 if not there)", "50 is tested before 51 and 59"
unfoldable pub version_by : List ℕ → ℕ → Result Ignored Fault
version_by st zero = Err (fault_at 59 0)
version_by st (suc k) = Ok (ignored_of st k)

unfoldable pub setting_at : List ℕ → ℕ → ℕ → Result Ignored Fault
setting_at st c v = need (sound st) (Err (fault_at 50 (9 * records st))) (version_by st (versioned st c v (records st)))

-- A NEW VERSION

abbrev pub record_of : ℕ → ℕ → ℕ → ℕ → ℕ → List ℕ
record_of c v absent pads unused = CS ++ (bytes_of 2 c ++ (bytes_of 2 v ++ (absent ∷ (pads ∷ (unused ∷ [])))))

-- "also when an addition would make it so. Fewer than 9 bytes after the last record refuses an addition with 51. 50 is tested before 51".
unfoldable pub add_verdict : List ℕ → ℕ → ℕ → ℕ → ℕ → ℕ → Verdict
add_verdict st c v absent pads unused =
    need (sound st && follows st (records st) c v absent pads unused) (Err (fault_at 50 (9 * records st)))
    (need (leb (9 * records st + 9) (length st)) (Err (fault_at 51 0))
    (Ok tt))

-- "each leaves the store as it was"
unfoldable pub store_after : List ℕ → ℕ → ℕ → ℕ → ℕ → ℕ → List ℕ
store_after st c v absent pads unused = put (add_verdict st c v absent pads unused)
  where
    put : Verdict → List ℕ
    put (Ok _) = splice 9 (9 * records st) (record_of c v absent pads unused) st
    put (Err f) = st
