-- What request 7 (document 02) says of the settings store, beyond each answer by itself. Citations are that request's.
use Rattle.schema.specs.Faults.{fault_at}
use Rattle.std.specs.Prelude.{Ok, Err, ℕ, ◌+◌, ◌*◌, ◌<◌, ◌≡◌, true, false, List, replicate}
use Rattle.wire.specs.Bytes.{splice}
use Rattle.settings.specs.Store.{strict, customer_of, version_of, ignoring, ignored_of, good, records, store_verdict, governing, setting_of, setting_at, record_of, add_verdict, store_after}

-- The store with the record put in behind the last one. A full store grows by it.
abbrev pub store_with : List ℕ → ℕ → ℕ → ℕ → ℕ → ℕ → List ℕ
store_with st c v absent pads unused = splice 9 (9 * records st) (record_of c v absent pads unused) st

-- Of a store that is refused, "50 is tested before 51 and 59": everything that is asked of it is refused alike.
pub record Damaged (st : List ℕ) (n place : ℕ) : Type 0 where
  pub find : (c : ℕ) → setting_of st c ≡ Err (fault_at n place)
  pub read : (c v : ℕ) → setting_at st c v ≡ Err (fault_at n place)
  pub add : (c v a p u : ℕ) → add_verdict st c v a p u ≡ Err (fault_at n place)

-- Of an addition to a store that passes: "is 50, also when an addition would make it so". It is refused by 50 exactly where the store with the
-- record put in is, and at the same place.
pub record MadeSo (st : List ℕ) (c v a p u place : ℕ) : Type 0 where
  pub refused : store_verdict (store_with st c v a p u) ≡ Err (fault_at 50 place) → add_verdict st c v a p u ≡ Err (fault_at 50 place)
  pub only : add_verdict st c v a p u ≡ Err (fault_at 50 place) → store_verdict (store_with st c v a p u) ≡ Err (fault_at 50 place)

-- Of an addition that is accepted.
pub record Added (st : List ℕ) (c v a p u : ℕ) (after : List ℕ) : Type 0 where
  pub passes : store_verdict after ≡ Ok tt
  pub more : records after ≡ records st + 1
  -- "the newest governs"
  pub governs : setting_of after c ≡ Ok (ignoring a p u)
  pub others : (d : ℕ) → (d ≡ c → ⊥) → setting_of after d ≡ setting_of st d
  -- "older ones stay readable"
  pub readable : setting_at after c v ≡ Ok (ignoring a p u)
  pub older : (d w : ℕ) → (d ≡ c → w ≡ v → ⊥) → setting_at after d w ≡ setting_at st d w

pub record Claims : Type 0 where
  -- "Its place is the start, in the store, of the first record (or rest) at fault": all records before it are good, and none good stands there.
  pub first : (st : List ℕ) → ((i : ℕ) → i < records st → good st i ≡ true) × (good st (records st) ≡ false)
  -- "A customer's versions rise": each is above every one before it.
  pub rise : (st : List ℕ) (i j : ℕ) → i < j → j < records st → customer_of st i ≡ customer_of st j → version_of st i < version_of st j
  pub damaged : (st : List ℕ) (n place : ℕ) → store_verdict st ≡ Err (fault_at n place) → Damaged st n place
  -- "the newest governs": the customer's last record; "and no settings means nothing ignored"
  pub newest : (st : List ℕ) (i : ℕ) → store_verdict st ≡ Ok tt → i < records st → ((j : ℕ) → i < j → j < records st → customer_of st j ≡ customer_of st i → ⊥)
      → setting_of st (customer_of st i) ≡ Ok (ignored_of st i)
  pub unknown : (st : List ℕ) (c : ℕ) → store_verdict st ≡ Ok tt → ((i : ℕ) → i < records st → customer_of st i ≡ c → ⊥) → setting_of st c ≡ Ok strict
  pub found : (st : List ℕ) (c : ℕ) → store_verdict st ≡ Ok tt → setting_of st c ≡ Ok (governing st c)
  -- "older ones stay readable (59 if not there)"
  pub there : (st : List ℕ) (i : ℕ) → store_verdict st ≡ Ok tt → i < records st → setting_at st (customer_of st i) (version_of st i) ≡ Ok (ignored_of st i)
  pub not_there : (st : List ℕ) (c v : ℕ) → store_verdict st ≡ Ok tt → ((i : ℕ) → i < records st → customer_of st i ≡ c → version_of st i ≡ v → ⊥) → setting_at st c v ≡ Err (fault_at 59 0)
  pub made_so : (st : List ℕ) (c v a p u place : ℕ) → store_verdict st ≡ Ok tt → c < 65536 → v < 65536 → MadeSo st c v a p u place
  pub added : (st : List ℕ) (c v a p u : ℕ) → add_verdict st c v a p u ≡ Ok tt → c < 65536 → v < 65536 → Added st c v a p u (store_after st c v a p u)
  -- "each leaves the store as it was"
  pub stays : (st : List ℕ) (c v a p u n place : ℕ) → add_verdict st c v a p u ≡ Err (fault_at n place) → store_after st c v a p u ≡ st
  -- "no settings means nothing ignored": an empty store, and one of zeros, passes and has none.
  pub none : (n : ℕ) → store_verdict (replicate n 0) ≡ Ok tt
  pub nothing : (n c : ℕ) → setting_of (replicate n 0) c ≡ Ok strict
