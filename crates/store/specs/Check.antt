-- The two phases of the store's check: the records that stand with good flags, and of these the ones whose versions rise.
use Rattle.std.specs.Prelude.{Bool, ◌&&◌, List, ℕ, zero, suc, Option, Some, None}
use Rattle.settings.specs.Store.{customer_of, version_of, flag_of, newest, above, flags_ok, stands}

unfoldable pub standing : List ℕ → ℕ → Bool
standing st n = stands st n && flags_ok (flag_of st n 0) (flag_of st n 1) (flag_of st n 2)

-- Record number k against the newest of its customer among the first `from` records.
unfoldable pub rising_from : List ℕ → ℕ → ℕ → Bool
rising_from st k from = above st (version_of st k) (newest st (customer_of st k) from)

unfoldable pub rising : List ℕ → ℕ → Bool
rising st k = rising_from st k k

-- A record as the store's definitions name it: by its number plus 1, and by 0 where there is none.
abbrev pub named : Option ℕ → ℕ
named None = zero
named (Some n) = suc n
