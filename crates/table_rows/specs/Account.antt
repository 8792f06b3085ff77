-- "Each table keeps one small record, limit, held size and entry count, which the calls bring up to date in place."
use Rattle.std.specs.Prelude.{ℕ, ◌+◌, ◌-◌, Bool, leb}
use Rattle.table_rows.specs.declared.account.Account.{Account}

-- "An insert that would pass it is 7": held size and new size are added, never subtracted, since a limit may fall below what is held
unfoldable pub fits : Account → ℕ → Bool
fits a size = leb (a.held + size) a.limit

-- an entry of this size put in, and freed
unfoldable pub charged : Account → ℕ → Account
charged a size = record { limit = a.limit; held = a.held + size; count = a.count + 1 }

unfoldable pub released : Account → ℕ → Account
released a size = record { limit = a.limit; held = a.held - size; count = a.count - 1 }
