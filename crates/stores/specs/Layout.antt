-- How a store is laid out from the limits of its tables. Assumes nothing.
use Rattle.std.specs.Prelude.{ℕ, Bool, cond, ◌&&◌, List, [], map, length, Some, None, sum, Option, nat_le, nat_lt}
use Rattle.stores.specs.Tables.{Table}

-- A table for each limit, with no key given and no row.
abbrev pub new_tables : List ℕ → List Table
new_tables ls = map (λ l. record { limit = l; given = 0; rows = [] }) ls

-- There are limits, at most 8 of them, and their sum is at most 2,048 and at most the number of rows lent.
abbrev pub layable : List ℕ → ℕ → Bool
layable ls rows = nat_lt 0 (length ls) && nat_le (length ls) 8 && nat_le (sum ls) 2048 && nat_le (sum ls) rows

-- The sum of limits, unless it exceeds 2,048.
abbrev pub small_sum : List ℕ → Option ℕ
small_sum ls = cond (nat_le (sum ls) 2048) (Some (sum ls)) None

-- The limits, where they can be laid out in so many rows.
abbrev pub laying_out : List ℕ → ℕ → Option (List ℕ)
laying_out ls rows = cond (layable ls rows) (Some ls) None
