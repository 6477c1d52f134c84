-- The meaning of a store: a list of tables. Assumes nothing.
use Rattle.std.specs.Prelude.{◌≡◌, ℕ, ◌<◌, ◌≤◌, List, [], ◌∷◌, map, length, Some, None, Option}
use Rattle.std.specs.List.{AllByRecursion, slice_get}
use Rattle.stores.specs.declared.rows.Row.{Row}

-- A table: how many rows it may hold, how many keys were given in it so far, and its rows.
pub record Table : Type 0 where
  pub limit : ℕ
  pub given : ℕ
  pub rows : List Row

-- So many keys are given in a table at most.
abbrev pub key_limit : ℕ
key_limit = 1000000

-- Keys rise strictly, all of them above low and at most high.
abbrev pub Rising : ℕ → ℕ → List Row → Type 0
Rising low high [] = Unit {0}
Rising low high (r ∷ rs) = (low < r.key) × (r.key ≤ high) × Rising r.key high rs

-- At most a million keys are given in a table, and its keys rise strictly, between 1 and the number of keys given.
pub record SoundTable (t : Table) : Type 0 where
  pub few : t.given ≤ key_limit
  pub keys : Rising 0 t.given t.rows

-- What every store owes of its meaning: there are at most 65,535 tables, and each is sound.
pub record Sound (ts : List Table) : Type 0 where
  pub few : length ts ≤ 65535
  pub tables : AllByRecursion SoundTable ts

-- The limits of all tables.
abbrev pub limits : List Table → List ℕ
limits ts = map (λ t. t.limit) ts

-- As many tables as before, each with the same limit.
abbrev pub SameLimits : List Table → List Table → Type 0
SameLimits before after = limits after ≡ limits before

abbrev pub count_of : Option Table → Option ℕ
count_of None = None
count_of (Some t) = Some (length t.rows)

-- The number of a table's rows; none beyond the last table.
abbrev pub row_count : List Table → ℕ → Option ℕ
row_count ts n = count_of (slice_get ts n)

abbrev pub rows_of : Option Table → List Row
rows_of None = []
rows_of (Some t) = t.rows

-- A table's rows; no row beyond the last table.
abbrev pub rows_in : List Table → ℕ → List Row
rows_in ts n = rows_of (slice_get ts n)

-- The row at a place, counted from 0; none beyond the last row or table.
abbrev pub row_at : List Table → ℕ → ℕ → Option Row
row_at ts n place = slice_get (rows_in ts n) place
