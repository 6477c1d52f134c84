-- What changes a store: adding, replacing and removing a row, and a pass over all rows of a table. Assumes nothing.
use Rattle.std.specs.Prelude.{ℕ, suc, ◌+◌, Bool, true, false, cond, List, [], ◌∷◌, ◌++◌, length, take, drop, ℤ, Some, None, Ok, Err, Option, Result, nat_le, slice_set}
use Rattle.std.specs.List.{slice_get}
use Rattle.stores.specs.declared.rows.Row.{Row}
use Rattle.stores.specs.declared.rows.Fate.{Fate}
use Rattle.stores.specs.declared.rows.Fate.TheVariants.{Keep, Rewrite, Remove}
use Rattle.stores.specs.declared.rows.AddRefusal.{AddRefusal}
use Rattle.stores.specs.declared.rows.AddRefusal.TheVariants.{NoTable, TableFull, KeysSpent}
use Rattle.stores.specs.Tables.{Table, key_limit, rows_in, row_at}

-- The number of each refusal of adding.
abbrev pub number_of : AddRefusal → ℕ
number_of NoTable = 3
number_of TableFull = 12
number_of KeysSpent = 13

-- What a function that changes a store answers, and the tables after it.
pub record Changed (A : Type 0) : Type 0 where
  pub answer : A
  pub tables : List Table

abbrev pub changed : {A : Type 0} → A → List Table → Changed A
changed a ts = record { answer = a; tables = ts }

-- The row of a key and two values.
abbrev pub row : ℕ → ℤ → ℤ → Row
row key f s = record { key = key; first = f; second = s }

-- A table with one row more at its end, with a key one above the keys given.
abbrev pub grown : Table → ℤ → ℤ → Table
grown t f s = record { limit = t.limit; given = t.given + 1; rows = t.rows ++ row (t.given + 1) f s ∷ [] }

abbrev pub adding_to : Option Table → List Table → ℕ → ℤ → ℤ → Changed (Result ℕ AddRefusal)
adding_to None ts n f s = changed (Err NoTable) ts
adding_to (Some t) ts n f s =
    cond (nat_le t.limit (length t.rows)) (changed (Err TableFull) ts)
    (cond (nat_le key_limit t.given) (changed (Err KeysSpent) ts)
    (changed (Ok (t.given + 1)) (slice_set ts n (grown t f s))))

-- Adding a row to the table of a number, or the first refusal that applies, which changes nothing.
abbrev pub adding : List Table → ℕ → ℤ → ℤ → Changed (Result ℕ AddRefusal)
adding ts n f s = adding_to (slice_get ts n) ts n f s

-- A table with other rows.
abbrev pub with_rows : Table → List Row → Table
with_rows t rs = record { limit = t.limit; given = t.given; rows = rs }

abbrev pub put_rows : Option Table → List Table → ℕ → List Row → List Table
put_rows None ts n rs = ts
put_rows (Some t) ts n rs = slice_set ts n (with_rows t rs)

-- Other rows in one table, which keeps its limit and the keys given; nothing changes where there is no such table.
abbrev pub rows_put : List Table → ℕ → List Row → List Table
rows_put ts n rs = put_rows (slice_get ts n) ts n rs

abbrev pub replacing_row : Option Row → List Table → ℕ → ℕ → ℤ → ℤ → Changed Bool
replacing_row None ts n place f s = changed false ts
replacing_row (Some r) ts n place f s = changed true (rows_put ts n (slice_set (rows_in ts n) place (row r.key f s)))

-- Replacing the values of the row at a place, which keeps its key; answers whether there is one.
abbrev pub replacing : List Table → ℕ → ℕ → ℤ → ℤ → Changed Bool
replacing ts n place f s = replacing_row (row_at ts n place) ts n place f s

-- All rows but the one at a place, in their order.
abbrev pub without : List Row → ℕ → List Row
without rs place = take place rs ++ drop (suc place) rs

abbrev pub removing_row : Option Row → List Table → ℕ → ℕ → Changed Bool
removing_row None ts n place = changed false ts
removing_row (Some r) ts n place = changed true (rows_put ts n (without (rows_in ts n) place))

-- Removing the row at a place; answers whether there is one.
abbrev pub removing : List Table → ℕ → ℕ → Changed Bool
removing ts n place = removing_row (row_at ts n place) ts n place

-- What becomes of a row, before the rows after it.
abbrev pub left_by : Fate → Row → List Row → List Row
left_by Keep r rs = r ∷ rs
left_by (Rewrite f s) r rs = row r.key f s ∷ rs
left_by Remove r rs = rs

-- The rows after a pass that decides on each.
abbrev pub edited : (Row → Fate) → List Row → List Row
edited fate [] = []
edited fate (r ∷ rs) = left_by (fate r) r (edited fate rs)

-- A row that is rewritten or removed counts.
abbrev pub counts : Fate → ℕ
counts Keep = 0
counts (Rewrite f s) = 1
counts Remove = 1

-- How many rows a pass rewrites or removes.
abbrev pub touched : (Row → Fate) → List Row → ℕ
touched fate [] = 0
touched fate (r ∷ rs) = counts (fate r) + touched fate rs

-- A pass over a table's rows; answers how many rows it rewrote or removed.
abbrev pub sweeping : (Row → Fate) → List Table → ℕ → Changed ℕ
sweeping fate ts n = changed (touched fate (rows_in ts n)) (rows_put ts n (edited fate (rows_in ts n)))
