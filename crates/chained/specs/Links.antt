-- How tables lie in the cells lent: each is a chain of cells, and the free cells are one more. Assumes nothing.
use Rattle.std.specs.Prelude.{◌≡◌, ℕ, zero, suc, ◌+◌, ◌≤◌, cond, List, [], ◌∷◌, map, length, pos, ◌==◌, nat_lt, slice_index, slice_index_or}
use Rattle.std.specs.List.{AllByRecursion}
use Rattle.stores.specs.declared.rows.Row.{Row}
use Rattle.stores.specs.Tables.{Table, SoundTable}
use Rattle.chained.specs.declared.links.Cell.{Cell}
use Rattle.chained.specs.declared.links.Chain.{Chain}
use Rattle.chained.specs.declared.links.Free.{Free}

-- All that a change of one table may change beside the cells: its chain, and the chain of the free cells.
pub record Links : Type 0 where
  pub chain : Chain
  pub free : Free

abbrev pub links : Chain → Free → Links
links c f = record { chain = c; free = f }

-- What stands for a cell beyond the last.
abbrev pub no_cell : Cell
no_cell = record { row = record { key = 0; first = pos 0; second = pos 0 }; next = 0 }

-- The cell of a number.
abbrev pub cell_at : List Cell → ℕ → Cell
cell_at cells p = slice_index_or cells p no_cell

-- So many cells, by their numbers, along the links from one on.
abbrev pub places : List Cell → ℕ → ℕ → List ℕ
places cells p zero = []
places cells p (suc n) = p ∷ places cells (cell_at cells p).next n

-- The cells of a table.
abbrev pub used : List Cell → Chain → List ℕ
used cells c = places cells c.head c.count

-- The free cells.
abbrev pub unused : List Cell → Free → List ℕ
unused cells f = places cells f.head f.count

-- The rows in cells.
abbrev pub rows_at : List Cell → List ℕ → List Row
rows_at cells ps = map (λ p. (cell_at cells p).row) ps

-- The rows of a table.
abbrev pub rows_of_chain : List Cell → Chain → List Row
rows_of_chain cells c = rows_at cells (used cells c)

-- The table that a chain holds.
abbrev pub table_in : List Cell → Chain → Table
table_in cells c = record { limit = c.limit; given = c.given; rows = rows_of_chain cells c }

-- The tables of chains: what a chained store means.
abbrev pub tables_of : List Cell → List Chain → List Table
tables_of cells chains = map (table_in cells) chains

-- How often a number stands in a list.
abbrev pub times : ℕ → List ℕ → ℕ
times q [] = 0
times q (p ∷ ps) = cond (q == p) 1 0 + times q ps

-- A number over all chains.
abbrev pub total : (Chain → ℕ) → List Chain → ℕ
total f [] = 0
total f (c ∷ cs) = f c + total f cs

-- How often a number may stand in all chains together: once if there is such a cell.
abbrev pub room : List Cell → ℕ → ℕ
room cells q = cond (nat_lt q (length cells)) 1 0

-- The last cell of a table, if it has any, is the one that was noted.
abbrev pub Ends : List Cell → Chain → Type 0
Ends cells c = (k : ℕ) → c.count ≡ suc k → slice_index (used cells c) k ≡ c.last

-- A chain ends where it was noted, has no more rows than its limit, and its table is sound.
pub record Lies (cells : List Cell) (c : Chain) : Type 0 where
  pub ends : Ends cells c
  pub within : c.count ≤ c.limit
  pub sound : SoundTable (table_in cells c)

-- Each chain lies so. No cell is in two of them, or twice in one; as many are free as the tables may still take; and all limits come to at most 2,048.
pub record Laid (cells : List Cell) (free : Free) (cs : List Chain) : Type 0 where
  pub each : AllByRecursion (Lies cells) cs
  pub once : (q : ℕ) → times q (unused cells free) + total (λ c. times q (used cells c)) cs ≤ room cells q
  pub full : free.count + total (λ c. c.count) cs ≡ total (λ c. c.limit) cs
  pub small : total (λ c. c.limit) cs ≤ 2048
