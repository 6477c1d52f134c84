-- What the functions on lent cells do. Assumes nothing.
use Rattle.std.specs.Prelude.{◌≡◌, ℕ, suc, ◌+◌, ◌<◌, ◌≤◌, List, [], ◌∷◌, ◌++◌, length, take, drop, ℤ, ◌≢◌, slice_index, slice_set}
use Rattle.std.specs.List.{AllByRecursion}
use Rattle.stores.specs.declared.rows.Row.{Row}
use Rattle.stores.specs.Tables.{Table}
use Rattle.stores.specs.Changes.{Changed, changed, row, without}
use Rattle.chained.specs.declared.links.Cell.{Cell}
use Rattle.chained.specs.declared.links.Chain.{Chain}
use Rattle.chained.specs.declared.links.Spot.{Spot}
use Rattle.chained.specs.Links.{Links, cell_at, used, unused, rows_of_chain, table_in, times, room, Ends}

-- The chain of a table with no row and no key given.
abbrev pub empty_chain : ℕ → Chain
empty_chain l = record { head = 0; last = 0; count = 0; limit = l; given = 0 }

-- The first cells, so many, are linked in their order.
abbrev pub InOrder : List Cell → ℕ → Type 0
InOrder cells n = (k : ℕ) → k < n → (cell_at cells k).next ≡ k + 1

-- How often a number stands in the chains of one table and of the free cells.
abbrev pub held : List Cell → Links → ℕ → ℕ
held cells l q = times q (used cells l.chain) + times q (unused cells l.free)

-- What holds of one table and the free cells, whichever other tables there are.
pub record Linked (cells : List Cell) (l : Links) : Type 0 where
  pub ends : Ends cells l.chain
  pub within : l.chain.count ≤ l.chain.limit
  pub once : (q : ℕ) → held cells l q ≤ room cells q
  pub spare : l.chain.limit ≤ l.chain.count + l.free.count
  pub small : l.chain.count + l.free.count ≤ 2048

-- Each link of a table leads to a cell.
abbrev pub Inside : List Cell → Chain → Type 0
Inside cells c = AllByRecursion (λ p. p < length cells) (used cells c)

-- Where the row at a place lies, by the cells of its table.
pub record Found (ps : List ℕ) (place : ℕ) (s : Spot) : Type 0 where
  pub here : slice_index ps place ≡ s.here
  pub before : (k : ℕ) → place ≡ suc k → slice_index ps k ≡ s.before

-- The cells with another link in one, which keeps its row.
abbrev pub link_set : List Cell → ℕ → ℕ → List Cell
link_set cells p next = slice_set cells p (record { row = (cell_at cells p).row; next = next })

-- The cells with other values in the row of one, which keeps its key and its link.
abbrev pub values_set : List Cell → ℕ → ℤ → ℤ → List Cell
values_set cells p f s = slice_set cells p (record { row = row (cell_at cells p).row.key f s; next = (cell_at cells p).next })

-- The first cells of a chain, so many that end in one noted, lead on to another: by the head if there are none, else by that one's link.
pub record LedOn (before after : List Cell) (head count last to new : ℕ) : Type 0 where
  pub none : count ≡ 0 → (new ≡ to) × (after ≡ before)
  pub some : (count ≢ 0) → (new ≡ head) × (after ≡ link_set before last to)

-- The cells of one table and the free ones were dealt anew between them, and no other was written.
pub record Relinked (l m : Links) (before after : List Cell) : Type 0 where
  pub long : length after ≡ length before
  pub same : (q : ℕ) → held after m q ≡ held before l q
  pub rest : (q : ℕ) → held before l q ≡ 0 → cell_at after q ≡ cell_at before q
  pub many : m.chain.count + m.free.count ≡ l.chain.count + l.free.count
  pub limit : m.chain.limit ≡ l.chain.limit

-- A table has one row more, at its end, in a cell that was free.
pub record Appended (l m : Links) (r : Row) (before after : List Cell) : Type 0 where
  pub links : Relinked l m before after
  pub ends : Ends after m.chain
  pub more : m.chain.count ≡ suc l.chain.count
  pub rows : rows_of_chain after m.chain ≡ rows_of_chain before l.chain ++ r ∷ []

-- The row at a place left its table, and its cell is free.
pub record Unlinked (l m : Links) (place : ℕ) (before after : List Cell) : Type 0 where
  pub links : Relinked l m before after
  pub ends : Ends after m.chain
  pub less : l.chain.count ≡ suc m.chain.count
  pub given : m.chain.given ≡ l.chain.given
  pub cells : used after m.chain ≡ take place (used before l.chain) ++ drop (suc place) (used before l.chain)
  pub rows : rows_of_chain after m.chain ≡ without (rows_of_chain before l.chain) place

-- A change of a store took one table, had it stood alone, to another.
abbrev pub Alone : {A : Type 0} → (List Table → ℕ → Changed A) → A → Table → Table → Type 0
Alone change answer t u = changed answer (u ∷ []) ≡ change (t ∷ []) 0

-- The table was taken to another, in its own cells and the free ones.
pub record Rewritten (Takes : Table → Table → Type 0) (l m : Links) (before after : List Cell) : Type 0 where
  pub links : Relinked l m before after
  pub ends : Ends after m.chain
  pub within : m.chain.count ≤ m.chain.limit
  pub takes : Takes (table_in before l.chain) (table_in after m.chain)
