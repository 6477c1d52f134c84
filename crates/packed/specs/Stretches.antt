-- How tables lie in the rows lent. Assumes nothing.
use Rattle.std.specs.Prelude.{◌≡◌, ℕ, ◌+◌, ◌≤◌, List, [], ◌∷◌, ◌++◌, map, length, take, drop}
use Rattle.stores.specs.declared.rows.Row.{Row}
use Rattle.stores.specs.Tables.{Table, SoundTable}
use Rattle.stores.specs.Changes.{Changed, changed}
use Rattle.packed.specs.declared.fill.Fill.{Fill}
use Rattle.packed.specs.declared.stretch.Stretch.{Stretch}

-- The table in the rows of one stretch, as far as they are filled.
abbrev pub held : List Row → Fill → Table
held rs f = record { limit = length rs; given = f.given; rows = take f.used rs }

-- The rows of a stretch.
abbrev pub part : List Row → Stretch → List Row
part rows s = take s.limit (drop s.from rows)

-- The table that a stretch holds.
abbrev pub table_in : List Row → Stretch → Table
table_in rows s = held (part rows s) s.fill

-- The tables of all stretches: what a packed store means.
abbrev pub tables_of : List Row → List Stretch → List Table
tables_of rows stretches = map (table_in rows) stretches

-- A stretch lies within the rows lent, is filled within its limit, and its table is sound.
pub record Lies (rows : List Row) (s : Stretch) : Type 0 where
  pub fits : s.from + s.limit ≤ length rows
  pub within : s.fill.used ≤ s.limit
  pub sound : SoundTable (table_in rows s)

-- Stretches lie one behind the other, from a place on.
abbrev pub InOrder : ℕ → List Row → List Stretch → Type 0
InOrder start rows [] = Unit {0}
InOrder start rows (s ∷ ss) = (start ≤ s.from) × Lies rows s × InOrder (s.from + s.limit) rows ss

-- The rows lent, with others in the place of a stretch.
abbrev pub spliced : List Row → Stretch → List Row → List Row
spliced rows s new = take s.from rows ++ (new ++ drop s.limit (drop s.from rows))

-- A change of a store took one table, had it stood alone, to another.
abbrev pub Alone : {A : Type 0} → (List Table → ℕ → Changed A) → A → Table → Table → Type 0
Alone change answer t u = changed answer (u ∷ []) ≡ change (t ∷ []) 0

-- No row outside of a stretch was written, and its table was taken to that of a stretch at the same place.
pub record Rewritten (Takes : Table → Table → Type 0) (s t : Stretch) (before after : List Row) : Type 0 where
  pub new : List Row
  pub long : length new ≡ s.limit
  pub place : t ≡ record s { fill = t.fill }
  pub within : t.fill.used ≤ s.limit
  pub takes : Takes (table_in before s) (held new t.fill)
  pub rest : after ≡ spliced before s new

-- Stretches for limits, one behind the other from a place on, with no row and no key given.
abbrev pub empty_stretches : ℕ → List ℕ → List Stretch
empty_stretches start [] = []
empty_stretches start (l ∷ ls) = record { from = start; limit = l; fill = record { used = 0; given = 0 } } ∷ empty_stretches (start + l) ls
