-- A walk, row by row. Assumes nothing.
use Rattle.std.specs.Prelude.{Some, None, Option}

-- One more step of a walk, if there is a row.
abbrev pub perhaps : {A B : Type 0} → (B → A → B) → B → Option A → B
perhaps step a None = a
perhaps step a (Some x) = step a x
