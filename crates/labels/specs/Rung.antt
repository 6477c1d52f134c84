-- Rung labels, the numbers 0 to 7. Assumes nothing.
use Rattle.std.specs.Prelude.{ℕ, ◌≤◌, min, max, cond, ℤ, pos, negsuc, Ok, Err, Result, nat_le}
use Rattle.labels.specs.Kind.{Kind}
use Rattle.labels.specs.declared.Rung.{Rung}
use Rattle.labels.specs.declared.UnlawfulLabel.{UnlawfulLabel}

-- The rung of a number.
abbrev pub rung : ℕ → Rung
rung n = record { number = n }

-- A lawful rung is at most 7.
abbrev pub Lawful : Rung → Type 0
Lawful a = a.number ≤ 7

-- The own label of a value is the rung of that number for 0 to 7, and 7 for every other value.
abbrev pub own : ℤ → Rung
own (pos n) = rung (cond (nat_le n 7) n 7)
own (negsuc n) = rung 7

-- Rungs flow by order; the join is the larger, the meet the smaller, the lowest is 0.
abbrev pub rungs : Kind Rung
rungs = record {
  lowest = rung 0;
  flows = λ a b. nat_le a.number b.number;
  join = λ a b. rung (max a.number b.number);
  meet = λ a b. rung (min a.number b.number);
  own = own;
}

-- Making a rung from a number refuses every number above 7.
abbrev pub made : ℕ → Result Rung UnlawfulLabel
made n = cond (nat_le n 7) (Ok (rung n)) (Err (record {}))
