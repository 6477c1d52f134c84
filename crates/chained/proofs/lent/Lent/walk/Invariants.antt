use Rattle.std.proofs.Common.{◌≡◌, ℕ, ◌+◌, ◌<◌, length, fold}
use Rattle.std.specs.List.{AllByRecursion}
use Rattle.chained.specs.Links.{places, rows_at}
use Rattle.chained.proofs.lent.Lent.walk.Given as goal

abbrev pub invariant-loop-place : goal.invariant-loop-place
invariant-loop-place g l =
    (n : ℕ) → n + l._place ≡ l._place-end →
    AllByRecursion (λ p. p < length l.self.cells.now) (places l.self.cells.now l.here n) ×
    (fold g.V.Visit.step l.visitor (rows_at l.self.cells.now (places l.self.cells.now l.here n)) ≡ fold g.V.Visit.step l.initial.visitor (rows_at l.self.cells.now (places l.self.cells.now l.initial.here l._place-end)))
