use Rattle.std.proofs.Common.{ℕ, ◌<◌}
use Rattle.chained.specs.Links.{places}
use Rattle.chained.specs.Steps.{Found}
use Rattle.chained.proofs.lent.Lent.find.Given as goal

abbrev pub invariant-loop-step : goal.invariant-loop-step
invariant-loop-step l = (n : ℕ) → l.place < n → Found (places l.self.cells.now l.fn.chain.head n) l._step l.spot
