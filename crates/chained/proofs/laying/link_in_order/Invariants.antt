use Rattle.chained.specs.Steps.{InOrder}
use Rattle.chained.proofs.laying.link_in_order.Given as goal

abbrev pub invariant-loop-here : goal.invariant-loop-here
invariant-loop-here l = InOrder l.cells l.here
