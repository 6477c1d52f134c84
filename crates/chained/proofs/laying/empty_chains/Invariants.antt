use Rattle.std.proofs.Common.{◌≡◌, map, take}
use Rattle.chained.specs.Steps.{empty_chain}
use Rattle.chained.proofs.laying.empty_chains.Given as goal

abbrev pub invariant-loop-limit : goal.invariant-loop-limit
invariant-loop-limit g l = l.chains.items ≡ map empty_chain (take l.limit-index l.limit-items)
