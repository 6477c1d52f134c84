use Rattle.std.proofs.Common.{◌≡◌, ◌≤◌, take, sum}
use Rattle.stores.proofs.layout.sum_of.Given as goal

abbrev pub invariant-loop-limit : goal.invariant-loop-limit
invariant-loop-limit l = (l.sum ≡ sum (take l.limit-index l.limits)) × (l.sum ≤ 2048)
