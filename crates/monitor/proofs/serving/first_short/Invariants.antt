use Rattle.std.proofs.Common.{◌≡◌, drop}
use Rattle.monitor.specs.Lists.{short_of}
use Rattle.monitor.proofs.serving.first_short.Given as goal

abbrev pub invariant-loop-i : goal.invariant-loop-i
invariant-loop-i g l = short_of l.i l.left (drop l.i l.requests) ≡ short_of 0 l.places l.requests
