use Rattle.std.proofs.Common.{◌≡◌, take, sum}
use Rattle.packed.specs.Stretches.{empty_stretches}
use Rattle.packed.proofs.laying.lay_out.Given as goal

abbrev pub invariant-loop-limit : goal.invariant-loop-limit
invariant-loop-limit g l =
    let before = take l.limit-index l.limit-items in
    (l.stretches.items ≡ empty_stretches 0 before) × (l.from ≡ sum before)
