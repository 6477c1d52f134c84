use Rattle.std.proofs.Common.{◌≡◌, take, fold}
use Rattle.packed.proofs.packed.PackedStore.walk.Given as goal

abbrev pub invariant-loop-row : goal.invariant-loop-row
invariant-loop-row g l = l.visitor ≡ fold g.V.Visit.step l.initial.visitor (take l.row-index l.row-items)
