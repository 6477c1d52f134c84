use Rattle.std.proofs.Common.{suc, ◌-◌, arith}
use Rattle.chained.proofs.lent.Lent.walk.Goals as goal

pub offset_bounds-self-here : goal.offset_bounds-self-here
offset_bounds-self-here g c = let h = (c.loop-place.invariant (suc (c.args.chain.count - c.loop-place._place - 1)) (omega arith)).0.0 in omega arith

pub bounds-self-here : goal.bounds-self-here
bounds-self-here g c = (c.loop-place.invariant (suc (c.args.chain.count - c.loop-place._place - 1)) (omega arith)).0.0

pub loop-place-preserved : goal.loop-place-preserved
loop-place-preserved g c n e = let h = c.loop-place.invariant (suc n) (omega arith) in (h.0.1, rw c.visit.ensures h.1)

pub returns : goal.returns
returns g c = (c.loop-place.invariant 0 (omega arith)).1
