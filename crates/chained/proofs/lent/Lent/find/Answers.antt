use Rattle.std.proofs.Common.{arith}
use Rattle.chained.proofs.Places.{found_there, found_next}
use Rattle.chained.proofs.lent.Lent.find.Goals as goal

pub bounds-self-spot : goal.bounds-self-spot
bounds-self-spot c =
    found_there c.args.self.now.cells.now c.args.chain.head c.args.chain.count (omega arith) (c.loop-step.invariant c.args.chain.count c.if-place-chain.false) c.requires

pub loop-step-preserved : goal.loop-step-preserved
loop-step-preserved c n h = found_next c.args.self.now.cells.now c.args.chain.head n (omega arith) (c.loop-step.invariant n h) (omega arith)
