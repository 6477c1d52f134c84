use Rattle.std.proofs.Common.{arith}
use Rattle.packed.proofs.Fills.{none_removed, removed}
use Rattle.packed.proofs.fill.Fill.remove.Goals as goal

pub returns-then-place-self : goal.returns-then-place-self
returns-then-place-self c = record { change = none_removed c.args.rows.now c.args.self.now c.requires c.args.place c.if-place-self.true; within = c.requires }

pub returns : goal.returns
returns c = record { change = removed c.args.rows.now c.args.self.now c.requires c.args.place c.if-place-self.false _ c.copy_within.ensures.after c.copy_within.ensures.len; within = omega (arith, c.copy_within.ensures.len) }
