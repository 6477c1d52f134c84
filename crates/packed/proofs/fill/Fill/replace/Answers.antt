use Rattle.std.proofs.Common.{to_z-of_z}
use Rattle.packed.proofs.Fills.{none_replaced, replaced}
use Rattle.packed.proofs.fill.Fill.replace.Goals as goal

pub returns-then-place-self : goal.returns-then-place-self
returns-then-place-self c = none_replaced c.args.rows.now c.args.self.now c.requires c.args.place c.args.first c.args.second c.if-place-self.true

pub returns : goal.returns
returns c = simp (to_z-of_z c.ranges.first, to_z-of_z c.ranges.second) (replaced c.args.rows.now c.args.self.now c.requires c.args.place c.if-place-self.false c.args.first c.args.second)
