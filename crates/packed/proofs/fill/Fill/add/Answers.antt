use Rattle.std.proofs.Common.{arith, length-set, to_z-of_z}
use Rattle.packed.proofs.Fills.{added}
use Rattle.packed.proofs.fill.Fill.add.Goals as goal

pub returns : goal.returns
returns c = record {
  change = simp (to_z-of_z c.ranges.first, to_z-of_z c.ranges.second) (added c.args.rows.now c.args.self.now c.requires c.args.first c.args.second (omega arith) (omega arith));
  within = simp length-set (omega arith);
}
