use Rattle.std.proofs.Common.{to_z-of_z}
use Rattle.chained.proofs.Places.{found_there}
use Rattle.chained.proofs.Tables.{none_replaced, replaced}
use Rattle.chained.proofs.lent.Lent.replace.Goals as goal

pub returns-in_default : goal.returns-in_default
returns-in_default c free ok = none_replaced ok c.args.place c.args.first c.args.second c.in_default.ensures

pub rewrite-requires : goal.rewrite-requires
rewrite-requires c = found_there c.args.self.now.cells.now c.args.chain.head c.args.chain.count c.in-Some.ensures.0 c.in-Some.ensures.1 c.requires

pub returns : goal.returns
returns c free ok =
    replaced ok c.args.place c.in-Some.ensures.0 c.in-Some.ensures.1 c.args.first c.args.second
    (simp (to_z-of_z c.ranges.first, to_z-of_z c.ranges.second) at c.rewrite.ensures)
