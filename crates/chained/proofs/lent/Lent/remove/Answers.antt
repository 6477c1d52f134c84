use Rattle.chained.proofs.Spots.{inside}
use Rattle.chained.proofs.Tables.{none_removed, removed}
use Rattle.chained.proofs.lent.Lent.remove.Goals as goal

pub find-requires : goal.find-requires
find-requires c = inside c.requires

pub returns-in_default : goal.returns-in_default
returns-in_default c = none_removed c.requires c.args.place c.in_default.ensures

pub returns : goal.returns
returns c = removed c.requires c.args.place c.in-Some.ensures.0 c.in-Some.ensures.1 c.unlink.ensures
