use Rattle.std.proofs.Common.{sym}
use Rattle.chained.proofs.Places.{found_there}
use Rattle.chained.proofs.Tables.{no_row, row_there}
use Rattle.chained.proofs.lent.Lent.row.Goals as goal

pub returns-in_err-spot : goal.returns-in_err-spot
returns-in_err-spot c = let none = no_row c.args.self.now.cells.now c.args.chain c.args.place c.in_err-spot.ensures in cc

pub bounds-self-spot : goal.bounds-self-spot
bounds-self-spot c = found_there c.args.self.now.cells.now c.args.chain.head c.args.chain.count c.in_ok-spot.ensures.0 c.in_ok-spot.ensures.1 c.requires

pub returns : goal.returns
returns c = sym (row_there c.args.self.now.cells.now c.args.chain c.in_ok-spot.ensures.0 c.in_ok-spot.ensures.1)
