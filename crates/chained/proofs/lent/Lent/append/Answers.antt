use Rattle.std.proofs.Common.{arith}
use Rattle.chained.proofs.Writes.{led_long}
use Rattle.chained.proofs.Appends.{new_there, last_there, appended}
use Rattle.chained.proofs.lent.Lent.append.Goals as goal

pub offset_bounds-self-cell : goal.offset_bounds-self-cell
offset_bounds-self-cell c = let h = new_there c.requires.linked c.requires.room in omega arith

pub bounds-self-cell : goal.bounds-self-cell
bounds-self-cell c = new_there c.requires.linked c.requires.room

pub lead_on-chain-requires : goal.lead_on-chain-requires
lead_on-chain-requires c = last_there c.requires.linked c.requires.room

pub offset_bounds-self-cell-2 : goal.offset_bounds-self-cell-2
offset_bounds-self-cell-2 c = let h = new_there c.requires.linked c.requires.room in omega arith

pub bounds-self-cell-2 : goal.bounds-self-cell-2
bounds-self-cell-2 c = let h = new_there c.requires.linked c.requires.room in omega (arith, led_long c.lead_on-chain.ensures)

pub returns : goal.returns
returns c = appended c.requires.linked c.requires.room c.lead_on-chain.ensures c.args.row
