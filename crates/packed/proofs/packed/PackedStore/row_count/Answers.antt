use Rattle.std.proofs.Common.{sym}
use Rattle.packed.proofs.Meaning.{count_there}
use Rattle.packed.proofs.packed.PackedStore.row_count.Goals as goal

pub returns : goal.returns
returns c = count_there c.args.self.now c.args.table c.in_ok-at.at (sym c.in_ok-at.ensures)
