use Rattle.std.proofs.Common.{rules}
use Rattle.tables.proofs.Fillings.{fills_first}
use Rattle.tables.proofs.fills.fill.Goals as goal

pub returns : goal.returns
returns g c = search (rules, fills_first)
