use Rattle.std.proofs.Common.{rules}
use Rattle.labels.specs.Lattices.{lowest_flows}
use Rattle.labels.proofs.consent.ConsentLabel.above_lowest.Goals as goal

pub returns : goal.returns
returns c = lowest_flows c.args.self (search rules)
