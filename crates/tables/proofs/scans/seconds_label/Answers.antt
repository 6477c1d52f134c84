use Rattle.std.proofs.Common.{rules}
use Rattle.tables.proofs.Rows.{labels_joined}
use Rattle.tables.proofs.scans.seconds_label.Goals as goal

pub returns : goal.returns
returns g c = search (rules, labels_joined)
