use Rattle.std.proofs.Common.{refl, rules}
use Rattle.stores.specs.declared.rows.Fate.TheVariants.{Remove}
use Rattle.tables.proofs.Rows.{rows_removed, rows_touched}
use Rattle.tables.proofs.scans.remove_matching.Goals as goal

pub returns : goal.returns
returns g c = search (rules, rows_removed, rows_touched c.args.predicate Remove refl)
