use Rattle.std.proofs.Common.{refl, rules}
use Rattle.stores.specs.declared.rows.Fate.TheVariants.{Rewrite}
use Rattle.tables.proofs.Rows.{rows_rewritten, rows_touched}
use Rattle.tables.proofs.scans.rewrite_matching.Goals as goal

pub returns : goal.returns
returns g c = search (rules, rows_rewritten, rows_touched c.args.predicate (Rewrite c.args.first c.args.second) refl)
