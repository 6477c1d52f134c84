use Rattle.std.proofs.Common.{ap, ◌∙◌, zero-add, arith}
use Rattle.stores.specs.Tables.{rows_in}
use Rattle.stores.proofs.Few.{few_rows}
use Rattle.tables.specs.declared.scans.Count.{Count}
use Rattle.tables.proofs.Rows.{rows_counted}
use Rattle.tables.proofs.scans.count_matching.Goals as goal

pub returns : goal.returns
returns g c =
    let ts = g.S.Store.tables c.args.store.now in
    let few = few_rows ts c.args.table (g.met.S.Store.sound c.args.store.now) in
    let all = rows_counted (rows_in ts c.args.table) (record { predicate = c.args.predicate; count = 0 }) (omega (arith, few)) in
    ap (λ (v : Count). v.count) c.walk.ensures ∙ all ∙ zero-add _
