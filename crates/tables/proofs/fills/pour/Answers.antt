use Rattle.std.proofs.Common.{ap, ◌∙◌}
use Rattle.stores.specs.Tables.{rows_in}
use Rattle.tables.specs.declared.places.Filling.{Filling}
use Rattle.tables.proofs.Fillings.{same_name}
use Rattle.tables.proofs.fills.pour.Goals as goal

pub returns : goal.returns
returns g c = record {
  after = c.walk.ensures;
  same = ap (λ (v : Filling g.row.L.Denot). v.places.ghost_name) c.walk.ensures ∙ same_name g.L.Label.kind (rows_in (g.S.Store.tables c.args.store.now) c.args.table) c.args.filling.now;
}
