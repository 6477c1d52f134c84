use Rattle.guarantees.proofs.Sights.{nth_view, no_table, hidden_table, seen_table}
use Rattle.guarantees.proofs.views.view_table.Goals as goal

pub returns-in_default : goal.returns-in_default
returns-in_default g c = rw (nth_view g.L.Label.kind c.args.observer c.args.records.now (g.S.Store.tables c.args.store.now) c.args.table) (no_table g.L.Label.kind c.args.observer _ _ c.in_default.ensures)

pub returns-in-None : goal.returns-in-None
returns-in-None g c = rw (nth_view g.L.Label.kind c.args.observer c.args.records.now (g.S.Store.tables c.args.store.now) c.args.table) (hidden_table g.L.Label.kind c.args.observer _ _ _ c.in-None.ensures c.in-Some.ensures)

pub returns-in-Some-seen_record : goal.returns-in-Some-seen_record
returns-in-Some-seen_record g c = rw (nth_view g.L.Label.kind c.args.observer c.args.records.now (g.S.Store.tables c.args.store.now) c.args.table) (seen_table g.L.Label.kind c.args.observer _ _ _ _ c.in-Some-seen_record.ensures c.in-Some.ensures)
