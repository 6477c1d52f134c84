use Rattle.std.proofs.Common.{Some, ap, ◌∙◌}
use Rattle.stores.specs.declared.rows.Row.{Row}
use Rattle.guarantees.proofs.Sights.{nth_view, no_row, seen_row}
use Rattle.guarantees.proofs.views.view_row.Goals as goal

pub returns-in_err-record : goal.returns-in_err-record
returns-in_err-record g c = rw (nth_view g.L.Label.kind c.args.observer c.args.records.now (g.S.Store.tables c.args.store.now) c.args.table) (c.from_residual.ensures ∙ no_row g.L.Label.kind c.args.observer c.args.place _ _ c.in_err-record.ensures)

pub returns-in_err-row : goal.returns-in_err-row
returns-in_err-row g c = rw (nth_view g.L.Label.kind c.args.observer c.args.records.now (g.S.Store.tables c.args.store.now) c.args.table) (c.from_residual-in_err-row.ensures ∙ seen_row g.L.Label.kind c.args.observer c.args.place _ _ _ _ c.in_ok-record.ensures c.in_err-row.ensures)

pub returns : goal.returns
returns g c = rw (nth_view g.L.Label.kind c.args.observer c.args.records.now (g.S.Store.tables c.args.store.now) c.args.table) (ap (λ (v : Row). Some v) c.view_fields.ensures ∙ seen_row g.L.Label.kind c.args.observer c.args.place _ _ _ _ c.in_ok-record.ensures c.in_ok-row.ensures)
