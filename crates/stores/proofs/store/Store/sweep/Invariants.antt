use Rattle.std.proofs.Common.{◌≡◌, ◌+◌, ◌≤◌}
use Rattle.stores.specs.Changes.{changed}
use Rattle.stores.proofs.Sweeps.{passed}
use Rattle.stores.proofs.store.Store.sweep.Given as goal

abbrev pub invariant-loop-place : goal.invariant-loop-place
invariant-loop-place g l =
    (l.touched + l.place ≤ l.count) ×
    (changed l.touched (g.Self.Store.tables l.self) ≡ passed (g.E.Edit.decides l.editor) (g.Self.Store.tables l.initial.self) l.table l.place)
