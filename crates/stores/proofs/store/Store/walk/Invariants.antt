use Rattle.std.proofs.Common.{◌≡◌, drop, fold}
use Rattle.stores.specs.Tables.{rows_in}
use Rattle.stores.proofs.store.Store.walk.Given as goal

abbrev pub invariant-loop-place : goal.invariant-loop-place
invariant-loop-place g l =
    let rows = rows_in (g.Self.Store.tables l.self) l.table in
    fold g.V.Visit.step l.visitor (drop l.place rows) ≡ fold g.V.Visit.step l.initial.visitor rows
