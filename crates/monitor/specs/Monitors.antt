-- A monitor as the code has it. Assumes nothing.
use Rattle.std.specs.Prelude.{◌≡◌, List}
use Rattle.stores.specs.Tables.{Table}
use Rattle.monitor.specs.declared.serving.Monitor.{Monitor}
use Rattle.monitor.specs.Steps.{State, state}

-- The sessions and the tables of a monitor, where its store means tables by `meaning`.
abbrev pub state_of : {L S : Type 0} → (S → List Table) → Monitor L S → State L
state_of meaning m = state m.sessions.now (meaning m.store.now)

-- A monitor holds the very parts that were lent to it, and the same table records.
abbrev pub SameLoans : {L S : Type 0} → Monitor L S → Monitor L S → Type 0
SameLoans before after =
    (after.sessions.ghost_name ≡ before.sessions.ghost_name) × (after.store.ghost_name ≡ before.store.ghost_name) × (after.records ≡ before.records)
