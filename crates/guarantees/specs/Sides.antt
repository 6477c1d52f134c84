-- One of two monitors that are compared, with what is lent for its list of requests. Assumes nothing.
use Rattle.std.specs.Prelude.{◌≡◌, List}
use Rattle.stores.specs.Tables.{Table}
use Rattle.monitor.specs.Steps.{State, state}
use Rattle.guarantees.specs.declared.comparison.Side.{Side}

-- The monitor of a side, where the store means tables by `meaning`.
abbrev pub monitor_of : {L S : Type 0} → (S → List Table) → Side L S → State L
monitor_of meaning s = state s.sessions.now (meaning s.store.now)

-- A side holds the very parts that were lent to it.
abbrev pub SameLoans : {L S : Type 0} → Side L S → Side L S → Type 0
SameLoans before after =
    (after.sessions.ghost_name ≡ before.sessions.ghost_name) × (after.store.ghost_name ≡ before.store.ghost_name)
    × (after.events.ghost_name ≡ before.events.ghost_name) × (after.places.ghost_name ≡ before.places.ghost_name) × (after.requests ≡ before.requests)
