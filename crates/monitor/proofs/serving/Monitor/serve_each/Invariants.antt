use Rattle.std.proofs.Common.{◌≤◌, length}
use Rattle.monitor.specs.Monitors.{state_of, SameLoans}
use Rattle.monitor.specs.Lists.{serving_each}
use Rattle.monitor.proofs.Listings.{Left}
use Rattle.monitor.proofs.serving.Monitor.serve_each.Given as goal

abbrev pub invariant-loop-i : goal.invariant-loop-i
invariant-loop-i g l =
    let k = g.L.Label.kind in
    let rs = l.initial.self.records.now in
    (l.start ≤ length l.places)
    × Left k rs l.i l.start (state_of g.S.Store.tables l.self) l.requests l.events l.places
    (serving_each k rs (state_of g.S.Store.tables l.initial.self) l.requests l.initial.events l.initial.places)
    × SameLoans l.initial.self l.self
