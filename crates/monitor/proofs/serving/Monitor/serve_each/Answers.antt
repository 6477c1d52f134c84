use Rattle.std.proofs.Common.{◌≡◌, ◌+◌, ◌≤◌, length, arith, rules}
use Rattle.monitor.specs.Monitors.{state_of, SameLoans}
use Rattle.monitor.specs.Lists.{room}
use Rattle.monitor.proofs.Listings.{left_first, left_last, left_room, left_later}
use Rattle.monitor.proofs.serving.Monitor.serve_each.Given as given
use Rattle.monitor.proofs.serving.Monitor.serve_each.Goals as goal
use Rattle.monitor.proofs.serving.Monitor.serve_each.Goals.{After-room}

pub loop-i-init : goal.loop-i-init
loop-i-init g c = (
  omega arith,
  left_first g.L.Label.kind c.args.self.now.records.now (state_of g.S.Store.tables c.args.self.now) c.args.requests.now c.args.events.now c.args.places.now c.requires.places,
  search rules,
)

-- the stretch of the request at hand ends within the places
fits : (g : given.Over) (c : After-room g) → c.loop-i.start + room c.index-requests-i.result.ask ≤ length c.loop-i.places
fits g c = left_room g.L.Label.kind c.args.self.now.records.now c.loop-i.i c.loop-i.start (state_of g.S.Store.tables c.loop-i.self) c.args.requests.now c.loop-i.events c.loop-i.places _ c.loop-i.invariant.1 c.index-requests-i.result c.index-requests-i.is c.loop-i-test.true c.loop-i.invariant.0

pub overflow_add-end : goal.overflow_add-end
overflow_add-end g c = let h : c.loop-i.start + c.room.result ≤ length c.loop-i.places = omega (arith, fits g c, c.room.ensures) in search rules

pub serve_from-answer-requires : goal.serve_from-answer-requires
serve_from-answer-requires g c = fits g (goal.at.serve_from-answer-requires g c).After-room

pub loop-i-preserved : goal.loop-i-preserved
loop-i-preserved g c =
    let h = fits g (goal.at.loop-i-preserved g c).After-room in
    let long : length c.serve_from-answer.new.places ≡ length c.loop-i.places = c.serve_from-answer.auto.places in
    let served = rw c.loop-i.invariant.2.2 at c.serve_from-answer.ensures.served in (
      omega (arith, h, c.room.ensures, long),
      rw c.room.ensures (left_later g.L.Label.kind c.args.self.now.records.now c.loop-i.i c.loop-i.start (state_of g.S.Store.tables c.loop-i.self) c.args.requests.now c.loop-i.events c.loop-i.places _ c.loop-i.invariant.1 c.index-requests-i.result c.index-requests-i.is c.loop-i-test.true c.loop-i.invariant.0
          c.serve_from-answer.result (state_of g.S.Store.tables c.serve_from-answer.new.self) c.put.new.items c.serve_from-answer.new.places served (rw (← c.standing-before.ensures, ← c.standing-after.ensures) c.put.ensures) (omega (arith, c.loop-i.auto.events, c.requires.events)) long),
      search rules,
    )

pub returns-clause-served : goal.returns-clause-served
returns-clause-served g c = left_last g.L.Label.kind c.args.self.now.records.now c.loop-i.i c.loop-i.start (state_of g.S.Store.tables c.loop-i.self) c.args.requests.now c.loop-i.events c.loop-i.places _ c.loop-i.invariant.1 c.loop-i-test.false
