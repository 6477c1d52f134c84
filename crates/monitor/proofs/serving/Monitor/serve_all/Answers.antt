use Rattle.std.proofs.Common.{length, le-leb}
use borrow.Author.Tests.{lt-leb}
use Rattle.monitor.proofs.serving.Monitor.serve_all.Goals as goal

pub returns-then-requests-events-clause-served : goal.returns-then-requests-events-clause-served
returns-then-requests-events-clause-served g c = rw (lt-leb (length c.args.requests.now) (length c.args.events.now) c.if-requests-events.true)

pub returns-in-Some-clause-served : goal.returns-in-Some-clause-served
returns-in-Some-clause-served g c = rw (le-leb (length c.args.requests.now) (length c.args.events.now) c.if-requests-events.false, ← c.in-Some.ensures)

pub returns-clause-served : goal.returns-clause-served
returns-clause-served g c = rw (le-leb (length c.args.requests.now) (length c.args.events.now) c.if-requests-events.false, ← c.in_default.ensures) c.serve_each.ensures.served
