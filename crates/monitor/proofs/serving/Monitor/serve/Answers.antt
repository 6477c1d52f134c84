use Rattle.std.proofs.Common.{length, arith, le-leb}
use borrow.Author.Tests.{lt-leb}
use Rattle.monitor.specs.Lists.{room}
use Rattle.monitor.proofs.serving.Monitor.serve.Goals as goal

pub returns-then-room-places-clause-served : goal.returns-then-room-places-clause-served
returns-then-room-places-clause-served g c = rw (lt-leb (room c.args.request.ask) (length c.args.places.now) (omega (arith, c.room.ensures)))

pub returns-clause-served : goal.returns-clause-served
returns-clause-served g c = rw (le-leb (room c.args.request.ask) (length c.args.places.now) (omega (arith, c.room.ensures))) c.serve_from.ensures.served
