use Rattle.std.proofs.Common.{rules}
use Rattle.stores.proofs.Walks.{counted, folded_nth, folded_end}
use Rattle.stores.proofs.store.Store.walk.Goals as goal

pub loop-place-preserved : goal.loop-place-preserved
loop-place-preserved g c = search (rules, folded_nth)

pub returns : goal.returns
returns g c = search (rules, counted, folded_end)
