use Rattle.chained.proofs.Meaning.{chain_read, inside_there}
use Rattle.chained.proofs.chained.ChainedStore.walk.Goals as goal

pub walk-requires : goal.walk-requires
walk-requires g c = inside_there c.args.self.now c.args.table (chain_read c.args.self.now c.args.table c.deref.ensures.0 c.in-Some.ensures.lookup.0 c.in-Some.ensures.lookup.1)
