use Rattle.chained.proofs.Meaning.{chain_read, count_there}
use Rattle.chained.proofs.chained.ChainedStore.row_count.Goals as goal

pub returns : goal.returns
returns c =
    let p = c.args.self.now in
    let read = c.in_ok-chain.ensures.lookup in
    count_there p c.args.table (chain_read p c.args.table c.deref.ensures.0 read.0 read.1)
