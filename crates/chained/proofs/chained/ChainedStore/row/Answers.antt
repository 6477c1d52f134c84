use Rattle.std.proofs.Common.{◌≡◌, Some, ◌∙◌}
use Rattle.std.specs.List.{slice_get}
use Rattle.chained.proofs.Meaning.{chain_read, inside_there, row_there}
use Rattle.chained.proofs.chained.ChainedStore.row.Goals as goal
use Rattle.chained.proofs.chained.ChainedStore.row.Goals.{In_ok-chain}

there : (c : In_ok-chain) → slice_get c.args.self.now.chains.items c.args.table ≡ Some c.in_ok-chain.chain.now
there c = chain_read c.args.self.now c.args.table c.deref.ensures.0 c.in_ok-chain.ensures.lookup.0 c.in_ok-chain.ensures.lookup.1

pub row-requires : goal.row-requires
row-requires c = inside_there c.args.self.now c.args.table (there (goal.at.row-requires c).In_ok-chain)

pub returns : goal.returns
returns c = c.row.ensures ∙ row_there c.args.self.now c.args.table (there (goal.at.returns c).In_ok-chain) c.args.place
