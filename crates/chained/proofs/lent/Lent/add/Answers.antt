use Rattle.std.proofs.Common.{to_z-of_z}
use Rattle.chained.proofs.Tables.{full, spent, added}
use Rattle.chained.proofs.lent.Lent.add.Goals as goal

pub returns-then-chain : goal.returns-then-chain
returns-then-chain c = full c.requires c.args.first c.args.second c.if-chain.true

pub returns-then-chain-ge1000000 : goal.returns-then-chain-ge1000000
returns-then-chain-ge1000000 c = spent c.requires c.args.first c.args.second c.if-chain.false c.if-chain-ge1000000.true

pub returns : goal.returns
returns c =
    added c.requires c.args.first c.args.second c.if-chain.false c.if-chain-ge1000000.false
    (simp (to_z-of_z c.ranges.first, to_z-of_z c.ranges.second) at c.append.ensures)
