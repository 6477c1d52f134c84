use Rattle.std.proofs.Common.{inl, inr, refl, arith}
use Rattle.chained.proofs.Spots.{here_there, before_there}
use Rattle.chained.proofs.Writes.{led_long}
use Rattle.chained.proofs.Unlinks.{unlinked_by}
use Rattle.chained.proofs.lent.Lent.unlink.Goals as goal
use Rattle.chained.proofs.lent.Lent.unlink.Goals.{then-place-chain, else-place-chain}

pub offset_bounds-self-spot : goal.offset_bounds-self-spot
offset_bounds-self-spot c = let h = here_there c.requires.linked c.requires.there c.requires.found in omega arith

pub bounds-self-spot : goal.bounds-self-spot
bounds-self-spot c = here_there c.requires.linked c.requires.there c.requires.found

pub lead_on-chain-requires : goal.lead_on-chain-requires
lead_on-chain-requires c = before_there c.requires.linked c.requires.there c.requires.found

pub link-requires : goal.link-requires
link-requires c = let h = here_there c.requires.linked c.requires.there c.requires.found in omega (arith, led_long c.lead_on-chain.ensures)

pub returns : goal.returns
returns c =
    elim c.if-place-chain.branch [
      | then-place-chain w ↦ rw w.chain-is (unlinked_by c.requires.linked c.requires.there c.requires.found c.lead_on-chain.ensures (inl (w.if-place-chain.true, refl)) c.link.ensures)
      | else-place-chain w ↦ rw w.chain-is (unlinked_by c.requires.linked c.requires.there c.requires.found c.lead_on-chain.ensures (inr (w.if-place-chain.false, refl)) c.link.ensures)
    ]
