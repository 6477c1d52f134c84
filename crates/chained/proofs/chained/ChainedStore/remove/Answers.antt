use Rattle.std.proofs.Common.{◌≡◌, Some, refl, arith, length-set}
use Rattle.std.specs.List.{slice_get}
use Rattle.stores.proofs.Limits.{remove_limits}
use Rattle.stores.proofs.Local.{removing_local}
use Rattle.chained.specs.declared.links.Chain.{Chain}
use Rattle.chained.proofs.Meaning.{chain_lent, linked_there, laid_anew, change_after}
use Rattle.chained.proofs.chained.ChainedStore.remove.Goals as goal
use Rattle.chained.proofs.chained.ChainedStore.remove.Goals.{In-Some}

there : (c : In-Some) → slice_get c.args.self.now.chains.items c.args.table ≡ Some c.in-Some.chain.now
there c = chain_lent c.args.self.now c.args.table (c.in-Some.ensures.variant.0 refl) c.in-Some.ensures.value

pub remove-requires : goal.remove-requires
remove-requires c = linked_there c.args.self.now c.args.table (there (goal.at.remove-requires c).In-Some)

pub invariant_of-self-2 : goal.invariant_of-self-2
invariant_of-self-2 c =
    let p = c.args.self.now in
    let laid = laid_anew p c.args.table (there (goal.at.invariant_of-self-2 c).In-Some) _ (removing_local c.args.place) _ _ _ c.remove.ensures in
    record { few = omega (arith, p.few, length-set {A = Chain}); laid = ∣ laid ∣₁ }

pub returns : goal.returns
returns c =
    let change = change_after c.args.self.now c.args.table (there (goal.at.returns c).In-Some) _ (removing_local c.args.place) _ _ _ c.remove.ensures in
    record { change = change; limits = remove_limits _ c.args.table _ _ c.args.place change }
