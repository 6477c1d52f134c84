use Rattle.std.proofs.Common.{◌≡◌, Some, refl, arith, length-set, to_z-of_z}
use Rattle.std.specs.List.{slice_get}
use Rattle.stores.proofs.Limits.{add_limits}
use Rattle.stores.proofs.Local.{adding_local}
use Rattle.chained.specs.declared.links.Chain.{Chain}
use Rattle.chained.proofs.Meaning.{chain_lent, linked_there, laid_anew, change_after}
use Rattle.chained.proofs.chained.ChainedStore.add.Goals as goal
use Rattle.chained.proofs.chained.ChainedStore.add.Goals.{In-Some}

there : (c : In-Some) → slice_get c.args.self.now.chains.items c.args.table ≡ Some c.in-Some.chain.now
there c = chain_lent c.args.self.now c.args.table (c.in-Some.ensures.variant.0 refl) c.in-Some.ensures.value

pub add-requires : goal.add-requires
add-requires c = linked_there c.args.self.now c.args.table (there (goal.at.add-requires c).In-Some)

pub invariant_of-self-2 : goal.invariant_of-self-2
invariant_of-self-2 c =
    let p = c.args.self.now in
    let laid = laid_anew p c.args.table (there (goal.at.invariant_of-self-2 c).In-Some) _ (adding_local c.args.first c.args.second) _ _ _ (simp (to_z-of_z c.ranges.first, to_z-of_z c.ranges.second) at c.add.ensures) in
    record { few = omega (arith, p.few, length-set {A = Chain}); laid = ∣ laid ∣₁ }

pub returns : goal.returns
returns c =
    let change = change_after c.args.self.now c.args.table (there (goal.at.returns c).In-Some) _ (adding_local c.args.first c.args.second) _ _ _ (simp (to_z-of_z c.ranges.first, to_z-of_z c.ranges.second) at c.add.ensures) in
    record { change = change; limits = add_limits _ c.args.table _ _ c.args.first c.args.second change }
