use Rattle.std.proofs.Common.{◌≡◌, Some, refl, arith, length-set}
use Rattle.std.specs.List.{slice_get}
use Rattle.stores.proofs.Limits.{sweep_limits}
use Rattle.stores.proofs.Local.{sweeping_local}
use Rattle.chained.specs.declared.links.Chain.{Chain}
use Rattle.chained.proofs.Meaning.{chain_lent, linked_there, laid_anew, change_after}
use Rattle.chained.proofs.chained.ChainedStore.sweep.Given.{Over}
use Rattle.chained.proofs.chained.ChainedStore.sweep.Goals as goal
use Rattle.chained.proofs.chained.ChainedStore.sweep.Goals.{In-Some}

there : (g : Over) (c : In-Some g) → slice_get c.args.self.now.chains.items c.args.table ≡ Some c.in-Some.chain.now
there g c = chain_lent c.args.self.now c.args.table (c.in-Some.ensures.variant.0 refl) c.in-Some.ensures.value

pub sweep-requires : goal.sweep-requires
sweep-requires g c = linked_there c.args.self.now c.args.table (there g (goal.at.sweep-requires g c).In-Some)

pub invariant_of-self-2 : goal.invariant_of-self-2
invariant_of-self-2 g c =
    let p = c.args.self.now in
    let laid = laid_anew p c.args.table (there g (goal.at.invariant_of-self-2 g c).In-Some) _ (sweeping_local (g.E.Edit.decides c.args.editor.now)) _ _ _ c.sweep.ensures in
    record { few = omega (arith, p.few, length-set {A = Chain}); laid = ∣ laid ∣₁ }

pub returns : goal.returns
returns g c =
    let change = change_after c.args.self.now c.args.table (there g (goal.at.returns g c).In-Some) _ (sweeping_local (g.E.Edit.decides c.args.editor.now)) _ _ _ c.sweep.ensures in
    record { change = change; limits = sweep_limits _ c.args.table _ _ (g.E.Edit.decides c.args.editor.now) change }
