use Rattle.std.proofs.Common.{length-set}
use Rattle.stores.proofs.Limits.{sweep_limits}
use Rattle.stores.proofs.Local.{sweeping_local}
use Rattle.packed.proofs.Meaning.{lent_there, lies_there, rewritten}
use Rattle.packed.proofs.packed.PackedStore.sweep.Goals as goal

pub sweep-requires : goal.sweep-requires
sweep-requires g c = lies_there c.args.self.now c.args.table c.in-Some.at.now (lent_there _ _ c.in-Some.at c.in-Some.ensures.item)

pub invariant_of-self-2 : goal.invariant_of-self-2
invariant_of-self-2 g c =
    let o = (rewritten c.args.self.now c.args.table c.in-Some.at.now (lent_there _ _ c.in-Some.at c.in-Some.ensures.item) _ (sweeping_local (g.E.Edit.decides c.args.editor.now)) _ _ _ c.sweep.ensures).0 in
    record { few = rw length-set c.args.self.now.few; order = ∣ o ∣₁ }

pub returns : goal.returns
returns g c =
    let e = (rewritten c.args.self.now c.args.table c.in-Some.at.now (lent_there _ _ c.in-Some.at c.in-Some.ensures.item) _ (sweeping_local (g.E.Edit.decides c.args.editor.now)) _ _ _ c.sweep.ensures).1 in
    record { change = e; limits = sweep_limits _ c.args.table _ _ (g.E.Edit.decides c.args.editor.now) e }
