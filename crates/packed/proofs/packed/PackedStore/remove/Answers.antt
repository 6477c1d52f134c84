use Rattle.std.proofs.Common.{length-set}
use Rattle.stores.proofs.Limits.{remove_limits}
use Rattle.stores.proofs.Local.{removing_local}
use Rattle.packed.proofs.Meaning.{lent_there, lies_there, rewritten}
use Rattle.packed.proofs.packed.PackedStore.remove.Goals as goal

pub remove-requires : goal.remove-requires
remove-requires c = lies_there c.args.self.now c.args.table c.in-Some.at.now (lent_there _ _ c.in-Some.at c.in-Some.ensures.item)

pub invariant_of-self-2 : goal.invariant_of-self-2
invariant_of-self-2 c =
    let o = (rewritten c.args.self.now c.args.table c.in-Some.at.now (lent_there _ _ c.in-Some.at c.in-Some.ensures.item) _ (removing_local c.args.place) _ _ _ c.remove.ensures).0 in
    record { few = rw length-set c.args.self.now.few; order = ∣ o ∣₁ }

pub returns : goal.returns
returns c =
    let e = (rewritten c.args.self.now c.args.table c.in-Some.at.now (lent_there _ _ c.in-Some.at c.in-Some.ensures.item) _ (removing_local c.args.place) _ _ _ c.remove.ensures).1 in
    record { change = e; limits = remove_limits _ c.args.table _ _ c.args.place e }
