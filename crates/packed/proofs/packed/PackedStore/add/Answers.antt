use Rattle.std.proofs.Common.{◌≡◌, Some, length-set, to_z-of_z}
use Rattle.std.specs.List.{slice_get}
use Rattle.stores.proofs.Limits.{add_limits}
use Rattle.stores.proofs.Local.{adding_local}
use Rattle.packed.proofs.Meaning.{lent_there, lies_there, rewritten}
use Rattle.packed.proofs.packed.PackedStore.add.Goals as goal
use Rattle.packed.proofs.packed.PackedStore.add.Goals.{In_ok-at}

there : (c : In_ok-at) → slice_get c.args.self.now.stretches.items c.args.table ≡ Some c.in_ok-at.at.now
there c = lent_there _ _ c.in_ok-at.at (rw c.in_ok-at.ensures.ok_part at c.get_mut.ensures.item)

pub add-requires : goal.add-requires
add-requires c = lies_there c.args.self.now c.args.table c.in_ok-at.at.now (there (goal.at.add-requires c).In_ok-at)

pub invariant_of-self-2 : goal.invariant_of-self-2
invariant_of-self-2 c =
    let o = (rewritten c.args.self.now c.args.table c.in_ok-at.at.now (there (goal.at.invariant_of-self-2 c).In_ok-at) _ (adding_local c.args.first c.args.second) _ _ _ (simp (to_z-of_z c.ranges.first, to_z-of_z c.ranges.second) at c.add.ensures)).0 in
    record { few = rw length-set c.args.self.now.few; order = ∣ o ∣₁ }

pub returns : goal.returns
returns c =
    let e = (rewritten c.args.self.now c.args.table c.in_ok-at.at.now (there (goal.at.returns c).In_ok-at) _ (adding_local c.args.first c.args.second) _ _ _ (simp (to_z-of_z c.ranges.first, to_z-of_z c.ranges.second) at c.add.ensures)).1 in
    record { change = e; limits = add_limits _ c.args.table _ _ c.args.first c.args.second e }
