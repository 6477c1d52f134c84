use Rattle.std.proofs.Common.{sym, ap, ◌∙◌, subst, to_z-of_z}
use Rattle.stores.specs.Changes.{changed}
use Rattle.stores.proofs.Limits.{replace_limits}
use Rattle.stores.proofs.Local.{replacing_local}
use Rattle.stores.proofs.Puts.{set_nth}
use Rattle.packed.specs.Stretches.{tables_of, InOrder}
use Rattle.packed.proofs.Meaning.{lies_there, rewritten}
use Rattle.packed.proofs.packed.PackedStore.replace.Goals as goal

pub replace-requires : goal.replace-requires
replace-requires c = lies_there c.args.self.now c.args.table c.in-Some.at (sym c.in-Some.ensures)

pub invariant_of-self : goal.invariant_of-self
invariant_of-self c =
    let p = c.args.self.now in
    let o = (rewritten p c.args.table c.in-Some.at (sym c.in-Some.ensures) _ (replacing_local c.args.place c.args.first c.args.second) _ _ _ (simp (to_z-of_z c.ranges.first, to_z-of_z c.ranges.second) at c.replace.ensures)).0 in
    record { few = p.few; order = ∣ subst (λ ss. InOrder 0 c.replace.new.rows ss) (set_nth p.stretches.items c.args.table c.in-Some.at (sym c.in-Some.ensures)) o ∣₁ }

pub returns : goal.returns
returns c =
    let p = c.args.self.now in
    let e = ap (λ ss. changed c.replace.result (tables_of c.replace.new.rows ss)) (sym (set_nth p.stretches.items c.args.table c.in-Some.at (sym c.in-Some.ensures))) ∙
    (rewritten p c.args.table c.in-Some.at (sym c.in-Some.ensures) _ (replacing_local c.args.place c.args.first c.args.second) _ _ _ (simp (to_z-of_z c.ranges.first, to_z-of_z c.ranges.second) at c.replace.ensures)).1 in
    record { change = e; limits = replace_limits _ c.args.table _ _ c.args.place c.args.first c.args.second e }
