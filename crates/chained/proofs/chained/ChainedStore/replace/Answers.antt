use Rattle.std.proofs.Common.{◌≡◌, Some, sym, ap, ◌∙◌, subst, to_z-of_z}
use Rattle.std.specs.List.{slice_get}
use Rattle.stores.specs.Changes.{changed, replacing}
use Rattle.stores.proofs.Limits.{replace_limits}
use Rattle.stores.proofs.Local.{replacing_local}
use Rattle.chained.specs.Links.{Laid, links, tables_of}
use Rattle.chained.specs.Steps.{Alone, Rewritten}
use Rattle.chained.proofs.Meaning.{chain_read, linked_there, inside_there, same_chains, laid_anew, change_after}
use Rattle.chained.proofs.chained.ChainedStore.replace.Goals as goal
use Rattle.chained.proofs.chained.ChainedStore.replace.Goals.{In-Some, After-replace}

there : (c : In-Some) → slice_get c.args.self.now.chains.items c.args.table ≡ Some c.in-Some.chain.now
there c = chain_read c.args.self.now c.args.table c.deref.ensures.0 c.in-Some.ensures.lookup.0 c.in-Some.ensures.lookup.1

pub replace-requires : goal.replace-requires
replace-requires c = inside_there c.args.self.now c.args.table (there (goal.at.replace-requires c).In-Some)

rewritten : (c : After-replace) → slice_get c.args.self.now.chains.items c.args.table ≡ Some c.in-Some.chain.now →
    let l = links c.in-Some.chain.now c.args.self.now.free in
    Rewritten (Alone (λ ts n. replacing ts n c.args.place c.args.first c.args.second) c.replace.result) l l c.args.self.now.lent.cells.now c.replace.new.self.cells.now
rewritten c at = simp (to_z-of_z c.ranges.first, to_z-of_z c.ranges.second) at (c.replace.ensures c.args.self.now.free (linked_there c.args.self.now c.args.table at))

pub invariant_of-self-2 : goal.invariant_of-self-2
invariant_of-self-2 c =
    let p = c.args.self.now in
    let at = there (goal.at.invariant_of-self-2 c).In-Some in
    let laid = laid_anew p c.args.table at _ (replacing_local c.args.place c.args.first c.args.second) _ _ _ (rewritten (goal.at.invariant_of-self-2 c).After-replace at) in
    record { few = p.few; laid = ∣ subst (Laid c.replace.new.self.cells.now p.free) (same_chains p c.args.table at) laid ∣₁ }

pub returns : goal.returns
returns c =
    let p = c.args.self.now in
    let at = there (goal.at.returns c).In-Some in
    let change = ap (λ cs. changed c.replace.result (tables_of c.replace.new.self.cells.now cs)) (sym (same_chains p c.args.table at)) ∙
    change_after p c.args.table at _ (replacing_local c.args.place c.args.first c.args.second) _ _ _ (rewritten (goal.at.returns c).After-replace at) in
    record { change = change; limits = replace_limits _ c.args.table _ _ c.args.place c.args.first c.args.second change }
