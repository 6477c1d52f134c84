use Rattle.std.proofs.Common.{◌≡◌, ℕ, ◌-◌, ◌<◌, List, length, Option, unwrap_or, ap, ◌∙◌, arith, w32, SFits, rules}
use Rattle.std.specs.List.{slice_get}
use Rattle.std.proofs.lemmas.Int.{to_z-of_z}
use Rattle.stores.specs.Tables.{Table, row_count, rows_in}
use Rattle.stores.proofs.Walks.{counted}
use Rattle.stores.proofs.Limits.{sweep_limits}
use Rattle.stores.proofs.Sweeps.{passed, passed_none, no_gap, turn_keep, turn_rewrite, turn_remove}
use Rattle.stores.proofs.store.Store.sweep.Given as given
use Rattle.stores.proofs.store.Store.sweep.Goals as goal
use Rattle.stores.proofs.store.Store.sweep.Goals.{After-row}

count_is : (ts : List Table) (n count : ℕ) (o : Option ℕ) → count ≡ unwrap_or o 0 → o ≡ row_count ts n → count ≡ length (rows_in ts n)
count_is ts n count o e f = e ∙ ap (λ (o : Option ℕ). unwrap_or o 0) f ∙ counted (slice_get ts n)

-- the row that is read next lies in the table
within : (g : given.Over) (c : After-row g) → c.loop-place.place - 1 < length (rows_in (g.Self.Store.tables c.args.self.now) c.args.table)
within g c = omega (arith, c.loop-place.invariant.0, count_is (g.Self.Store.tables c.args.self.now) c.args.table _ _ c.unwrap_or-count.ensures c.row_count.ensures)

pub loop-place-init : goal.loop-place-init
loop-place-init g c = (omega arith, passed_none _ _ _ _ (count_is (g.Self.Store.tables c.args.self.now) c.args.table _ _ c.unwrap_or-count.ensures c.row_count.ensures))

pub overflow_add-touched : goal.overflow_add-touched
overflow_add-touched g c = omega (arith, c.loop-place.invariant.0)

pub overflow_add-touched-in-Remove : goal.overflow_add-touched-in-Remove
overflow_add-touched-in-Remove g c = omega (arith, c.loop-place.invariant.0)

pub loop-place-preserved-in-Keep : goal.loop-place-preserved-in-Keep
loop-place-preserved-in-Keep g c =
    let h = within g (goal.at.loop-place-preserved-in-Keep g c).After-row in (
      omega (arith, c.loop-place.invariant.0),
      turn_keep _ _ _ c.loop-place.place _ (omega arith) h _ _ c.loop-place.invariant.1 c.in-Some.row c.in-Some.ensures c.in-Keep.ensures,
    )

pub loop-place-preserved-in-Rewrite : goal.loop-place-preserved-in-Rewrite
loop-place-preserved-in-Rewrite g c =
    let h = within g (goal.at.loop-place-preserved-in-Rewrite g c).After-row in
    let f : SFits w32 c.in-Rewrite.first = search rules in
    let s : SFits w32 c.in-Rewrite.second = search rules in (
      omega (arith, c.loop-place.invariant.0),
      turn_rewrite _ _ _ c.loop-place.place _ (omega arith) h _ _ c.loop-place.invariant.1 c.in-Some.row c.in-Some.ensures c.in-Rewrite.first c.in-Rewrite.second _ _ c.in-Rewrite.ensures (simp to_z-of_z at c.replace.ensures.change),
    )

pub loop-place-preserved-in-Remove : goal.loop-place-preserved-in-Remove
loop-place-preserved-in-Remove g c =
    let h = within g (goal.at.loop-place-preserved-in-Remove g c).After-row in (
      omega (arith, c.loop-place.invariant.0),
      turn_remove _ _ _ c.loop-place.place _ (omega arith) h _ _ c.loop-place.invariant.1 c.in-Some.row c.in-Some.ensures _ _ c.in-Remove.ensures c.remove.ensures.change,
    )

pub loop-place-preserved : goal.loop-place-preserved
loop-place-preserved g c =
    let h = within g (goal.at.loop-place-preserved g c).After-row in
    absurd (no_gap (g.E.Edit.decides c.args.editor.now) (g.Self.Store.tables c.args.self.now) c.args.table c.loop-place.place _ (omega arith) h _ _ c.loop-place.invariant.1 c.in_default.ensures)

pub returns : goal.returns
returns g c =
    let none : c.loop-place.place ≡ 0 = omega arith in
    let all = c.loop-place.invariant.1 ∙ ap (passed (g.E.Edit.decides c.args.editor.now) (g.Self.Store.tables c.args.self.now) c.args.table) none in
    record { change = all; limits = sweep_limits _ _ _ _ _ all }
