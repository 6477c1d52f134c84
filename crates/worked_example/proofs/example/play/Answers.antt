use Rattle.std.proofs.Common.{◌≡◌, [], ◌∷◌, set, Some, Ok, sym, refl, ap, ◌∙◌, w32, SFits, to_z, of_z, rules}
use Rattle.std.proofs.lemmas.Int.{to_z-of_z}
use Rattle.stores.specs.Layout.{new_tables}
use Rattle.stores.specs.Plans.{limits_of, planned}
use Rattle.monitor.specs.Steps.{state}
use Rattle.rung_requests.specs.Example.{requests_with}
use Rattle.worked_example.specs.Example.{worked, row_with}
use Rattle.worked_example.proofs.Working.{sees, plays}
use Rattle.worked_example.proofs.example.play.Goals as goal
use Rattle.worked_example.proofs.example.play.Goals.{After-serve_all}

played : (c : After-serve_all) → (c.serve_all.result ≡ Ok tt) × (c.serve_all.new.events ≡ worked) × (c.serve_all.new.places ≡ set c.args.places.now 4 (row_with c.args.value))
played c =
    let planned-so : Some (2 ∷ 1 ∷ []) ≡ Some (limits_of c.in_ok-of.field-0) = sym c.of.ensures ∙ ap planned c.in_ok-of.was in
    let limits : limits_of c.in_ok-of.field-0 ≡ 2 ∷ 1 ∷ [] = cc in
    let f : SFits w32 c.args.value = search rules in
    let h : to_z w32 (of_z w32 c.args.value) ≡ c.args.value = simp to_z-of_z in
    plays c.args.value _ _ _ _ c.args.events.now _ c.args.places.now _ _ c.records-records.ensures
    (λ i. state (c.closed.ensures i ∷ c.closed-2.ensures i ∷ []) ((c.new-store.ensures ∙ ap new_tables limits) i))
    (c.requests.ensures ∙ ap requests_with h) (search rules) (search rules) c.serve_all.ensures.served

pub returns-in_err-serve_all : goal.returns-in_err-serve_all
returns-in_err-serve_all c =
    let h = played (goal.at.returns-in_err-serve_all c).After-serve_all in
    let ok = h.0 in let err = c.in_err-serve_all.was in
    record { succeeds = cc; answers = h.1; row = h.2; seen = sees c.args.value }

pub returns : goal.returns
returns c = let h = played (goal.at.returns c).After-serve_all in record { succeeds = refl; answers = h.1; row = h.2; seen = sees c.args.value }
