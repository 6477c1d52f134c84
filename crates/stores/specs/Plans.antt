-- What a plan says. Assumes nothing.
use Rattle.std.specs.Prelude.{ℕ, List, take, Some, None, Ok, Err, Option, Result}
use Rattle.stores.specs.declared.plan.Plan.{Plan}
use Rattle.stores.specs.declared.plan.LayoutRefusal.{LayoutRefusal}

-- The limits of the tables of a plan, in their order.
abbrev pub limits_of : {N : ℕ} → Plan N → List ℕ
limits_of p = take p.count p.limits

-- The limits of the plan that was made, if one was.
abbrev pub planned : {N : ℕ} → Result (Plan N) LayoutRefusal → Option (List ℕ)
planned (Ok p) = Some (limits_of p)
planned (Err e) = None
