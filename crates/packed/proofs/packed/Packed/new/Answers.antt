use Rattle.std.proofs.Common.{◌≤◌, length, arith, length-take, rules}
use Rattle.stores.specs.Plans.{limits_of}
use Rattle.packed.proofs.Layings.{length_empty, laid_out}
use Rattle.packed.proofs.packed.Packed.new.Goals as goal

pub invariant_of-result : goal.invariant_of-result
invariant_of-result g c =
    let lent : g.row.N ≤ length c.args.rows.now = search rules in
    let ls = limits_of c.args.plan in
    let laid = laid_out ls _ c.args.rows.now c.lay_out.ensures (omega (arith, c.args.plan.fits)) in
    record { few = rw (c.lay_out.ensures, length_empty) (omega (arith, c.args.plan.few, length-take c.args.plan.count c.args.plan.limits)); order = ∣ laid.0 ∣₁ }

pub returns : goal.returns
returns g c =
    let lent : g.row.N ≤ length c.args.rows.now = search rules in
    (laid_out (limits_of c.args.plan) _ c.args.rows.now c.lay_out.ensures (omega (arith, c.args.plan.fits))).1
