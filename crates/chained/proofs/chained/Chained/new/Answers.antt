use Rattle.std.proofs.Common.{◌≡◌, ◌≤◌, ◌++◌, length, drop, sum, arith, length-append, length-take, rules}
use Rattle.stores.specs.Plans.{limits_of}
use Rattle.chained.proofs.Layings.{in_order_front, new_few, new_laid, new_means}
use Rattle.chained.proofs.chained.Chained.new.Goals as goal

pub invariant_of-result : goal.invariant_of-result
invariant_of-result g c =
    let p = c.args.plan in
    let n = c.sum-count.result in
    let chains = c.empty_chains.result.items in
    let front = c.link_in_order.new.cells in
    let rest = drop n c.args.cells.now in
    let lent : g.row.N ≤ length c.args.cells.now = search rules in
    let count : n ≡ sum (limits_of p) = search rules in
    let fits : n ≤ length front = omega (arith, p.fits, c.link_in_order.auto.cells, length-take n c.args.cells.now) in
    let order = in_order_front front rest n fits (λ k h. c.link_in_order.ensures k (omega (arith, length-take n c.args.cells.now, p.fits))) in
    let laid = new_laid (front ++ rest) (limits_of p) chains c.empty_chains.ensures n count (omega (arith, p.small)) (omega (arith, length-append front rest)) order in
    record { few = omega (arith, p.few, new_few (front ++ rest) (limits_of p) chains c.empty_chains.ensures, length-take p.count p.limits); laid = ∣ laid ∣₁ }

pub returns : goal.returns
returns g c = new_means _ (limits_of c.args.plan) c.empty_chains.result.items c.empty_chains.ensures
