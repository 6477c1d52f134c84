use Rattle.std.proofs.Common.{◌≡◌, Ok}
use Rattle.guarantees.specs.Sides.{monitor_of}
use Rattle.guarantees.proofs.Promises.{served_run, nobody_learns_above, labels_only_rise, nobody_learns_here, labels_rise_here}
use Rattle.guarantees.proofs.comparison.serve_both.Goals as goal

pub returns : goal.returns
returns g c =
    let k = g.L.Label.kind in
    let laws = g.met.L.Label.lattice in
    let rs = c.args.records.now in
    let v = monitor_of g.S.Store.tables c.args.left.now in
    let w = monitor_of g.T.Store.tables c.args.right.now in
    let us = c.args.left.now.requests.now in
    let vs = c.args.right.now.requests.now in
    let served-left = c.serve-served_left.ensures.served in
    let served-right = c.serve-served_right.ensures.served in
    let runs-left = λ (ok : c.serve-served_left.result ≡ Ok tt). served_run k laws rs v _ us _ _ _ _ _ ok served-left in
    let runs-right = λ (ok : c.serve-served_right.result ≡ Ok tt). served_run k laws rs w _ vs _ _ _ _ _ ok served-right in
    record {
      left = served-left;
      right = served-right;
      nobody_learns_here = λ p q. nobody_learns_here k laws rs v w _ _ us vs (runs-left p) (runs-right q);
      labels_rise_left = λ p. labels_rise_here k laws rs v _ us (runs-left p);
      labels_rise_right = λ q. labels_rise_here k laws rs w _ vs (runs-right q);
      nobody_learns_above = nobody_learns_above k laws;
      labels_only_rise = labels_only_rise k laws;
      loans_left = c.serve-served_left.ensures.loans;
      loans_right = c.serve-served_right.ensures.loans;
    }
