use Rattle.std.proofs.Common.{◌≡◌, Ok}
use Rattle.monitor.specs.Steps.{state}
use Rattle.guarantees.proofs.Promises.{served_run, nobody_learns_above, labels_only_rise, nobody_learns_here, labels_rise_here}
use Rattle.guarantees.proofs.comparison.serve_two.Goals as goal

pub returns : goal.returns
returns g c =
    let k = g.L.Label.kind in
    let laws = g.met.L.Label.lattice in
    let rs = c.args.records.now in
    let v = state c.args.left.now (g.S.Store.tables c.args.left_store.now) in
    let w = state c.args.right.now (g.T.Store.tables c.args.right_store.now) in
    let us = c.args.left_requests.now in
    let vs = c.args.right_requests.now in
    let runs-left = λ (ok : c.serve_list-served_left.result ≡ Ok tt). served_run k laws rs v _ us _ _ _ _ _ ok c.serve_list-served_left.ensures in
    let runs-right = λ (ok : c.serve_list-served_right.result ≡ Ok tt). served_run k laws rs w _ vs _ _ _ _ _ ok c.serve_list-served_right.ensures in
    record {
      left = c.serve_list-served_left.ensures;
      right = c.serve_list-served_right.ensures;
      nobody_learns_here = λ p q. nobody_learns_here k laws rs v w _ _ us vs (runs-left p) (runs-right q);
      labels_rise_left = λ p. labels_rise_here k laws rs v _ us (runs-left p);
      labels_rise_right = λ q. labels_rise_here k laws rs w _ vs (runs-right q);
      nobody_learns_above = nobody_learns_above k laws;
      labels_only_rise = labels_only_rise k laws;
    }
