use Rattle.std.proofs.Common.{◌≡◌, Ok, refl, rules}
use Rattle.two_histories.specs.Histories.{left_history, right_history}
use Rattle.two_histories.proofs.Same.{played, all_served, look_same}
use Rattle.two_histories.proofs.histories.play_both.Goals as goal

pub returns : goal.returns
returns g c =
    let played-left = played _ _ _ left_history _ _ _ c.records.ensures c.requires.left c.left_requests-left_history.ensures c.serve_both.ensures.left in
    let played-right = played _ _ _ right_history _ _ _ c.records.ensures c.requires.right c.right_requests-right_history.ensures c.serve_both.ensures.right in
    let left-ok : c.serve_both.result.0 ≡ Ok tt = all_served left_history 17 6 _ _ _ _ _ _ refl refl c.told-left_events c.told-left_places played-left in
    let right-ok : c.serve_both.result.1 ≡ Ok tt = all_served right_history 16 6 _ _ _ _ _ _ refl refl c.told-right_events c.told-right_places played-right in
    let same = look_same _ _ _ _ _ _ _ c.records.ensures c.requires.left c.requires.right c.left_requests-left_history.ensures c.right_requests-right_history.ensures (c.serve_both.ensures.nobody_learns_here left-ok right-ok) in
    record {
      left = search rules;
      right = search rules;
      served = λ i. (left-ok i, right-ok i);
      look_same = search rules;
    }
