-- Limits that are summed one by one. Assumes nothing.
use Rattle.std.proofs.Common.{◌≡◌, ℕ, ◌+◌, ◌<◌, ◌≤◌, List, length, get_or, take, sum}
use Rattle.std.proofs.lemmas.List.Sums.{sum_by_more, sum_by-take-le}

module _ (ls : List ℕ) (i : ℕ) (within : i < length ls) where
  pub sum_more : sum (take (i + 1) ls) ≡ sum (take i ls) + get_or ls i 0
  sum_more = sum_by_more (λ l. l) ls i 0 within

  pub sum_front : sum (take i ls) + get_or ls i 0 ≤ sum ls
  sum_front = rw sum_more at (sum_by-take-le (λ l. l) ls (i + 1))
