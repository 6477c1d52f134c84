-- Chains laid out from limits, and cells that are linked in their order. Assumes nothing.
use Rattle.std.proofs.Common.{◌∙◌, ◌≡◌, ℕ, zero, suc, ◌+◌, ◌<◌, ◌≤◌, ltb, List, [], ◌∷◌, ◌++◌, map, length, sum, refl, ap, ⊎_elim, arith}
use Rattle.std.specs.List.{AllByRecursion}
use lib.ListN.{length-map}
use Rattle.std.proofs.lemmas.List.{get_or_append_left}
use Rattle.std.proofs.lemmas.List.Sums.{sum_by-cons}
use Rattle.std.proofs.lemmas.Bool.{cases_eq, eq-eqb, ne_eqb, ltb-false, cond_both}
use Rattle.stores.specs.Layout.{new_tables}
use Rattle.chained.specs.declared.links.Cell.{Cell}
use Rattle.chained.specs.declared.links.Chain.{Chain}
use Rattle.chained.specs.Links.{no_cell, places, used, table_in, tables_of, times, total, room, Lies, Laid}
use Rattle.chained.specs.Steps.{empty_chain, InOrder}

-- what holds of the first cells, whichever the others are
pub in_order_front : (front rest : List Cell) (n : ℕ) → n ≤ length front → InOrder front n → InOrder (front ++ rest) n
in_order_front front rest n h o k below = ap (λ (c : Cell). c.next) (get_or_append_left front rest no_cell k (omega arith)) ∙ o k below

-- a cell stands at most once among those from p on that are linked in their order
once_each : (cells : List Cell) (n : ℕ) → InOrder cells n → (m p q : ℕ) → p + m ≤ n → (times q (places cells p m) ≤ 1) × (q < p → times q (places cells p m) ≡ 0) × (p + m ≤ q → times q (places cells p m) ≡ 0)
once_each cells n o zero p q h = (omega arith, λ a. refl, λ a. refl)
once_each cells n o (suc m) p q h =
    let rest = once_each cells n o m (p + 1) q (omega arith) in
    rw (o p (omega arith)) (⊎_elim (λ e. rw (eq-eqb q p e) (omega (arith, rest.1 (omega arith)), λ a. absurd (omega arith), λ a. absurd (omega arith))) (λ e. rw (ne_eqb q p e) (omega (arith, rest.0), λ a. omega (arith, rest.1 (omega arith)), λ a. omega (arith, rest.2 (omega arith)))) (cases_eq q p))

pub in_room : (cells : List Cell) (n : ℕ) → InOrder cells n → n ≤ length cells → (q : ℕ) → times q (places cells 0 n) ≤ room cells q
in_room cells n o h q =
    let e = once_each cells n o n 0 q (omega arith) in
    cond_both (ltb q (length cells)) 1 0 (λ r. times q (places cells 0 n) ≤ r) (λ t. e.0) (λ f. omega (arith, e.2 (omega (arith, ltb-false q (length cells) f))))

-- no row in any
module _ (cells : List Cell) where
  empty_lies : (ls : List ℕ) → AllByRecursion (Lies cells) (map empty_chain ls)
  empty_lies [] = tt
  empty_lies (l ∷ ls) = (record { ends = λ k e. absurd (omega arith); within = omega arith; sound = record { few = omega arith; keys = tt } }, empty_lies ls)

  empty_total : (f : Chain → ℕ) (ls : List ℕ) → ((l : ℕ) → f (empty_chain l) ≡ 0) → total f (map empty_chain ls) ≡ 0
  empty_total f [] z = refl
  empty_total f (l ∷ ls) z = omega (arith, z l, empty_total f ls z)

  limits_total : (ls : List ℕ) → total (λ c. c.limit) (map empty_chain ls) ≡ sum ls
  limits_total [] = refl
  limits_total (l ∷ ls) = omega (arith, limits_total ls, sum_by-cons (λ n. n) l ls)

  empty_tables : (ls : List ℕ) → map (table_in cells) (map empty_chain ls) ≡ new_tables ls
  empty_tables [] = refl
  empty_tables (l ∷ ls) = ap (λ ts. table_in cells (empty_chain l) ∷ ts) (empty_tables ls)

  module _ (ls : List ℕ) (chains : List Chain) (laid : chains ≡ map empty_chain ls) where
    pub new_means : tables_of cells chains ≡ new_tables ls
    new_means = rw laid (empty_tables ls)

    pub new_few : length chains ≡ length ls
    new_few = ap length laid ∙ length-map ls empty_chain

    pub new_laid : (n : ℕ) → n ≡ sum ls → n ≤ 2048 → n ≤ length cells → InOrder cells n → Laid cells (record { head = 0; count = n }) chains
    new_laid n s small fits o = rw laid (record {
      each = empty_lies ls;
      once = λ q. omega (arith, in_room cells n o fits q, empty_total (λ c. times q (used cells c)) ls (λ l. refl));
      full = omega (arith, empty_total (λ c. c.count) ls (λ l. refl), limits_total ls);
      small = omega (arith, limits_total ls);
    })
