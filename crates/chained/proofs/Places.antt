-- Chains of cells, as lists of numbers. Assumes nothing.
use Rattle.std.proofs.Common.{◌≡◌, ℕ, zero, suc, ◌+◌, ◌<◌, ◌≤◌, Bool, true, false, cond, ltb, List, [], ◌∷◌, ◌++◌, length, get_or, take, drop, refl, ap, subst, add-one, arith}
use Rattle.std.specs.List.{AllByRecursion}
use Rattle.std.proofs.ByRecursion.{All-get_or}
use Rattle.std.proofs.lemmas.Bool.{eq-eqb, ltb-true, cond_both}
use Rattle.chained.specs.declared.links.Cell.{Cell}
use Rattle.chained.specs.declared.links.Spot.{Spot}
use Rattle.chained.specs.Links.{cell_at, places, times, room}
use Rattle.chained.specs.Steps.{Found}

pub times_append : (q : ℕ) (xs ys : List ℕ) → times q (xs ++ ys) ≡ times q xs + times q ys
times_append q [] ys = omega arith
times_append q (x ∷ xs) ys = omega (arith, times_append q xs ys)

pub times_here : (q : ℕ) (xs : List ℕ) → times q (q ∷ xs) ≡ 1 + times q xs
times_here q xs = rw (eq-eqb q q refl)

-- a number that stands at an index
pub times_at : (xs : List ℕ) (k : ℕ) → k < length xs → 0 < times (get_or xs k 0) xs
times_at [] k h = absurd (omega arith)
times_at (x ∷ xs) zero h = omega (arith, times_here x xs)
times_at (x ∷ xs) (suc k) h = omega (arith, times_at xs k (omega arith))

-- no number stands in a list where another does not
pub apart : (p q : ℕ) (xs : List ℕ) → times p xs ≡ 0 → 0 < times q xs → q ≡ p → ⊥
apart p q xs none some e = let f : times q xs ≡ times p xs = ap (λ n. times n xs) e in omega arith

pub room_le : (cells : List Cell) (q : ℕ) → room cells q ≤ 1
room_le cells q = cond_both (ltb q (length cells)) 1 0 (λ n. n ≤ 1) (λ e. omega arith) (λ e. omega arith)

pub room_there : (cells : List Cell) (q n : ℕ) → 0 < n → n ≤ room cells q → q < length cells
room_there cells q n some h = by (ltb q (length cells)) refl h
  where
    by : (b : Bool) → ltb q (length cells) ≡ b → n ≤ cond b 1 0 → q < length cells
    by true e h = ltb-true q (length cells) e
    by false e h = absurd (omega arith)

pub length_places : (cells : List Cell) (p n : ℕ) → length (places cells p n) ≡ n
length_places cells p zero = refl
length_places cells p (suc n) = ap suc (length_places cells (cell_at cells p).next n)

pub next_place : (cells : List Cell) (p n k : ℕ) → suc k < n → get_or (places cells p n) (suc k) 0 ≡ (cell_at cells (get_or (places cells p n) k 0)).next
next_place cells p zero k h = absurd (omega arith)
next_place cells p (suc n) zero h = head_place n (omega arith)
  where
    head_place : (m : ℕ) → 0 < m → get_or (places cells (cell_at cells p).next m) 0 0 ≡ (cell_at cells p).next
    head_place zero h = absurd (omega arith)
    head_place (suc m) h = refl
next_place cells p (suc n) (suc k) h = next_place cells (cell_at cells p).next n k (omega arith)

-- the cell of a row, one step after the other
module _ (cells : List Cell) (p n : ℕ) where
  module _ {k : ℕ} {s : Spot} (h : k < n) (f : Found (places cells p n) k s) where
    pub found_there : AllByRecursion (λ q. q < length cells) (places cells p n) → s.here < length cells
    found_there inside = subst (λ q. q < length cells) f.here (All-get_or (λ q. q < length cells) (places cells p n) k 0 (omega (arith, length_places cells p n)) inside)

    pub found_next : k + 1 < n → Found (places cells p n) (k + 1) (record { before = s.here; here = (cell_at cells s.here).next })
    found_next more = record {
      here = rw (add-one, next_place cells p n k (omega arith), f.here);
      before = λ j e. let i : j ≡ k = omega arith in rw i f.here;
    }

-- a cell of a chain is in no other chain, and once in that
pub sole : (p : ℕ) (xs ys fs : List ℕ) → times p (xs ++ p ∷ ys) + times p fs ≤ 1 → (times p xs ≡ 0) × (times p ys ≡ 0) × (times p fs ≡ 0)
sole p xs ys fs h =
    let a = times_append p xs (p ∷ ys) in
    let b = times_here p ys in
    (omega arith, omega arith, omega arith)

-- a list cut at an index
pub cut_at : (xs : List ℕ) (k : ℕ) → k < length xs → xs ≡ take k xs ++ get_or xs k 0 ∷ drop (suc k) xs
cut_at [] k h = absurd (omega arith)
cut_at (x ∷ xs) zero h = refl
cut_at (x ∷ xs) (suc k) h = ap (λ zs. x ∷ zs) (cut_at xs k (omega arith))

pub skip_at : (p : ℕ) (xs ys : List ℕ) (k : ℕ) → length xs ≤ k → get_or (xs ++ p ∷ ys) (suc k) 0 ≡ get_or (xs ++ ys) k 0
skip_at p [] ys k h = refl
skip_at p (x ∷ xs) ys zero h = absurd (omega arith)
skip_at p (x ∷ xs) ys (suc k) h = skip_at p xs ys k (omega arith)
