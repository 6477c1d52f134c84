-- One table of a list changed. Assumes nothing.
use Rattle.std.proofs.Common.{◌≡◌, ℕ, zero, suc, List, [], ◌∷◌, set, Some, None, Option, sym, refl, ap}
use Rattle.std.specs.List.{slice_get}
use Rattle.stores.specs.declared.rows.Row.{Row}
use Rattle.stores.specs.Tables.{Table, rows_of, rows_in}
use Rattle.stores.specs.Changes.{with_rows, put_rows, rows_put}

module _ {X : Type 0} where
  pub nth_set : (xs : List X) (n : ℕ) (x y : X) → slice_get xs n ≡ Some x → slice_get (set xs n y) n ≡ Some y
  nth_set [] n x y e = cc
  nth_set (z ∷ xs) zero x y e = refl
  nth_set (z ∷ xs) (suc n) x y e = nth_set xs n x y e

  pub set_nth : (xs : List X) (n : ℕ) (x : X) → slice_get xs n ≡ Some x → set xs n x ≡ xs
  set_nth [] n x e = refl
  set_nth (z ∷ xs) zero x e = cc
  set_nth (z ∷ xs) (suc n) x e = ap (λ zs. z ∷ zs) (set_nth xs n x e)

  pub set_twice : (xs : List X) (n : ℕ) (x y : X) → set (set xs n x) n y ≡ set xs n y
  set_twice [] n x y = refl
  set_twice (z ∷ xs) zero x y = refl
  set_twice (z ∷ xs) (suc n) x y = ap (λ zs. z ∷ zs) (set_twice xs n x y)

-- the same rows put back
put_same : (ts : List Table) (n : ℕ) (o : Option Table) → slice_get ts n ≡ o → ts ≡ put_rows o ts n (rows_of o)
put_same ts n None e = refl
put_same ts n (Some t) e = sym (set_nth ts n t e)

module _ (ts : List Table) (n : ℕ) where
  pub same_put : ts ≡ rows_put ts n (rows_in ts n)
  same_put = put_same ts n (slice_get ts n) refl

  module _ (t : Table) (here : slice_get ts n ≡ Some t) (rs : List Row) where
    pub in_put : rows_in (rows_put ts n rs) n ≡ rs
    in_put = rw (here, nth_set ts n t (with_rows t rs) here)

    pub put_put : (qs : List Row) → rows_put (rows_put ts n rs) n qs ≡ rows_put ts n qs
    put_put qs = rw (here, nth_set ts n t (with_rows t rs) here) (set_twice ts n (with_rows t rs) (with_rows t qs))
