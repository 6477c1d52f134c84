-- Rows gone through one by one. Assumes nothing.
use Rattle.std.proofs.Common.{◌≡◌, ℕ, zero, suc, ◌+◌, ◌≤◌, List, [], ◌∷◌, length, drop, Some, None, fold, Option, unwrap_or, refl, add-one}
use Rattle.std.specs.List.{slice_get}
use Rattle.std.proofs.lemmas.List.{drop_all}
use Rattle.stores.specs.Tables.{Table, count_of, rows_of}
use Rattle.stores.specs.Visits.{perhaps}

-- the number of rows, 0 where there is no such table
pub counted : (o : Option Table) → unwrap_or (count_of o) 0 ≡ length (rows_of o)
counted None = refl
counted (Some t) = refl

module _ {A B : Type 0} (f : B → A → B) (a : B) where
  folded_suc : (xs : List A) (i : ℕ) → fold f (perhaps f a (slice_get xs i)) (drop (suc i) xs) ≡ fold f a (drop i xs)
  folded_suc [] zero = refl
  folded_suc [] (suc i) = refl
  folded_suc (x ∷ xs) zero = refl
  folded_suc (x ∷ xs) (suc i) = folded_suc xs i

  -- a fold over what is left of a list, one step on: also past the list's end
  pub folded_nth : (xs : List A) (i : ℕ) → fold f (perhaps f a (slice_get xs i)) (drop (i + 1) xs) ≡ fold f a (drop i xs)
  folded_nth xs i = rw add-one (folded_suc xs i)

  pub folded_end : (xs : List A) (i : ℕ) → length xs ≤ i → a ≡ fold f a (drop i xs)
  folded_end xs i h = rw drop_all refl
