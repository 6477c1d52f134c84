-- Places of lists. Assumes nothing.
use Rattle.std.proofs.Common.{◌≡◌, ℕ, zero, suc, List, [], ◌∷◌, map, set, Some, None, Option, refl, ap}
use Rattle.std.specs.List.{slice_get}

module _ {A B : Type 0} (f : A → B) where
  abbrev pub over : Option A → Option B
  over None = None
  over (Some a) = Some (f a)

  pub nth_map : (xs : List A) (i : ℕ) → slice_get (map f xs) i ≡ over (slice_get xs i)
  nth_map [] i = refl
  nth_map (x ∷ xs) zero = refl
  nth_map (x ∷ xs) (suc i) = nth_map xs i

  pub map_set : (xs : List A) (i : ℕ) (a : A) → map f (set xs i a) ≡ set (map f xs) i (f a)
  map_set [] i a = refl
  map_set (x ∷ xs) zero a = refl
  map_set (x ∷ xs) (suc i) a = ap (λ zs. f x ∷ zs) (map_set xs i a)

pub nth_set_other : {A : Type 0} (xs : List A) (j i : ℕ) (b : A) → (j ≡ i → ⊥) → slice_get (set xs j b) i ≡ slice_get xs i
nth_set_other [] j i b h = refl
nth_set_other (x ∷ xs) zero zero b h = absurd (h refl)
nth_set_other (x ∷ xs) zero (suc i) b h = refl
nth_set_other (x ∷ xs) (suc j) zero b h = refl
nth_set_other (x ∷ xs) (suc j) (suc i) b h = nth_set_other xs j i b (λ e. h (ap suc e))
