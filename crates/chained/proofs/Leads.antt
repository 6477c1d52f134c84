-- Links that lead through a list of cells, and writes that leave them as they are. Assumes nothing.
use Rattle.std.proofs.Common.{◌≡◌, ℕ, zero, suc, ◌<◌, List, [], ◌∷◌, ◌++◌, length, sym, refl, ap, subst, arith}
use Rattle.chained.specs.declared.links.Cell.{Cell}
use Rattle.chained.specs.Links.{cell_at, places, rows_at, times}
use Rattle.chained.proofs.Places.{times_here, length_places}

-- the links from p lead through the cells qs and then to e
abbrev pub Leads : List Cell → ℕ → List ℕ → ℕ → Type 0
Leads cells p [] e = p ≡ e
Leads cells p (q ∷ qs) e = (p ≡ q) × Leads cells (cell_at cells q).next qs e

module _ (cells : List Cell) where
  pub leads_places : (p n : ℕ) → (e : ℕ) × Leads cells p (places cells p n) e
  leads_places p zero = (p, refl)
  leads_places p (suc n) = let r = leads_places (cell_at cells p).next n in (r.0, (refl, r.1))

  pub places_leads : (p n : ℕ) (qs : List ℕ) (e : ℕ) → n ≡ length qs → Leads cells p qs e → places cells p n ≡ qs
  places_leads p n qs e long l = rw long (along p qs e l)
    where
      along : (p : ℕ) (qs : List ℕ) (e : ℕ) → Leads cells p qs e → places cells p (length qs) ≡ qs
      along p [] e l = refl
      along p (q ∷ qs) e l = rw l.0 (ap (λ zs. q ∷ zs) (along (cell_at cells q).next qs e l.1))

  pub leads_split : (p : ℕ) (xs ys : List ℕ) (e : ℕ) → Leads cells p (xs ++ ys) e → (m : ℕ) × Leads cells p xs m × Leads cells m ys e
  leads_split p [] ys e l = (p, refl, l)
  leads_split p (x ∷ xs) ys e l = let r = leads_split (cell_at cells x).next xs ys e l.1 in (r.0, (l.0, r.1), r.2)

  pub leads_join : (p : ℕ) (xs ys : List ℕ) (m e : ℕ) → Leads cells p xs m → Leads cells m ys e → Leads cells p (xs ++ ys) e
  leads_join p [] ys m e l k = subst (λ q. Leads cells q ys e) (sym l) k
  leads_join p (x ∷ xs) ys m e l k = (l.0, leads_join (cell_at cells x).next xs ys m e l.1 k)

-- cells that are as before
module _ (before after : List Cell) where
  pub leads_kept : (p : ℕ) (xs : List ℕ) (e : ℕ) → ((q : ℕ) → 0 < times q xs → (cell_at after q).next ≡ (cell_at before q).next) → Leads before p xs e → Leads after p xs e
  leads_kept p [] e same l = l
  leads_kept p (x ∷ xs) e same l =
      (l.0, subst (λ q. Leads after q xs e) (sym (same x (omega (arith, times_here x xs)))) (leads_kept (cell_at before x).next xs e (λ q h. same q (omega arith)) l.1))

  pub places_kept : (p n : ℕ) → ((q : ℕ) → 0 < times q (places before p n) → (cell_at after q).next ≡ (cell_at before q).next) → places after p n ≡ places before p n
  places_kept p n same = let l = leads_places before p n in places_leads after p n (places before p n) l.0 (sym (length_places before p n)) (leads_kept p (places before p n) l.0 same l.1)

  pub rows_kept : (xs : List ℕ) → ((q : ℕ) → 0 < times q xs → (cell_at after q).row ≡ (cell_at before q).row) → rows_at after xs ≡ rows_at before xs
  rows_kept [] same = refl
  rows_kept (x ∷ xs) same = rw (same x (omega (arith, times_here x xs)), rows_kept xs (λ q h. same q (omega arith)))
