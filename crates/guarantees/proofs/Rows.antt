-- Rows blanked at x. Assumes nothing.
use Rattle.std.proofs.Common.{◌≡◌, ℕ, Bool, true, ◌&&◌, List, [], ◌∷◌, ◌++◌, map, ℤ, pos, Some, None, fold, filter, Option, sym, refl, ap, ◌∙◌, inl, inr}
use Rattle.std.specs.List.{AllByRecursion}
use Rattle.std.proofs.lemmas.Bool.{cases_Bool, cond-true, cond-false}
use Rattle.labels.specs.Kind.{Kind, Lattice}
use Rattle.stores.specs.declared.rows.Row.{Row}
use Rattle.stores.specs.Changes.{row}
use Rattle.tables.specs.declared.records.TableRecord.{TableRecord}
use Rattle.tables.specs.declared.queries.Range.{Range}
use Rattle.tables.specs.declared.queries.Predicate.{Predicate}
use Rattle.tables.specs.Records.{second_label}
use Rattle.tables.specs.Queries.{holds, matches, rewritten, join_second, query_label, place}
use Rattle.guarantees.specs.Blanking.{blank_value, blank_row, blank_place}
use Rattle.guarantees.proofs.Chains.{cond_pair, left_below, right_below}

-- what passes a test is kept, where the test does not see the change
pub kept_map : {A : Type 0} (p : A → Bool) (f : A → A) (xs : List A) → AllByRecursion (λ a. p (f a) ≡ p a) xs → filter p (map f xs) ≡ map f (filter p xs)
kept_map p f [] h = refl
kept_map p f (x ∷ xs) h =
    let ih = kept_map p f xs h.1 in
    rw h.0 (cond_pair (λ a b. a ≡ map f b) (p x) (λ _. ap {B = List _} (λ zs. f x ∷ zs) ih) (λ _. ih))

pub all_map : {A : Type 0} {P Q : A → Type 0} → ((a : A) → P a → Q a) → (xs : List A) → AllByRecursion P xs → AllByRecursion Q xs
all_map f [] h = tt
all_map f (x ∷ xs) h = (f x h.0, all_map f xs h.1)

module _ {L : Type 0} (k : Kind L) (laws : Lattice k) (x : L) where
  pub value_low : (a : L) (v : ℤ) → k.flows a x ≡ true → blank_value k x a v ≡ v
  value_low a v e = cond-true _ _ _ e

  -- a value blanked under what flows to b, and then under b
  pub value_again : (a b : L) (v : ℤ) → k.flows a b ≡ true → blank_value k x b (blank_value k x a v) ≡ blank_value k x b v
  value_again a b v h = elim (cases_Bool (k.flows b x)) [
    | inl e ↦ ap (blank_value k x b) (value_low a v (laws.transitive a b x h e))
    | inr e ↦ cond-false _ _ _ e ∙ sym (cond-false _ _ _ e)
  ]

  module _ (r : TableRecord L) where
    abbrev S : ℤ → L
    S = second_label k r.second

    abbrev B : Row → Row
    B = blank_row k x r

    pub row_again : (v : Row) → B (B v) ≡ B v
    row_again v = ap (λ (z : ℤ). row v.key v.first z) (value_again _ _ _ (laws.reflexive (S v.first)))

    pub rows_again : (vs : List Row) → map B (map B vs) ≡ map B vs
    rows_again [] = refl
    rows_again (v ∷ vs) = cc (row_again v, rows_again vs)

    -- a row added, its second value blanked under what flows to its label
    pub added_same : (n : ℕ) (f g : ℤ) (a : L) → k.flows a (S f) ≡ true → (vs : List Row) →
        map B (vs ++ (row n f g ∷ [])) ≡ map B (map B vs ++ (row n f (blank_value k x a g) ∷ []))
    added_same n f g a h [] = ap (λ (z : ℤ). row n f z ∷ []) (sym (value_again a (S f) g h))
    added_same n f g a h (v ∷ vs) = cc (row_again v, added_same n f g a h vs)

    seconds_same : (q : L) (vs : List Row) → fold (join_second k r.second) q (map B vs) ≡ fold (join_second k r.second) q vs
    seconds_same q [] = refl
    seconds_same q (v ∷ vs) = seconds_same (k.join q (S v.first)) vs

    -- the label of a query does not depend on what is blanked
    pub query_same : (o : Option Range) (vs : List Row) → query_label k r.second o (map B vs) ≡ query_label k r.second o vs
    query_same None vs = refl
    query_same (Some range) vs = seconds_same k.lowest vs

    start_below : (q : L) (vs : List Row) → k.flows (fold (join_second k r.second) q vs) x ≡ true → k.flows q x ≡ true
    start_below q [] h = h
    start_below q (v ∷ vs) h = left_below k laws (start_below (k.join q (S v.first)) vs h)

    abbrev Unseen : Predicate → Row → Type 0
    Unseen p v = matches p (B v) ≡ matches p v

    seconds_below : (p : Predicate) (range : Range) → p.second ≡ Some range → (q : L) (vs : List Row) → k.flows (fold (join_second k r.second) q vs) x ≡ true → AllByRecursion (Unseen p) vs
    seconds_below p range e q [] h = tt
    seconds_below p range e q (v ∷ vs) h = (
      ap (λ (z : ℤ). holds p.key (pos v.key) && (holds p.first v.first && holds p.second z)) (value_low _ _ (right_below k laws (start_below _ vs h))),
      seconds_below p range e (k.join q (S v.first)) vs h,
    )

    no_seconds : (p : Predicate) → p.second ≡ None → (vs : List Row) → AllByRecursion (Unseen p) vs
    no_seconds p e [] = tt
    no_seconds p e (v ∷ vs) = (rw e, no_seconds p e vs)

    matches_by : (p : Predicate) (o : Option Range) → p.second ≡ o → (vs : List Row) → k.flows (query_label k r.second o vs) x ≡ true → AllByRecursion (Unseen p) vs
    matches_by p None e vs h = no_seconds p e vs
    matches_by p (Some range) e vs h = seconds_below p range e k.lowest vs h

    -- where the query's label flows to x, a row matches as its blanked one does
    pub matches_same : (p : Predicate) (vs : List Row) → k.flows (query_label k r.second p.second vs) x ≡ true → AllByRecursion (Unseen p) vs
    matches_same p vs h = matches_by p p.second refl vs h

    pub places_same : (vs : List Row) → map (blank_place k x) (map (place k r) vs) ≡ map (blank_place k x) (map (place k r) (map B vs))
    places_same [] = refl
    places_same (v ∷ vs) = cc (value_again (S v.first) (S v.first) v.second (laws.reflexive (S v.first)), places_same vs)

    -- matching rows written over, their second value blanked under what flows to its label
    pub rewritten_same : (p : Predicate) (f g : ℤ) (a : L) → k.flows a (S f) ≡ true → (vs : List Row) → AllByRecursion (Unseen p) vs →
        map B (map (rewritten p f g) vs) ≡ map B (map (rewritten p f (blank_value k x a g)) (map B vs))
    rewritten_same p f g a e [] h = refl
    rewritten_same p f g a e (v ∷ vs) h =
        let one : B (rewritten p f g v) ≡ B (rewritten p f (blank_value k x a g) (B v)) =
        rw h.0 (cond_pair (λ u u'. B u ≡ B u') (matches p v)
        (λ _. ap (λ (z : ℤ). row v.key f z) (sym (value_again a (S f) g e)))
        (λ _. sym (row_again v))) in
        cc (one, rewritten_same p f g a e vs h.1)
