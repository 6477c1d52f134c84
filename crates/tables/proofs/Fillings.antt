-- Places filled by a walk. Assumes nothing.
use Rattle.std.proofs.Common.{◌≡◌, Bool, true, false, cond, ◌&&◌, ltb, List, [], ◌∷◌, ◌++◌, map, length, set, fold, sym, refl, ap, ◌∙◌, append_assoc, arith, length-append, ltb-false, ltb-true}
use Rattle.std.proofs.lemmas.List.{length_push}
use Rattle.labels.specs.Kind.{Kind}
use Rattle.stores.specs.declared.rows.Row.{Row}
use Rattle.tables.specs.declared.places.Filling.{Filling}
use Rattle.tables.specs.declared.queries.Place.{Place}
use Rattle.tables.specs.Queries.{matches, matching, place}
use Rattle.tables.specs.Outcomes.{filled}
use Rattle.tables.specs.Fills.{put, filled_by}

module _ {L : Type 0} (k : Kind L) where
  one_named : (b : Bool) (v w : Filling L) → w.places.ghost_name ≡ v.places.ghost_name → (cond b w v).places.ghost_name ≡ v.places.ghost_name
  one_named true v w e = e
  one_named false v w e = refl

  pub same_name : (rs : List Row) (v : Filling L) → (fold (filled_by k) v rs).places.ghost_name ≡ v.places.ghost_name
  same_name [] v = refl
  same_name (r ∷ rs) v = same_name rs (filled_by k v r) ∙ one_named (matches v.predicate r && ltb v.next (length v.places.now)) v _ refl

  set_next : (ds : List (Place L)) (x y : Place L) (ps : List (Place L)) → set (ds ++ y ∷ ps) (length ds) x ≡ (ds ++ x ∷ []) ++ ps
  set_next [] x y ps = refl
  set_next (d ∷ ds) x y ps = ap (λ zs. d ∷ zs) (set_next ds x y ps)

  filled_none : {X : Type 0} (xs : List X) → filled xs [] ≡ []
  filled_none [] = refl
  filled_none (x ∷ xs) = refl

  -- the places before the next one are filled, the others are left
  abbrev Fills : List Row → Type 0
  Fills rs = (v : Filling L) (done left : List (Place L)) → v.places.now ≡ done ++ left → v.next ≡ length done →
      (fold (filled_by k) v rs).places.now ≡ done ++ filled (map (place k v.«record».now) (matching v.predicate rs)) left

  one_filled : (r : Row) (rs : List Row) → Fills rs → (v : Filling L) (done left : List (Place L)) → v.places.now ≡ done ++ left → v.next ≡ length done → (b c : Bool) → ltb v.next (length v.places.now) ≡ c →
      (fold (filled_by k) (cond (b && c) (put k v r) v) rs).places.now ≡ done ++ filled (map (place k v.«record».now) (cond b (r ∷ matching v.predicate rs) (matching v.predicate rs))) left
  one_filled r rs ih v done left e n false c is = ih v done left e n
  one_filled r rs ih v done [] e n true false is = ih v done [] e n ∙ ap (λ zs. done ++ zs) (filled_none _)
  one_filled r rs ih v done [] e n true true is =
      absurd (omega (arith, ltb-true _ _ is, n, ap length e, length-append done []))
  one_filled r rs ih v done (y ∷ left) e n true false is =
      absurd (omega (arith, ltb-false _ _ is, n, ap length e, length-append done (y ∷ left)))
  one_filled r rs ih v done (y ∷ left) e n true true is =
      let x = place k v.«record».now r in
      ih (put k v r) (done ++ x ∷ []) left (rw (e, n) (set_next done x y left)) (rw n (sym (length_push done x))) ∙ append_assoc done (x ∷ []) _

  fills : (rs : List Row) → Fills rs
  fills [] v done left e n = e
  fills (r ∷ rs) v done left e n = one_filled r rs (fills rs) v done left e n (matches v.predicate r) _ refl

  pub fills_first : (rs : List Row) (v : Filling L) → v.next ≡ 0 → (fold (filled_by k) v rs).places.now ≡ filled (map (place k v.«record».now) (matching v.predicate rs)) v.places.now
  fills_first rs v n = fills rs v [] v.places.now refl n
