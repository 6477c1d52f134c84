-- Tables blanked at x, with an empty one in the place of each that is blanked whole, so that requests can be asked of them. Assumes nothing.
use Rattle.std.proofs.Common.{◌≡◌, ℕ, zero, suc, true, false, cond, List, [], ◌∷◌, map, length, set, Some, None, Option, sym, refl, ap, ◌∙◌, inl, inr}
use Rattle.std.specs.List.{slice_get}
use Rattle.std.proofs.lemmas.Bool.{cases_Bool, cond-true, cond-false}
use Rattle.labels.specs.Kind.{Kind, Lattice}
use Rattle.stores.specs.Tables.{Table}
use Rattle.stores.specs.Changes.{with_rows}
use Rattle.stores.proofs.Puts.{set_nth}
use Rattle.tables.specs.declared.records.TableRecord.{TableRecord}
use Rattle.guarantees.specs.Blanking.{blank_row, seen_record, view_table, view_tables}
use Rattle.guarantees.proofs.Rows.{rows_again}

abbrev pub empty : Table
empty = record { limit = 0; given = 0; rows = [] }

module _ {L : Type 0} (k : Kind L) (laws : Lattice k) (x : L) where
  -- the rows of a table blanked
  abbrev pub shown : TableRecord L → Table → Table
  shown r t = with_rows t (map (blank_row k x r) t.rows)

  abbrev pub mask : TableRecord L → Table → Table
  mask r t = cond (k.flows r.table x) (shown r t) empty

  abbrev pub masks : List (TableRecord L) → List Table → List Table
  masks rs [] = []
  masks [] (t ∷ ts) = empty ∷ masks [] ts
  masks (r ∷ rs) (t ∷ ts) = mask r t ∷ masks rs ts

  pub shown_again : (r : TableRecord L) (t : Table) → shown r (shown r t) ≡ shown r t
  shown_again r t = ap (with_rows t) (rows_again k laws x r t.rows)

  mask_again : (r : TableRecord L) (t : Table) → mask r (mask r t) ≡ mask r t
  mask_again r t = elim (cases_Bool (k.flows r.table x)) [ inl e ↦ rw e (shown_again r t) | inr e ↦ rw e ]

  pub masks_again : (rs : List (TableRecord L)) (ts : List Table) → masks rs (masks rs ts) ≡ masks rs ts
  masks_again [] [] = refl
  masks_again [] (t ∷ ts) = cc (masks_again [] ts)
  masks_again (r ∷ rs) [] = refl
  masks_again (r ∷ rs) (t ∷ ts) = cc (mask_again r t, masks_again rs ts)

  pub masks_length : (rs : List (TableRecord L)) (ts : List Table) → length (masks rs ts) ≡ length ts
  masks_length [] [] = refl
  masks_length [] (t ∷ ts) = ap suc (masks_length [] ts)
  masks_length (r ∷ rs) [] = refl
  masks_length (r ∷ rs) (t ∷ ts) = ap suc (masks_length rs ts)

  module _ (r : TableRecord L) where
    pub nth_masks : (rs : List (TableRecord L)) (ts : List Table) (n : ℕ) (t : Table) → slice_get rs n ≡ Some r → slice_get ts n ≡ Some t → slice_get (masks rs ts) n ≡ Some (mask r t)
    nth_masks [] ts n t e f = cc
    nth_masks (q ∷ rs) [] n t e f = cc
    nth_masks (q ∷ rs) (u ∷ ts) zero t e f = cc
    nth_masks (q ∷ rs) (u ∷ ts) (suc n) t e f = nth_masks rs ts n t e f

    pub set_masks : (rs : List (TableRecord L)) (ts : List Table) (n : ℕ) (u : Table) → slice_get rs n ≡ Some r → masks rs (set ts n u) ≡ set (masks rs ts) n (mask r u)
    set_masks [] ts n u e = cc
    set_masks (q ∷ rs) [] n u e = refl
    set_masks (q ∷ rs) (t ∷ ts) zero u e = cc
    set_masks (q ∷ rs) (t ∷ ts) (suc n) u e = cc (set_masks rs ts n u e)

    -- a table that is blanked whole may be changed
    pub hidden_set : (rs : List (TableRecord L)) (ts : List Table) (n : ℕ) (t u : Table) → slice_get rs n ≡ Some r → slice_get ts n ≡ Some t → k.flows r.table x ≡ false → masks rs (set ts n u) ≡ masks rs ts
    hidden_set rs ts n t u e f h =
        set_masks rs ts n u e ∙ set_nth (masks rs ts) n (mask r u) (nth_masks rs ts n t e f ∙ ap (λ (z : Table). Some z) (cond-false _ _ _ h ∙ sym (cond-false _ _ _ h)))

    -- a table that is seen may be changed in blanked tables, if it looks the same
    pub seen_set : (rs : List (TableRecord L)) (ts : List Table) (n : ℕ) (u v : Table) → slice_get rs n ≡ Some r → k.flows r.table x ≡ true → shown r u ≡ shown r v → masks rs (set ts n u) ≡ masks rs (set (masks rs ts) n v)
    seen_set rs ts n u v e low same =
        let m : mask r u ≡ mask r v = cond-true _ _ _ low ∙ same ∙ sym (cond-true _ _ _ low) in
        rw (set_masks rs ts n u e, set_masks rs (masks rs ts) n v e, masks_again rs ts, m)

    pub nth_shown : (rs : List (TableRecord L)) (ts : List Table) (n : ℕ) (t : Table) → slice_get rs n ≡ Some r → slice_get ts n ≡ Some t → k.flows r.table x ≡ true → slice_get (masks rs ts) n ≡ Some (shown r t)
    nth_shown rs ts n t e f low = nth_masks rs ts n t e f ∙ ap (λ (z : Table). Some z) (cond-true _ _ _ low)

  -- what is seen of tables, from the blanked ones
  abbrev pub unmask : List (TableRecord L) → List Table → List (Option Table)
  unmask rs [] = []
  unmask [] (t ∷ ts) = None ∷ unmask [] ts
  unmask (r ∷ rs) (t ∷ ts) = cond (k.flows r.table x) (Some t) None ∷ unmask rs ts

  unmask_one : (r : TableRecord L) (t : Table) → view_table k x (seen_record k x (Some r)) t ≡ cond (k.flows r.table x) (Some (mask r t)) None
  unmask_one r t = elim (cases_Bool (k.flows r.table x)) [ inl e ↦ rw e | inr e ↦ rw e ]

  pub unmasked : (rs : List (TableRecord L)) (ts : List Table) → view_tables k x rs ts ≡ unmask rs (masks rs ts)
  unmasked [] [] = refl
  unmasked [] (t ∷ ts) = cc (unmasked [] ts)
  unmasked (r ∷ rs) [] = refl
  unmasked (r ∷ rs) (t ∷ ts) = cc (unmask_one r t, unmasked rs ts)
