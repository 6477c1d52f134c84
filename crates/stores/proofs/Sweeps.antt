-- A pass from the last row to the first. Assumes nothing.
use Rattle.std.proofs.Common.{◌≡◌, ℕ, zero, suc, ◌+◌, ◌<◌, Bool, List, [], ◌∷◌, ◌++◌, length, take, drop, set, ℤ, Some, None, Option, sym, refl, ap, ◌∙◌, add_comm, zero-add, arith}
use Rattle.std.specs.List.{slice_get}
use Rattle.std.proofs.lemmas.List.{take_all, drop_all, append-nil}
use Rattle.stores.specs.declared.rows.Row.{Row}
use Rattle.stores.specs.declared.rows.Fate.{Fate}
use Rattle.stores.specs.declared.rows.Fate.TheVariants.{Keep, Rewrite, Remove}
use Rattle.stores.specs.Tables.{Table, rows_of, rows_in, row_at}
use Rattle.stores.specs.Changes.{Changed, changed, row, rows_put, without, replacing, removing, edited, touched}
use Rattle.stores.proofs.Puts.{same_put, in_put, put_put}

-- the first rows of a list up to and with the row at place k, whatever follows
module _ (ys : List Row) where
  nth_front : (xs : List Row) (k : ℕ) → k < length xs → slice_get (take (suc k) xs ++ ys) k ≡ slice_get xs k
  nth_front [] k h = absurd (omega arith)
  nth_front (x ∷ xs) zero h = refl
  nth_front (x ∷ xs) (suc k) h = nth_front xs k (omega arith)

  take_row : (xs : List Row) (k : ℕ) (r : Row) → slice_get xs k ≡ Some r → take (suc k) xs ++ ys ≡ take k xs ++ r ∷ ys
  take_row [] k r e = cc
  take_row (x ∷ xs) zero r e = cc
  take_row (x ∷ xs) (suc k) r e = ap (λ zs. x ∷ zs) (take_row xs k r e)

  set_row : (xs : List Row) (k : ℕ) (r : Row) → k < length xs → set (take (suc k) xs ++ ys) k r ≡ take k xs ++ r ∷ ys
  set_row [] k r h = absurd (omega arith)
  set_row (x ∷ xs) zero r h = refl
  set_row (x ∷ xs) (suc k) r h = ap (λ zs. x ∷ zs) (set_row xs k r (omega arith))

  without_row : (xs : List Row) (k : ℕ) → k < length xs → without (take (suc k) xs ++ ys) k ≡ take k xs ++ ys
  without_row [] k h = absurd (omega arith)
  without_row (x ∷ xs) zero h = refl
  without_row (x ∷ xs) (suc k) h = ap (λ zs. x ∷ zs) (without_row xs k (omega arith))

drop_row : (xs : List Row) (k : ℕ) (r : Row) → slice_get xs k ≡ Some r → drop k xs ≡ r ∷ drop (suc k) xs
drop_row [] k r e = cc
drop_row (x ∷ xs) zero r e = cc
drop_row (x ∷ xs) (suc k) r e = drop_row xs k r e

nth_there : (xs : List Row) (k : ℕ) → k < length xs → None ≡ slice_get xs k → ⊥
nth_there [] k h e = omega arith
nth_there (x ∷ xs) zero h e = let z : ◌≡◌ {A = ℕ} 0 1 = cc in omega arith
nth_there (x ∷ xs) (suc k) h e = nth_there xs k (omega arith) e

table_there : (o : Option Table) (k : ℕ) → k < length (rows_of o) → (t : Table) × (o ≡ Some t)
table_there None k h = absurd (omega arith)
table_there (Some t) k h = (t, refl)

module _ (fate : Row → Fate) (ts : List Table) (n : ℕ) where
  abbrev rows : List Row
  rows = rows_in ts n

  -- the pass once the rows from place k on are decided
  abbrev pub passed : ℕ → Changed ℕ
  passed k = changed (touched fate (drop k rows)) (rows_put ts n (take k rows ++ edited fate (drop k rows)))

  pub passed_none : (k : ℕ) → k ≡ length rows → changed 0 ts ≡ passed k
  passed_none k e = rw (drop_all k rows (omega arith), take_all k rows (omega arith), append-nil) (ap (changed 0) (same_put ts n))

  -- one row more, at place k
  module _ (p k : ℕ) (next : p ≡ suc k) (within : k < length rows) (count : ℕ) (before : List Table) (so_far : changed count before ≡ passed p) where
    abbrev rest : List Row
    rest = edited fate (drop (suc k) rows)

    tables_are : before ≡ rows_put ts n (take (suc k) rows ++ rest)
    tables_are = ap (λ (c : Changed ℕ). c.tables) (so_far ∙ ap passed next)

    count_is : count ≡ touched fate (drop (suc k) rows)
    count_is = ap (λ (c : Changed ℕ). c.answer) (so_far ∙ ap passed next)

    rows_are : rows_in before n ≡ take (suc k) rows ++ rest
    rows_are = let t = table_there (slice_get ts n) k within in rw tables_are (in_put ts n t.0 t.1 (take (suc k) rows ++ rest))

    put_over : (qs : List Row) → rows_put before n qs ≡ rows_put ts n qs
    put_over qs = let t = table_there (slice_get ts n) k within in rw tables_are (put_put ts n t.0 t.1 (take (suc k) rows ++ rest) qs)

    row_is : row_at before n k ≡ slice_get rows k
    row_is = rw rows_are (nth_front rest rows k within)

    pub no_gap : None ≡ row_at before n k → ⊥
    no_gap e = nth_there rows k within (e ∙ row_is)

    module _ (r : Row) (read : Some r ≡ row_at before n k) where
      here : slice_get rows k ≡ Some r
      here = sym row_is ∙ sym read

      pub turn_keep : Keep ≡ fate r → changed count before ≡ passed k
      turn_keep e = rw (drop_row rows k r here, ← e, zero-add, count_is, tables_are, take_row rest rows k r here)

      -- the row gives way to others
      turn : (gs qs : List Row) (after : List Table) → drop k rows ≡ r ∷ drop (suc k) rows → edited fate (drop k rows) ≡ gs → touched fate (drop k rows) ≡ 1 + touched fate (drop (suc k) rows) →
          after ≡ rows_put before n qs → qs ≡ take k rows ++ gs → changed (count + 1) after ≡ passed k
      turn gs qs after d e m p q = rw (p, put_over qs, q, e, m, count_is, add_comm)

      pub turn_rewrite : (f s : ℤ) (b : Bool) (after : List Table) → Rewrite f s ≡ fate r → changed b after ≡ replacing before n k f s → changed (count + 1) after ≡ passed k
      turn_rewrite f s b after e h =
          let d = drop_row rows k r here in
          turn (row r.key f s ∷ rest) (set (rows_in before n) k (row r.key f s)) after d (rw (d, ← e)) (rw (d, ← e))
          (ap (λ (c : Changed Bool). c.tables) h ∙ rw (← read)) (rw rows_are (set_row rest rows k (row r.key f s) within))

      pub turn_remove : (b : Bool) (after : List Table) → Remove ≡ fate r → changed b after ≡ removing before n k → changed (count + 1) after ≡ passed k
      turn_remove b after e h =
          let d = drop_row rows k r here in
          turn rest (without (rows_in before n) k) after d (rw (d, ← e)) (rw (d, ← e))
          (ap (λ (c : Changed Bool). c.tables) h ∙ rw (← read)) (rw rows_are (without_row rest rows k within))
