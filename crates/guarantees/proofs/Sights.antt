-- One table of those that are seen, and its rows. Assumes nothing.
use Rattle.std.proofs.Common.{◌≡◌, ℕ, zero, suc, List, [], ◌∷◌, length, Some, None, Option, sym, refl, ap, ◌∙◌}
use lib.ListN.{length-map}
use Rattle.std.specs.List.{slice_get}
use Rattle.labels.specs.Kind.{Kind}
use Rattle.stores.specs.declared.rows.Row.{Row}
use Rattle.stores.specs.Tables.{Table, count_of, rows_of}
use Rattle.tables.specs.declared.records.TableRecord.{TableRecord}
use Rattle.guarantees.specs.declared.views.TableView.TheVariants.{Missing, Hidden, Rows}
use Rattle.guarantees.proofs.Lists.{over, nth_map}
use Rattle.guarantees.specs.Blanking.{table_view, row_view, blank_row, seen_record, view_table, view_tables}

module _ {L : Type 0} (k : Kind L) (x : L) where
  abbrev pub view_at : Option (TableRecord L) → Option Table → Option (Option Table)
  view_at v None = None
  view_at v (Some t) = Some (view_table k x v t)

  pub nth_view : (rs : List (TableRecord L)) (ts : List Table) (n : ℕ) → slice_get (view_tables k x rs ts) n ≡ view_at (seen_record k x (slice_get rs n)) (slice_get ts n)
  nth_view rs [] n = refl
  nth_view [] (t ∷ ts) zero = refl
  nth_view [] (t ∷ ts) (suc n) = nth_view [] ts n
  nth_view (r ∷ rs) (t ∷ ts) zero = refl
  nth_view (r ∷ rs) (t ∷ ts) (suc n) = nth_view rs ts n

  pub no_table : (v : Option (TableRecord L)) (t : Option Table) → None ≡ count_of t → Missing ≡ table_view (view_at v t)
  no_table v None e = refl
  no_table v (Some t) e = cc

  pub hidden_table : (v : Option (TableRecord L)) (t : Option Table) (m : ℕ) → None ≡ v → Some m ≡ count_of t → Hidden ≡ table_view (view_at v t)
  hidden_table None None m f e = cc
  hidden_table None (Some t) m f e = refl
  hidden_table (Some r) t m f e = cc

  pub seen_table : (v : Option (TableRecord L)) (t : Option Table) (r : TableRecord L) (m : ℕ) → Some r ≡ v → Some m ≡ count_of t → Rows m ≡ table_view (view_at v t)
  seen_table None t r m f e = cc
  seen_table (Some q) None r m f e = cc
  seen_table (Some q) (Some t) r m f e = let same : m ≡ length t.rows = cc in ap Rows (same ∙ sym (length-map t.rows _))

  module _ (place : ℕ) where
    pub no_row : (v : Option (TableRecord L)) (t : Option Table) → None ≡ v → None ≡ row_view (view_at v t) place
    no_row None None e = refl
    no_row None (Some t) e = refl
    no_row (Some r) t e = cc

    pub seen_row : (v : Option (TableRecord L)) (t : Option Table) (r : TableRecord L) (o : Option Row) → Some r ≡ v → o ≡ slice_get (rows_of t) place → over (blank_row k x r) o ≡ row_view (view_at v t) place
    seen_row None t r o e h = cc
    seen_row (Some q) None r o e h = rw h
    seen_row (Some q) (Some t) r o e h = let same : r ≡ q = cc in rw (h, same) (sym (nth_map (blank_row k x q) t.rows place))
