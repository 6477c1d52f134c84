-- No change of a store touches a limit. Assumes nothing.
use Rattle.std.proofs.Common.{◌≡◌, ℕ, zero, suc, ◌+◌, Bool, true, false, cond, leb, List, [], ◌∷◌, length, set, ℤ, Some, None, Ok, Err, Option, Result, refl, ap}
use Rattle.std.specs.List.{slice_get}
use Rattle.stores.specs.declared.rows.Row.{Row}
use Rattle.stores.specs.declared.rows.Fate.{Fate}
use Rattle.stores.specs.declared.rows.AddRefusal.{AddRefusal}
use Rattle.stores.specs.declared.rows.AddRefusal.TheVariants.{TableFull, KeysSpent}
use Rattle.stores.specs.Tables.{Table, SameLimits, key_limit, row_at}
use Rattle.stores.specs.Changes.{Changed, changed, grown, adding_to, adding, put_rows, rows_put, replacing_row, replacing, removing_row, removing, sweeping}

set_limits : (ts : List Table) (n : ℕ) (t u : Table) → slice_get ts n ≡ Some t → u.limit ≡ t.limit → SameLimits ts (set ts n u)
set_limits [] n t u e l = refl
set_limits (x ∷ ts) zero t u e l = let h : x ≡ t = cc in rw (h, l)
set_limits (x ∷ ts) (suc n) t u e l = ap (λ ls. x.limit ∷ ls) (set_limits ts n t u e l)

put_limits : (ts : List Table) (n : ℕ) (rs : List Row) (o : Option Table) → slice_get ts n ≡ o → SameLimits ts (put_rows o ts n rs)
put_limits ts n rs None e = refl
put_limits ts n rs (Some t) e = set_limits ts n t _ e refl

module _ (ts : List Table) (n : ℕ) where
  rows_limits : (rs : List Row) → SameLimits ts (rows_put ts n rs)
  rows_limits rs = put_limits ts n rs (slice_get ts n) refl

  adding_limits : (f s : ℤ) (o : Option Table) → slice_get ts n ≡ o → SameLimits ts (adding_to o ts n f s).tables
  adding_limits f s None e = refl
  adding_limits f s (Some t) e = either (leb t.limit (length t.rows)) (leb key_limit t.given)
    where
      either : (full spent : Bool) →
          SameLimits ts (cond full (changed {A = Result ℕ AddRefusal} (Err TableFull) ts) (cond spent (changed (Err KeysSpent) ts) (changed (Ok (t.given + 1)) (set ts n (grown t f s))))).tables
      either true spent = refl
      either false true = refl
      either false false = set_limits ts n t (grown t f s) e refl

  replacing_limits : (place : ℕ) (f s : ℤ) (o : Option Row) → SameLimits ts (replacing_row o ts n place f s).tables
  replacing_limits place f s None = refl
  replacing_limits place f s (Some r) = rows_limits _

  removing_limits : (place : ℕ) (o : Option Row) → SameLimits ts (removing_row o ts n place).tables
  removing_limits place None = refl
  removing_limits place (Some r) = rows_limits _

  -- each function that changes a store, by its equation
  module _ (after : List Table) where
    pub add_limits : (r : Result ℕ AddRefusal) (f s : ℤ) → changed r after ≡ adding ts n f s → SameLimits ts after
    add_limits r f s e = rw (ap (λ (c : Changed (Result ℕ AddRefusal)). c.tables) e) (adding_limits f s (slice_get ts n) refl)

    pub replace_limits : (r : Bool) (place : ℕ) (f s : ℤ) → changed r after ≡ replacing ts n place f s → SameLimits ts after
    replace_limits r place f s e = rw (ap (λ (c : Changed Bool). c.tables) e) (replacing_limits place f s (row_at ts n place))

    pub remove_limits : (r : Bool) (place : ℕ) → changed r after ≡ removing ts n place → SameLimits ts after
    remove_limits r place e = rw (ap (λ (c : Changed Bool). c.tables) e) (removing_limits place (row_at ts n place))

    pub sweep_limits : (r : ℕ) (fate : Row → Fate) → changed r after ≡ sweeping fate ts n → SameLimits ts after
    sweep_limits r fate e = rw (ap (λ (c : Changed ℕ). c.tables) e) (rows_limits _)
