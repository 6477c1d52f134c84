-- Keys that rise still do after each change of a table's rows. Assumes nothing.
use Rattle.std.proofs.Common.{◌≡◌, ℕ, zero, suc, ◌+◌, ◌<◌, ◌≤◌, List, [], ◌∷◌, ◌++◌, set, ℤ, Some, ap, subst, arith}
use Rattle.std.specs.List.{slice_get}
use Rattle.stores.specs.declared.rows.Row.{Row}
use Rattle.stores.specs.declared.rows.Fate.{Fate}
use Rattle.stores.specs.declared.rows.Fate.TheVariants.{Keep, Rewrite, Remove}
use Rattle.stores.specs.Tables.{Rising}
use Rattle.stores.specs.Changes.{row, without, left_by, edited}

rising_lower : (low lower high : ℕ) (rs : List Row) → lower ≤ low → Rising low high rs → Rising lower high rs
rising_lower low lower high [] h k = tt
rising_lower low lower high (r ∷ rs) h k = (omega (arith, k.0), k.1, k.2)

pub rising_added : (low high : ℕ) (rs : List Row) (f s : ℤ) → low ≤ high → Rising low high rs → Rising low (high + 1) (rs ++ row (high + 1) f s ∷ [])
rising_added low high [] f s h k = (omega arith, omega arith, tt)
rising_added low high (r ∷ rs) f s h k = (k.0, omega (arith, k.1), rising_added r.key high rs f s k.1 k.2)

pub rising_replaced : (low high : ℕ) (rs : List Row) (place : ℕ) (r : Row) (f s : ℤ) → slice_get rs place ≡ Some r → Rising low high rs → Rising low high (set rs place (row r.key f s))
rising_replaced low high [] place r f s e k = tt
rising_replaced low high (x ∷ rs) zero r f s e k =
    let same : x ≡ r = cc in
    subst (λ n. (low < n) × (n ≤ high) × Rising n high rs) (ap (λ (y : Row). y.key) same) k
rising_replaced low high (x ∷ rs) (suc place) r f s e k = (k.0, k.1, rising_replaced x.key high rs place r f s e k.2)

pub rising_without : (low high : ℕ) (rs : List Row) (place : ℕ) → Rising low high rs → Rising low high (without rs place)
rising_without low high [] zero k = tt
rising_without low high [] (suc place) k = tt
rising_without low high (r ∷ rs) zero k = rising_lower r.key low high rs (omega (arith, k.0)) k.2
rising_without low high (r ∷ rs) (suc place) k = (k.0, k.1, rising_without r.key high rs place k.2)

pub rising_edited : (fate : Row → Fate) (low high : ℕ) (rs : List Row) → Rising low high rs → Rising low high (edited fate rs)
rising_edited fate low high [] k = tt
rising_edited fate low high (r ∷ rs) k = by (fate r) (rising_edited fate r.key high rs k.2)
  where
    by : (b : Fate) → Rising r.key high (edited fate rs) → Rising low high (left_by b r (edited fate rs))
    by Keep rest = (k.0, k.1, rest)
    by (Rewrite f s) rest = (k.0, k.1, rest)
    by Remove rest = rising_lower r.key low high (edited fate rs) (omega (arith, k.0)) rest
