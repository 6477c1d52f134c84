-- A table has no more rows than keys can be given. Assumes nothing.
use Rattle.std.proofs.Common.{ℕ, zero, suc, ◌-◌, ◌≤◌, List, [], ◌∷◌, length, arith}
use Rattle.std.specs.List.{AllByRecursion}
use Rattle.stores.specs.declared.rows.Row.{Row}
use Rattle.stores.specs.Tables.{Table, Rising, Sound, SoundTable, key_limit, rows_in}

rising_few : (low high : ℕ) (rs : List Row) → Rising low high rs → length rs ≤ high - low
rising_few low high [] k = omega arith
rising_few low high (r ∷ rs) k = omega (arith, k.0, k.1, rising_few r.key high rs k.2)

few_in : (ts : List Table) (n : ℕ) → AllByRecursion SoundTable ts → length (rows_in ts n) ≤ key_limit
few_in [] n s = omega arith
few_in (t ∷ ts) zero s = omega (arith, s.0.few, rising_few 0 t.given t.rows s.0.keys)
few_in (t ∷ ts) (suc n) s = few_in ts n s.1

pub few_rows : (ts : List Table) (n : ℕ) → Sound ts → length (rows_in ts n) ≤ key_limit
few_rows ts n s = few_in ts n s.tables
