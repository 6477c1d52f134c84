-- Stretches laid out one by one. Assumes nothing.
use Rattle.std.proofs.Common.{◌≡◌, ℕ, suc, ◌+◌, ◌≤◌, List, [], ◌∷◌, map, length, take, drop, sum, refl, ap, arith, length-drop}
use Rattle.std.proofs.lemmas.List.{length-take-le}
use Rattle.std.proofs.lemmas.List.Sums.{sum_by-cons}
use Rattle.stores.specs.declared.rows.Row.{Row}
use Rattle.stores.specs.Layout.{new_tables}
use Rattle.packed.specs.declared.stretch.Stretch.{Stretch}
use Rattle.packed.specs.Stretches.{table_in, tables_of, InOrder, empty_stretches}

pub length_empty : (start : ℕ) (ls : List ℕ) → length (empty_stretches start ls) ≡ length ls
length_empty start [] = refl
length_empty start (l ∷ ls) = ap suc (length_empty (start + l) ls)

-- as many rows lent as the limits come to
empty_laid : (start : ℕ) (ls : List ℕ) (rows : List Row) → start + sum ls ≤ length rows → InOrder start rows (empty_stretches start ls) × (map (table_in rows) (empty_stretches start ls) ≡ new_tables ls)
empty_laid start [] rows h = (tt, refl)
empty_laid start (l ∷ ls) rows h =
    let s : sum (l ∷ ls) ≡ l + sum ls = sum_by-cons (λ n. n) l ls in
    let rest = empty_laid (start + l) ls rows (omega arith) in
    let wide : length (take l (drop start rows)) ≡ l = length-take-le l (drop start rows) (simp length-drop (omega arith)) in
    ((omega arith, record { fits = omega arith; within = omega arith; sound = record { few = omega arith; keys = tt } }, rest.0), rw (wide, rest.1))

pub laid_out : (ls : List ℕ) (ss : List Stretch) (rows : List Row) → ss ≡ empty_stretches 0 ls → sum ls ≤ length rows → InOrder 0 rows ss × (tables_of rows ss ≡ new_tables ls)
laid_out ls ss rows e h = rw e (empty_laid 0 ls rows (omega arith))
