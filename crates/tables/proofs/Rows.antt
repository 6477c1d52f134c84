-- What a walk or a pass makes of all rows. Assumes nothing.
use Rattle.std.proofs.Common.{◌≡◌, ℕ, ◌+◌, ◌-◌, ◌^◌, ◌<◌, ◌≤◌, min, Bool, true, false, cond, not, List, [], ◌∷◌, map, length, ℤ, fold, refl, ap, arith}
use Rattle.labels.specs.Kind.{Kind}
use Rattle.stores.specs.declared.rows.Row.{Row}
use Rattle.stores.specs.declared.rows.Fate.{Fate}
use Rattle.stores.specs.declared.rows.Fate.TheVariants.{Keep, Rewrite, Remove}
use Rattle.stores.specs.Changes.{row, edited, touched, left_by, counts}
use Rattle.tables.specs.declared.scans.SecondLabels.{SecondLabels}
use Rattle.tables.specs.declared.scans.Count.{Count}
use Rattle.tables.specs.declared.scans.Removal.{Removal}
use Rattle.tables.specs.declared.scans.Rewriting.{Rewriting}
use Rattle.tables.specs.declared.queries.Predicate.{Predicate}
use Rattle.tables.specs.Queries.{matches, matching, others, rewritten, join_second}
use Rattle.tables.specs.Scans.{joined, counted, removal, rewriting}

pub labels_joined : {L : Type 0} (k : Kind L) (rs : List Row) (v : SecondLabels L) → (fold (joined k) v rs).label ≡ fold (join_second k v.rule) v.label rs
labels_joined k [] v = refl
labels_joined k (r ∷ rs) v = labels_joined k rs (joined k v r)

-- one row counted, where the count does not reach the end of its range
one_counted : (b : Bool) (n : ℕ) → n + 1 < 2 ^ 64 → (cond b (min (n + 1) (2 ^ 64 - 1)) n ≡ n + cond b 1 0) × (cond b 1 0 ≤ 1)
one_counted true n h = (omega arith, omega arith)
one_counted false n h = (omega arith, omega arith)

one_kept : (b : Bool) (r : Row) (rs : List Row) → length (cond b (r ∷ rs) rs) ≡ cond b 1 0 + length rs
one_kept true r rs = omega arith
one_kept false r rs = omega arith

pub rows_counted : (rs : List Row) (v : Count) → v.count + length rs < 2 ^ 64 → (fold counted v rs).count ≡ v.count + length (matching v.predicate rs)
rows_counted [] v h = omega arith
rows_counted (r ∷ rs) v h =
    let b = matches v.predicate r in
    let one = one_counted b v.count (omega arith) in
    omega (arith, one.0, one_kept b r (matching v.predicate rs), rows_counted rs (counted v r) (omega (arith, one.0, one.1)))

one_removed : (b : Bool) (r : Row) (qs rs : List Row) → qs ≡ rs → left_by (cond b Remove Keep) r qs ≡ cond (not b) (r ∷ rs) rs
one_removed true r qs rs e = e
one_removed false r qs rs e = ap (λ zs. r ∷ zs) e

pub rows_removed : (e : Removal) (rs : List Row) → edited (removal e) rs ≡ others e.predicate rs
rows_removed e [] = refl
rows_removed e (r ∷ rs) = one_removed (matches e.predicate r) r _ _ (rows_removed e rs)

one_rewritten : (b : Bool) (f g : ℤ) (r : Row) (qs rs : List Row) → qs ≡ rs → left_by (cond b (Rewrite f g) Keep) r qs ≡ cond b (row r.key f g) r ∷ rs
one_rewritten true f g r qs rs e = ap (λ zs. row r.key f g ∷ zs) e
one_rewritten false f g r qs rs e = ap (λ zs. r ∷ zs) e

pub rows_rewritten : (e : Rewriting) (rs : List Row) → edited (rewriting e) rs ≡ map (rewritten e.predicate e.first e.second) rs
rows_rewritten e [] = refl
rows_rewritten e (r ∷ rs) = one_rewritten (matches e.predicate r) e.first e.second r _ _ (rows_rewritten e rs)

one_touched : (b : Bool) (f : Fate) → counts f ≡ 1 → counts (cond b f Keep) ≡ cond b 1 0
one_touched true f one = one
one_touched false f one = refl

-- a pass that keeps every row but the matching ones touches as many as match
pub rows_touched : (p : Predicate) (f : Fate) → counts f ≡ 1 → (rs : List Row) → touched (λ r. cond (matches p r) f Keep) rs ≡ length (matching p rs)
rows_touched p f one [] = refl
rows_touched p f one (r ∷ rs) =
    let b = matches p r in
    omega (arith, one_touched b f one, one_kept b r (matching p rs), rows_touched p f one rs)
