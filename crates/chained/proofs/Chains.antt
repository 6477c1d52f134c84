-- One chain is linked anew: the others, and the tables in them, stay as they were. Assumes nothing.
use Rattle.std.proofs.Common.{◌≡◌, ℕ, zero, suc, ◌+◌, ◌≤◌, List, [], ◌∷◌, map, set, Some, sym, refl, ap, ◌∙◌, subst, arith}
use Rattle.std.specs.List.{AllByRecursion, slice_get}
use Rattle.stores.specs.Tables.{SoundTable}
use Rattle.chained.specs.declared.links.Cell.{Cell}
use Rattle.chained.specs.declared.links.Chain.{Chain}
use Rattle.chained.specs.declared.links.Free.{Free}
use Rattle.chained.specs.Links.{Links, used, unused, rows_at, rows_of_chain, table_in, times, total, Lies, Laid}
use Rattle.chained.specs.Steps.{held, Linked, Relinked}
use Rattle.chained.proofs.Places.{room_le}
use Rattle.chained.proofs.Leads.{places_kept, rows_kept}
use Rattle.chained.proofs.Spots.{room_same}

-- the chain at an index
module _ (c : Chain) where
  pub lies_at : (cells : List Cell) (cs : List Chain) (n : ℕ) → slice_get cs n ≡ Some c → AllByRecursion (Lies cells) cs → Lies cells c
  lies_at cells [] n e a = let z : ◌≡◌ {A = ℕ} 0 1 = cc in absurd (omega arith)
  lies_at cells (x ∷ cs) zero e a = let same : x ≡ c = cc in subst (Lies cells) same a.0
  lies_at cells (x ∷ cs) (suc n) e a = lies_at cells cs n e a.1

  pub table_at : (cells : List Cell) (cs : List Chain) (n : ℕ) → slice_get cs n ≡ Some c → slice_get (map (table_in cells) cs) n ≡ Some (table_in cells c)
  table_at cells [] n e = let z : ◌≡◌ {A = ℕ} 0 1 = cc in absurd (omega arith)
  table_at cells (x ∷ cs) zero e = let same : x ≡ c = cc in rw same
  table_at cells (x ∷ cs) (suc n) e = table_at cells cs n e

  module _ (f : Chain → ℕ) where
    total_at : (cs : List Chain) (n : ℕ) → slice_get cs n ≡ Some c → f c ≤ total f cs
    total_at [] n e = let z : ◌≡◌ {A = ℕ} 0 1 = cc in absurd (omega arith)
    total_at (x ∷ cs) zero e = let same : x ≡ c = cc in let g : f x ≡ f c = ap f same in omega arith
    total_at (x ∷ cs) (suc n) e = omega (arith, total_at cs n e)

    total_set : (cs : List Chain) (n : ℕ) (d : Chain) → slice_get cs n ≡ Some c → total f (set cs n d) + f c ≡ total f cs + f d
    total_set [] n d e = let z : ◌≡◌ {A = ℕ} 0 1 = cc in absurd (omega arith)
    total_set (x ∷ cs) zero d e = let same : x ≡ c = cc in let g : f x ≡ f c = ap f same in omega arith
    total_set (x ∷ cs) (suc n) d e = omega (arith, total_set cs n d e)

-- no table has more rows than its limit
counts_within : (cells : List Cell) (cs : List Chain) → AllByRecursion (Lies cells) cs → total (λ c. c.count) cs ≤ total (λ c. c.limit) cs
counts_within cells [] a = omega arith
counts_within cells (c ∷ cs) a = omega (arith, a.0.within, counts_within cells cs a.1)

room_left : (cells : List Cell) (cs : List Chain) (n : ℕ) (c : Chain) → slice_get cs n ≡ Some c → AllByRecursion (Lies cells) cs → total (λ d. d.count) cs + c.limit ≤ total (λ d. d.limit) cs + c.count
room_left cells [] n c e a = let z : ◌≡◌ {A = ℕ} 0 1 = cc in absurd (omega arith)
room_left cells (x ∷ cs) zero c e a =
    let same : x ≡ c = cc in
    let j : x.count ≡ c.count = ap (λ (y : Chain). y.count) same in
    let k : x.limit ≡ c.limit = ap (λ (y : Chain). y.limit) same in
    omega (arith, counts_within cells cs a.1)
room_left cells (x ∷ cs) (suc n) c e a = omega (arith, a.0.within, room_left cells cs n c e a.1)

-- what one table and the free cells have to themselves
pub linked_at : (cells : List Cell) (free : Free) (cs : List Chain) (n : ℕ) (c : Chain) → slice_get cs n ≡ Some c → Laid cells free cs → Linked cells (record { chain = c; free = free })
linked_at cells free cs n c e l =
    let lies = lies_at c cells cs n e l.each in
    record {
      ends = lies.ends;
      within = lies.within;
      once = λ q. omega (arith, l.once q, total_at c (λ d. times q (used cells d)) cs n e);
      spare = omega (arith, l.full, room_left cells cs n c e l.each);
      small = omega (arith, l.full, l.small, total_at c (λ d. d.count) cs n e);
    }

module _ (before after : List Cell) (l m : Links) (r : Relinked l m before after) where
  -- a chain of other cells
  module _ (c : Chain) (other : (q : ℕ) → times q (used before c) + held before l q ≤ 1) where
    same_cells : used after c ≡ used before c
    same_cells = places_kept before after c.head c.count (λ q h. ap (λ (x : Cell). x.next) (r.rest q (omega (arith, other q))))

    same_rows : rows_of_chain after c ≡ rows_of_chain before c
    same_rows = ap (rows_at after) same_cells ∙ rows_kept before after (used before c) (λ q h. ap (λ (x : Cell). x.row) (r.rest q (omega (arith, other q))))

    same_table : table_in after c ≡ table_in before c
    same_table = ap (λ rs. record { limit = c.limit; given = c.given; rows = rs }) same_rows

    lies_still : Lies before c → Lies after c
    lies_still s = record { ends = λ k e. rw same_cells (s.ends k e); within = s.within; sound = subst SoundTable (sym same_table) s.sound }

  -- how often a cell stands in chains, before and after
  abbrev was : List Chain → ℕ → ℕ
  was cs q = total (λ c. times q (used before c)) cs

  abbrev is : List Chain → ℕ → ℕ
  is cs q = total (λ c. times q (used after c)) cs

  others_still : (cs : List Chain) → ((q : ℕ) → was cs q + held before l q ≤ 1) → AllByRecursion (Lies before) cs → AllByRecursion (Lies after) cs × ((q : ℕ) → is cs q ≡ was cs q) × (map (table_in after) cs ≡ map (table_in before) cs)
  others_still [] o a = (tt, λ q. refl, refl)
  others_still (c ∷ cs) o a =
      let other : (q : ℕ) → times q (used before c) + held before l q ≤ 1 = λ q. omega (arith, o q) in
      let rest = others_still cs (λ q. omega (arith, o q)) a.1 in
      ((lies_still c other a.0, rest.0), λ q. omega (arith, ap (times q) (same_cells c other), rest.1 q), rw (same_table c other, rest.2))

  module _ (lies : Lies after m.chain) where
    -- the chain at an index linked anew
    changed_at : (cs : List Chain) (n : ℕ) → slice_get cs n ≡ Some l.chain → ((q : ℕ) → times q (unused before l.free) + was cs q ≤ 1) → AllByRecursion (Lies before) cs →
        AllByRecursion (Lies after) (set cs n m.chain) ×
        ((q : ℕ) → is (set cs n m.chain) q + times q (used before l.chain) ≡ was cs q + times q (used after m.chain)) ×
        (map (table_in after) (set cs n m.chain) ≡ set (map (table_in before) cs) n (table_in after m.chain))
    changed_at [] n e o a = let z : ◌≡◌ {A = ℕ} 0 1 = cc in absurd (omega arith)
    changed_at (x ∷ cs) zero e o a =
        let same : x ≡ l.chain = cc in
        let there : (q : ℕ) → times q (used before x) ≡ times q (used before l.chain) = λ q. ap (λ c. times q (used before c)) same in
        let rest = others_still cs (λ q. omega (arith, o q, there q)) a.1 in
        ((lies, rest.0), λ q. omega (arith, rest.1 q, there q), rw rest.2)
    changed_at (x ∷ cs) (suc n) e o a =
        let other : (q : ℕ) → times q (used before x) + held before l q ≤ 1 = λ q. omega (arith, o q, total_at l.chain (λ c. times q (used before c)) cs n e) in
        let rest = changed_at cs n e (λ q. omega (arith, o q)) a.1 in
        ((lies_still x other a.0, rest.0), λ q. omega (arith, ap (times q) (same_cells x other), rest.1 q), rw (same_table x other, rest.2))

    module _ (cs : List Chain) (n : ℕ) (here : slice_get cs n ≡ Some l.chain) (laid : Laid before l.free cs) where
      at_most : (q : ℕ) → times q (unused before l.free) + was cs q ≤ 1
      at_most q = omega (arith, laid.once q, room_le before q)

      pub laid_after : Laid after m.free (set cs n m.chain)
      laid_after =
          let c = changed_at cs n here at_most laid.each in
          record {
            each = c.0;
            once = λ q. omega (arith, c.1 q, laid.once q, r.same q, room_same before after q r.long);
            full = omega (arith, laid.full, r.many, r.limit, total_set l.chain (λ d. d.count) cs n m.chain here, total_set l.chain (λ d. d.limit) cs n m.chain here);
            small = omega (arith, laid.small, r.limit, total_set l.chain (λ d. d.limit) cs n m.chain here);
          }

      pub tables_after : map (table_in after) (set cs n m.chain) ≡ set (map (table_in before) cs) n (table_in after m.chain)
      tables_after = (changed_at cs n here at_most laid.each).2
