-- The cells of one table, and the cell of one of its rows. Assumes nothing.
use Rattle.std.proofs.Common.{◌≡◌, ℕ, suc, ◌+◌, ◌-◌, ◌<◌, ◌≤◌, cond, ltb, List, ◌∷◌, ◌++◌, length, get_or, take, drop, refl, ap, ◌∙◌, subst, arith}
use lib.ListN.{length-map}
use Rattle.std.proofs.ByRecursion.{All-from_get_or}
use Rattle.std.proofs.lemmas.List.{get_or-map}
use Rattle.stores.specs.Tables.{Table}
use Rattle.chained.specs.declared.links.Cell.{Cell}
use Rattle.chained.specs.declared.links.Chain.{Chain}
use Rattle.chained.specs.declared.links.Spot.{Spot}
use Rattle.chained.specs.Links.{Links, no_cell, cell_at, used, unused, rows_of_chain, table_in, times, room, Ends}
use Rattle.chained.specs.Steps.{held, Inside, Linked, Relinked, Rewritten, Found}
use Rattle.chained.proofs.Places.{times_at, room_le, room_there, length_places, sole, cut_at}

pub rows_long : (cells : List Cell) (c : Chain) → length (rows_of_chain cells c) ≡ c.count
rows_long cells c = length-map (used cells c) _ ∙ length_places cells c.head c.count

pub row_found : (cells : List Cell) (c : Chain) {place : ℕ} {s : Spot} → place < c.count → Found (used cells c) place s → get_or (rows_of_chain cells c) place no_cell.row ≡ (cell_at cells s.here).row
row_found cells c {place} there found = get_or-map (λ p. (cell_at cells p).row) (used cells c) place 0 no_cell.row (omega (arith, length_places cells c.head c.count)) ∙ ap (λ p. (cell_at cells p).row) found.here

pub room_same : (before after : List Cell) (q : ℕ) → length after ≡ length before → room after q ≡ room before q
room_same before after q e = ap (λ n. cond (ltb q n) 1 0) e

module _ {cells : List Cell} {l : Links} (ok : Linked cells l) where
  abbrev ps : List ℕ
  ps = used cells l.chain

  abbrev fs : List ℕ
  fs = unused cells l.free

  pub at_most : (q : ℕ) → held cells l q ≤ 1
  at_most q = omega (arith, ok.once q, room_le cells q)

  pub in_there : (q : ℕ) → 0 < held cells l q → q < length cells
  in_there q h = room_there cells q (held cells l q) h (ok.once q)

  pub inside : Inside cells l.chain
  inside = All-from_get_or (λ p. p < length cells) ps 0 (λ k h. in_there (get_or ps k 0) (omega (arith, times_at ps k h)))

  -- nothing changes
  pub same_links : Relinked l l cells cells
  same_links = record { long = refl; same = λ q. refl; rest = λ q h. refl; many = refl; limit = refl }

  pub unchanged : {Takes : Table → Table → Type 0} → Takes (table_in cells l.chain) (table_in cells l.chain) → Rewritten Takes l l cells cells
  unchanged t = record { links = same_links; ends = ok.ends; within = ok.within; takes = t }

  -- what holds of the table and the free cells holds when they are linked anew
  pub linked_after : (m : Links) (after : List Cell) → Relinked l m cells after → Ends after m.chain → m.chain.count ≤ m.chain.limit → Linked after m
  linked_after m after r e w = record {
    ends = e;
    within = w;
    once = λ q. omega (arith, r.same q, ok.once q, room_same cells after q r.long);
    spare = omega (arith, r.many, r.limit, ok.spare);
    small = omega (arith, r.many, ok.small);
  }

  -- the cell of a row
  module _ {place : ℕ} {s : Spot} (there : place < l.chain.count) (found : Found ps place s) where
    pub long : length ps ≡ l.chain.count
    long = length_places cells l.chain.head l.chain.count

    pub cut : ps ≡ take place ps ++ s.here ∷ drop (suc place) ps
    cut = cut_at ps place (omega (arith, long)) ∙ ap (λ p. take place ps ++ p ∷ drop (suc place) ps) found.here

    pub here_in : 0 < times s.here ps
    here_in = subst (λ q. 0 < times q ps) found.here (times_at ps place (omega (arith, long)))

    pub here_there : s.here < length cells
    here_there = in_there s.here (omega (arith, here_in))

    pub here_sole : (times s.here (take place ps) ≡ 0) × (times s.here (drop (suc place) ps) ≡ 0) × (times s.here fs ≡ 0)
    here_sole = sole s.here (take place ps) (drop (suc place) ps) fs (subst (λ zs. times s.here zs + times s.here fs ≤ 1) cut (at_most s.here))

    pub before_in : (place ≡ 0 → ⊥) → 0 < times s.before ps
    before_in later = subst (λ q. 0 < times q ps) (found.before (place - 1) (omega arith)) (times_at ps (place - 1) (omega (arith, long)))

    pub before_there : (place ≡ 0 → ⊥) → s.before < length cells
    before_there later = in_there s.before (omega (arith, before_in later))

pub links_twice : {l m n : Links} {before mid after : List Cell} → Relinked l m before mid → Relinked m n mid after → Relinked l n before after
links_twice a b = record {
  long = b.long ∙ a.long;
  same = λ q. b.same q ∙ a.same q;
  rest = λ q h. b.rest q (a.same q ∙ h) ∙ a.rest q h;
  many = b.many ∙ a.many;
  limit = b.limit ∙ a.limit;
}
