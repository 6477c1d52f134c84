-- A cell taken out of a chain and put in front of the free ones. Assumes nothing.
use Rattle.std.proofs.Common.{◌≡◌, ℕ, suc, ◌+◌, ◌-◌, ◌<◌, ◌⊎◌, List, ◌∷◌, ◌++◌, length, get_or, take, drop, sym, refl, ap, ◌∙◌, subst, ⊎_elim, add-one, arith, length-append, length-drop, length-set, length-take}
use Rattle.std.proofs.lemmas.List.{length-take-le, get_or_append_left, get_or-take, get_or-set_same, get_or-set_other, map-append, take-map, drop-map}
use Rattle.chained.specs.declared.links.Cell.{Cell}
use Rattle.chained.specs.declared.links.Spot.{Spot}
use Rattle.chained.specs.Links.{Links, no_cell, cell_at, places, used, unused, times, Ends}
use Rattle.chained.specs.Steps.{link_set, Linked, LedOn, Found, Unlinked}
use Rattle.chained.proofs.Places.{times_append, times_at, apart, skip_at}
use Rattle.chained.proofs.Leads.{Leads, leads_places, places_leads, leads_split, leads_join, places_kept, rows_kept}
use Rattle.chained.proofs.Writes.{link_row, leads_past, led_long, led_rows, led_kept, led_still, led_on}
use Rattle.chained.proofs.Spots as spots

module _ {before : List Cell} {l : Links} (ok : Linked before l) {place : ℕ} {s : Spot} (there : place < l.chain.count) (found : Found (used before l.chain) place s)
    {head last : ℕ} {mid : List Cell} (led : LedOn before mid l.chain.head place s.before (cell_at before s.here).next head)
    (lasts : ((place + 1 ≡ l.chain.count) × (last ≡ s.before)) ⊎ ((place + 1 ≡ l.chain.count → ⊥) × (last ≡ l.chain.last))) where
  abbrev ps : List ℕ
  ps = used before l.chain

  abbrev fs : List ℕ
  fs = unused before l.free

  abbrev front : List ℕ
  front = take place ps

  abbrev back : List ℕ
  back = drop (suc place) ps

  abbrev here : ℕ
  here = s.here

  abbrev next : ℕ
  next = (cell_at before here).next

  abbrev after : List Cell
  after = link_set mid here l.free.head

  abbrev left : Links
  left = record {
    chain = record { head = head; last = last; count = l.chain.count - 1; limit = l.chain.limit; given = l.chain.given };
    free = record { head = here; count = l.free.count + 1 };
  }

  long : length ps ≡ l.chain.count
  long = spots.long ok there found

  front_long : length front ≡ place
  front_long = length-take-le place ps (omega (arith, long))

  cut : ps ≡ front ++ here ∷ back
  cut = spots.cut ok there found

  here_sole : (times here front ≡ 0) × (times here back ≡ 0) × (times here fs ≡ 0)
  here_sole = spots.here_sole ok there found

  -- how often a cell stands in the parts
  dealt : (q : ℕ) → times q front + times q (here ∷ back) ≡ times q ps
  dealt q = sym (times_append q front (here ∷ back)) ∙ ap (times q) (sym cut)

  front_end : (k : ℕ) → place ≡ suc k → get_or front k 0 ≡ s.before
  front_end k e = get_or-take place ps k 0 (omega arith) ∙ found.before k e

  -- the cell before is in the front, and there once
  before_sole : (place ≡ 0 → ⊥) → (0 < times s.before front) × (times s.before ps + times s.before fs ≡ 1)
  before_sole later =
      let in-front : 0 < times s.before front = subst (λ q. 0 < times q front) (front_end (place - 1) (omega arith)) (times_at front (place - 1) (omega (arith, front_long))) in
      (in-front, omega (arith, dealt s.before, spots.at_most ok s.before))

  kept : (q : ℕ) → times q ps ≡ 0 → cell_at after q ≡ cell_at before q
  kept q h =
      get_or-set_other mid here q _ no_cell (λ o. apart q here ps h (spots.here_in ok there found) (sym o)) ∙
      led_kept led q (λ later o. apart q s.before ps h (spots.before_in ok there found later) (sym o))

  row_same : (q : ℕ) → (cell_at after q).row ≡ (cell_at before q).row
  row_same q = link_row mid here l.free.head q ∙ led_rows led q

  cells_left : used after left.chain ≡ front ++ back
  cells_left =
      let way = leads_places before l.chain.head l.chain.count in
      let ways = leads_split before l.chain.head front (here ∷ back) way.0 (subst (λ zs. Leads before l.chain.head zs way.0) cut way.1) in
      let ahead = led_on led front ways.0 front_long front_end
      (λ later. (omega (arith, dealt s.before, (before_sole later).1), spots.before_there ok there found later)) ways.1 in
      let behind = led_still led next back way.0 (λ later. omega (arith, dealt s.before, (before_sole later).0, (before_sole later).1)) ways.2.1 in
      places_leads after head (l.chain.count - 1) (front ++ back) way.0 (simp (length-append, length-take, length-drop) (omega (arith, long)))
      (leads_join after head front back next way.0 (leads_past mid here _ head front next here_sole.0 ahead) (leads_past mid here _ next back way.0 here_sole.1 behind))

  cells_free : unused after left.free ≡ here ∷ fs
  cells_free =
      let on : (cell_at after here).next ≡ l.free.head = ap (λ (c : Cell). c.next) (get_or-set_same mid here _ no_cell (rw (led_long led) (spots.here_there ok there found))) in
      let rest : places after l.free.head l.free.count ≡ fs = places_kept before after l.free.head l.free.count (λ q h. ap (λ (c : Cell). c.next) (kept q (omega (arith, spots.at_most ok q)))) in
      ap (places after here) (add-one l.free.count) ∙ ap (λ zs. here ∷ zs) (rw on rest)

  ends_left : Ends after left.chain
  ends_left k e = rw cells_left (⊎_elim at_end at_front lasts)
    where
      at_end : (place + 1 ≡ l.chain.count) × (last ≡ s.before) → get_or (front ++ back) k 0 ≡ last
      at_end h = get_or_append_left front back 0 k (omega (arith, front_long)) ∙ front_end k (omega arith) ∙ sym h.1

      at_front : (place + 1 ≡ l.chain.count → ⊥) × (last ≡ l.chain.last) → get_or (front ++ back) k 0 ≡ last
      at_front h = sym (skip_at here front back k (omega (arith, front_long))) ∙ ap (λ zs. get_or zs (suc k) 0) (sym cut) ∙ ok.ends (suc k) (omega arith) ∙ sym h.1

  unlinked : Unlinked l left place before after
  unlinked = record {
    links = record {
      long = length-set mid here _ ∙ led_long led;
      same = λ q. rw (cells_left, cells_free) (omega (arith, dealt q, times_append q front back));
      rest = λ q h. kept q (omega arith);
      many = omega arith;
      limit = refl;
    };
    ends = ends_left;
    less = omega arith;
    given = refl;
    cells = cells_left;
    rows = rw cells_left (rows_kept before after (front ++ back) (λ q h. row_same q) ∙ map-append _ front back ∙ rw (take-map (λ p. (cell_at before p).row) place ps, drop-map (λ p. (cell_at before p).row) (suc place) ps));
  }

  pub unlinked_by : {cells : List Cell} → cells ≡ after → Unlinked l left place before cells
  unlinked_by e = rw e unlinked
