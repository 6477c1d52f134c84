-- The first of the free cells, put at the end of a chain. Assumes nothing.
use Rattle.std.proofs.Common.{◌≡◌, ℕ, zero, suc, ◌+◌, ◌-◌, ◌<◌, List, [], ◌∷◌, ◌++◌, length, set, sym, refl, ap, ◌∙◌, subst, arith, length-set}
use Rattle.std.proofs.lemmas.List.{length_push, get_or_push, get_or-set_same, get_or-set_other, map-append}
use Rattle.stores.specs.declared.rows.Row.{Row}
use Rattle.chained.specs.declared.links.Cell.{Cell}
use Rattle.chained.specs.Links.{Links, no_cell, cell_at, places, used, unused, times}
use Rattle.chained.specs.Steps.{Linked, LedOn, Appended}
use Rattle.chained.proofs.Places.{times_append, times_here, times_at, apart, length_places, sole}
use Rattle.chained.proofs.Leads.{leads_places, places_leads, leads_join, places_kept, rows_kept}
use Rattle.chained.proofs.Writes.{leads_past, led_long, led_rows, led_kept, led_on}
use Rattle.chained.proofs.Spots.{at_most, in_there}

places_first : (cells : List Cell) (p n : ℕ) → 0 < n → places cells p n ≡ p ∷ places cells (cell_at cells p).next (n - 1)
places_first cells p zero h = absurd (omega arith)
places_first cells p (suc n) h = let e : n ≡ suc n - 1 = omega arith in ap (λ k. p ∷ places cells (cell_at cells p).next k) e

module _ {before : List Cell} {l : Links} (ok : Linked before l) (space : l.chain.count < l.chain.limit) where
  abbrev ps : List ℕ
  ps = used before l.chain

  abbrev fs : List ℕ
  fs = unused before l.free

  abbrev new : ℕ
  new = l.free.head

  abbrev rest : ℕ
  rest = (cell_at before new).next

  abbrev others : List ℕ
  others = places before rest (l.free.count - 1)

  long : length ps ≡ l.chain.count
  long = length_places before l.chain.head l.chain.count

  -- how often a cell stands among the free ones
  taken : (q : ℕ) → times q fs ≡ times q (new ∷ others)
  taken q = ap (times q) (places_first before new l.free.count (omega (arith, ok.spare)))

  new_sole : (times new [] ≡ 0) × (times new others ≡ 0) × (times new ps ≡ 0)
  new_sole = sole new [] others ps (omega (arith, taken new, at_most ok new))

  new_in : 0 < times new fs
  new_in = omega (arith, taken new, times_here new others)

  pub new_there : new < length before
  new_there = in_there ok new (omega (arith, new_in))

  last_in : (l.chain.count ≡ 0 → ⊥) → 0 < times l.chain.last ps
  last_in some = subst (λ q. 0 < times q ps) (ok.ends (l.chain.count - 1) (omega arith)) (times_at ps (l.chain.count - 1) (omega (arith, long)))

  pub last_there : (l.chain.count ≡ 0 → ⊥) → l.chain.last < length before
  last_there some = in_there ok l.chain.last (omega (arith, last_in some))

  module _ {head : ℕ} {mid : List Cell} (led : LedOn before mid l.chain.head l.chain.count l.chain.last new head) (row : Row) where
    abbrev after : List Cell
    after = set mid new (record { row = row; next = new })

    abbrev grown : Links
    grown = record {
      chain = record { head = head; last = new; count = l.chain.count + 1; limit = l.chain.limit; given = l.chain.given };
      free = record { head = rest; count = l.free.count - 1 };
    }

    row_new : (cell_at after new).row ≡ row
    row_new = ap (λ (c : Cell). c.row) (get_or-set_same mid new _ no_cell (rw (led_long led) new_there))

    kept : (q : ℕ) → (q ≡ new → ⊥) → times q ps ≡ 0 → cell_at after q ≡ cell_at before q
    kept q other h =
        get_or-set_other mid new q _ no_cell other ∙
        led_kept led q (λ some o. apart q l.chain.last ps h (last_in some) (sym o))

    row_same : (q : ℕ) → (q ≡ new → ⊥) → (cell_at after q).row ≡ (cell_at before q).row
    row_same q other = ap (λ (c : Cell). c.row) (get_or-set_other mid new q _ no_cell other) ∙ led_rows led q

    cells_grown : used after grown.chain ≡ ps ++ new ∷ []
    cells_grown =
        let way = leads_places before l.chain.head l.chain.count in
        let ahead = led_on led ps way.0 long ok.ends
        (λ some. (omega (arith, at_most ok l.chain.last), last_there some)) way.1 in
        places_leads after head (l.chain.count + 1) (ps ++ new ∷ []) (cell_at after new).next (omega (arith, long, length_push ps new))
        (leads_join after head ps (new ∷ []) new (cell_at after new).next (leads_past mid new _ head ps new new_sole.2 ahead) (refl, refl))

    cells_free : unused after grown.free ≡ others
    cells_free = places_kept before after rest (l.free.count - 1) (λ q h. ap (λ (c : Cell). c.next) (kept q (apart new q others new_sole.1 h) (omega (arith, taken q, at_most ok q))))

    pub appended : Appended l grown row before after
    appended = record {
      links = record {
        long = length-set mid new _ ∙ led_long led;
        same = λ q. rw (cells_grown, cells_free) (omega (arith, taken q, times_append q ps (new ∷ [])));
        rest = λ q h. kept q (λ o. apart q new fs (omega arith) new_in (sym o)) (omega arith);
        many = omega (arith, ok.spare);
        limit = refl;
      };
      ends = λ k e. rw cells_grown (get_or_push ps new 0 k (omega (arith, long)));
      more = omega arith;
      rows = rw cells_grown (map-append _ ps (new ∷ []) ∙ rw (rows_kept before after ps (λ q h. row_same q (apart new q ps new_sole.2 h)), row_new));
    }
