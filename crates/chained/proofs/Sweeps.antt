-- A pass along the links of a chain, front to back. Assumes nothing.
use Rattle.std.proofs.Common.{◌≡◌, ℕ, suc, ◌+◌, ◌<◌, ◌≤◌, List, [], ◌∷◌, ◌++◌, length, get_or, take, drop, set, ℤ, sym, ap, ◌∙◌, add-zero, add_assoc, add-one, arith}
use Rattle.std.proofs.lemmas.List.{append_assoc, append-nil, take_all, drop_all, take_more, drop_more, take_more_set, drop-set-lt, take_at, drop_at, length-take-le, get_or_append_left, get_or-take}
use Rattle.stores.specs.declared.rows.Row.{Row}
use Rattle.stores.specs.declared.rows.Fate.{Fate}
use Rattle.stores.specs.declared.rows.Fate.TheVariants.{Keep, Rewrite, Remove}
use Rattle.stores.specs.Changes.{row, without, left_by, edited, counts, touched, sweeping}
use Rattle.chained.specs.declared.links.Cell.{Cell}
use Rattle.chained.specs.declared.links.Chain.{Chain}
use Rattle.chained.specs.declared.links.Free.{Free}
use Rattle.chained.specs.declared.links.Spot.{Spot}
use Rattle.chained.specs.Links.{Links, links, no_cell, cell_at, used, rows_of_chain, Ends}
use Rattle.chained.specs.Steps.{values_set, Linked, Relinked, Rewritten, Found, Unlinked, Alone}
use Rattle.chained.proofs.Places.{next_place, found_next, cut_at, skip_at}
use Rattle.chained.proofs.Spots.{rows_long, linked_after, links_twice, long, here_there, row_found}
use Rattle.chained.proofs.Rewrites.{same_used, rewritten_links, rewritten_ends, rewritten_rows}

-- the rows before a place are decided, and the others are still to be
pub record Decided (fate : Row → Fate) (old new : List Row) (place count : ℕ) : Type 0 where
  pub rows : take place new ++ edited fate (drop place new) ≡ edited fate old
  pub total : count + touched fate (drop place new) ≡ touched fate old

module _ {fate : Row → Fate} {old new : List Row} {place count : ℕ} (h : Decided fate old new place count) where
  all_decided : length new ≤ place → (new ≡ edited fate old) × (count ≡ touched fate old)
  all_decided end =
      let e = drop_all place new end in
      (sym (append-nil new) ∙ ap (λ zs. zs ++ []) (sym (take_all place new end)) ∙ rw e at h.rows, sym (add-zero count) ∙ rw e at h.total)

  -- the next row
  module _ {r : Row} (within : place < length new) (next : get_or new place no_cell.row ≡ r) where
    rest : drop place new ≡ r ∷ drop (place + 1) new
    rest = drop_more new place no_cell.row within ∙ ap (λ x. x ∷ drop (place + 1) new) next

    rows_next : take place new ++ left_by (fate r) r (edited fate (drop (place + 1) new)) ≡ edited fate old
    rows_next = rw rest at h.rows

    total_next : count + (counts (fate r) + touched fate (drop (place + 1) new)) ≡ touched fate old
    total_next = rw rest at h.total

    decided_keep : Keep ≡ fate r → Decided fate old new (place + 1) count
    decided_keep e = record {
      rows = rw (take_more new place no_cell.row within, next, append_assoc) (rw (← e) at rows_next);
      total = omega (arith, rw (← e) at total_next);
    }

    decided_rewrite : (f s : ℤ) → Rewrite f s ≡ fate r → Decided fate old (set new place (row r.key f s)) (place + 1) (count + 1)
    decided_rewrite f s e =
        let same : drop (place + 1) (set new place (row r.key f s)) ≡ drop (place + 1) new = drop-set-lt (place + 1) new place (row r.key f s) (omega arith) in
        record {
          rows = rw (same, take_more_set new place (row r.key f s) within, append_assoc) (rw (← e) at rows_next);
          total = rw (same, add_assoc) (rw (← e) at total_next);
        }

    decided_remove : Remove ≡ fate r → Decided fate old (without new place) place (count + 1)
    decided_remove e =
        let n : length (take place new) ≡ place = length-take-le place new (omega arith) in
        rw (← add-one place) (record {
          rows = rw (take_at (take place new) (drop (place + 1) new) place n, drop_at (take place new) (drop (place + 1) new) place n) (rw (← e) at rows_next);
          total = rw (drop_at (take place new) (drop (place + 1) new) place n, add_assoc) (rw (← e) at total_next);
        })

-- a pass over the rows of a chain after some turns, with the spot of the next row
pub record Halfway (fate : Row → Fate) (before : List Cell) (at : Links) (cells : List Cell) (l : Links) (place count turn : ℕ) (s : Spot) : Type 0 where
  pub links : Relinked at l before cells
  pub ends : Ends cells l.chain
  pub within : l.chain.count ≤ l.chain.limit
  pub given : l.chain.given ≡ at.chain.given
  pub turns : l.chain.count + turn ≡ place + at.chain.count
  pub few : count ≤ turn
  pub found : place < l.chain.count → Found (used cells l.chain) place s
  pub decided : Decided fate (rows_of_chain before at.chain) (rows_of_chain cells l.chain) place count

module _ {fate : Row → Fate} {before : List Cell} {at : Links} (ok : Linked before at) where
  module _ {cells : List Cell} {l : Links} {place count turn : ℕ} {s : Spot} (h : Halfway fate before at cells l place count turn s) where
    linked_still : Linked cells l
    linked_still = linked_after ok l cells h.links h.ends h.within

    pub halfway_all : at.chain.count ≤ turn → Rewritten (Alone (sweeping fate) count) at l before cells
    halfway_all end =
        let d = all_decided h.decided (omega (arith, h.turns, rows_long cells l.chain)) in
        record { links = h.links; ends = h.ends; within = h.within; takes = rw (d.0, d.1, h.links.limit, h.given) }

    module _ (more : turn < at.chain.count) where
      there : place < l.chain.count
      there = omega (arith, h.turns)

      spot_found : Found (used cells l.chain) place s
      spot_found = h.found there

      pub spot_there : s.here < length cells
      spot_there = here_there linked_still there spot_found

      abbrev here : Cell
      here = cell_at cells s.here

      abbrev ps : List ℕ
      ps = used cells l.chain

      rows_within : place < length (rows_of_chain cells l.chain)
      rows_within = omega (arith, rows_long cells l.chain, there)

      row_is : get_or (rows_of_chain cells l.chain) place no_cell.row ≡ here.row
      row_is = row_found cells l.chain there spot_found

      spot_next : place + 1 < l.chain.count → Found ps (place + 1) (record { before = s.here; here = here.next })
      spot_next j = found_next cells l.chain.head l.chain.count there spot_found j

      -- the row behind the next one, in its place
      spot_past : place + 1 < l.chain.count → Found (take place ps ++ drop (suc place) ps) place (record { before = s.before; here = here.next })
      spot_past j =
          let n : length ps ≡ l.chain.count = long linked_still there spot_found in
          let m : length (take place ps) ≡ place = length-take-le place ps (omega (arith, there)) in
          record {
            here =
                sym (skip_at (get_or ps place 0) (take place ps) (drop (suc place) ps) place (omega arith)) ∙ ap (λ zs. get_or zs (suc place) 0) (sym (cut_at ps place (omega arith))) ∙
                next_place cells l.chain.head l.chain.count place (omega arith) ∙ ap (λ p. (cell_at cells p).next) spot_found.here;
            before = λ k i. get_or_append_left (take place ps) (drop (suc place) ps) 0 k (omega arith) ∙ get_or-take place ps k 0 (omega arith) ∙ spot_found.before k i;
          }

      -- a turn, by what becomes of the next row
      keeps : Keep ≡ fate here.row → Halfway fate before at cells l (place + 1) count (turn + 1) (record { before = s.here; here = here.next })
      keeps e = record {
        links = h.links;
        ends = h.ends;
        within = h.within;
        given = h.given;
        turns = omega (arith, h.turns);
        few = omega (arith, h.few);
        found = spot_next;
        decided = decided_keep h.decided rows_within row_is e;
      }

      rewrites : (f g : ℤ) → Rewrite f g ≡ fate here.row → Halfway fate before at (values_set cells s.here f g) l (place + 1) (count + 1) (turn + 1) (record { before = s.here; here = here.next })
      rewrites f g e = record {
        links = links_twice h.links (rewritten_links linked_still there spot_found f g);
        ends = rewritten_ends linked_still there spot_found f g;
        within = h.within;
        given = h.given;
        turns = omega (arith, h.turns);
        few = omega (arith, h.few);
        found = λ j. rw (same_used linked_still there spot_found f g) (spot_next j);
        decided = rw (rewritten_rows linked_still there spot_found f g) (decided_rewrite h.decided rows_within row_is f g e);
      }

      removes : {m : Links} {after : List Cell} → Remove ≡ fate here.row → Unlinked l m place cells after → Halfway fate before at after m place (count + 1) (turn + 1) (record { before = s.before; here = here.next })
      removes e u = record {
        links = links_twice h.links u.links;
        ends = u.ends;
        within = omega (arith, u.less, u.links.limit, h.within);
        given = u.given ∙ h.given;
        turns = omega (arith, h.turns, u.less);
        few = omega (arith, h.few);
        found = λ j. rw u.cells (spot_past (omega (arith, u.less)));
        decided = rw u.rows (decided_remove h.decided rows_within row_is e);
      }

      -- the same, by what the turn leaves in each variable
      module _ (cells' : List Cell) (c' : Chain) (f' : Free) (s' : Spot) (place' count' : ℕ) where
        abbrev After : Type 0
        After = Halfway fate before at cells' (links c' f') place' count' (turn + 1) (record { before = s'.before; here = here.next })

        pub turn_keep : Keep ≡ fate here.row → cells' ≡ cells → c' ≡ l.chain → f' ≡ l.free → s' ≡ record { before = s.here; here = s.here } → place' ≡ place + 1 → count' ≡ count → After
        turn_keep e a b c d i j = rw (a, b, c, d, i, j) (keeps e)

        pub turn_rewrite : (f g : ℤ) → Rewrite f g ≡ fate here.row → cells' ≡ values_set cells s.here f g → c' ≡ l.chain → f' ≡ l.free → s' ≡ record { before = s.here; here = s.here } → place' ≡ place + 1 → count' ≡ count + 1 → After
        turn_rewrite f g e a b c d i j = rw (a, b, c, d, i, j) (rewrites f g e)

        pub turn_remove : {m : Links} {after : List Cell} → Remove ≡ fate here.row → Unlinked l m place cells after → cells' ≡ after → c' ≡ m.chain → f' ≡ m.free → s' ≡ s → place' ≡ place → count' ≡ count + 1 → After
        turn_remove e u a b c d i j = rw (a, b, c, d, i, j) (removes e u)
