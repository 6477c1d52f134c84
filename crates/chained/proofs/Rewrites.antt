-- Other values in the row of one cell. Assumes nothing.
use Rattle.std.proofs.Common.{◌≡◌, ℕ, suc, ◌<◌, List, ◌∷◌, length, take, drop, set, ℤ, sym, refl, ap, ◌∙◌, arith, length-set, length-take}
use lib.ListN.{length-map}
use Rattle.std.proofs.lemmas.List.{map-append, set_at, get_or-set_same, get_or-set_other}
use Rattle.stores.specs.declared.rows.Row.{Row}
use Rattle.stores.specs.Changes.{row}
use Rattle.chained.specs.declared.links.Cell.{Cell}
use Rattle.chained.specs.declared.links.Spot.{Spot}
use Rattle.chained.specs.Links.{Links, no_cell, cell_at, used, unused, rows_at, rows_of_chain, times, Ends}
use Rattle.chained.specs.Steps.{values_set, Linked, Relinked, Found}
use Rattle.chained.proofs.Places.{apart}
use Rattle.chained.proofs.Leads.{places_kept, rows_kept}
use Rattle.chained.proofs.Writes.{values_next}
use Rattle.chained.proofs.Spots.{long, cut, here_in, here_there, here_sole}

module _ {cells : List Cell} {l : Links} (ok : Linked cells l) {place : ℕ} {s : Spot} (there : place < l.chain.count) (found : Found (used cells l.chain) place s) (f g : ℤ) where
  abbrev ps : List ℕ
  ps = used cells l.chain

  abbrev after : List Cell
  after = values_set cells s.here f g

  pub same_used : used after l.chain ≡ ps
  same_used = places_kept cells after l.chain.head l.chain.count (λ q h. values_next cells s.here f g q)

  same_unused : unused after l.free ≡ unused cells l.free
  same_unused = places_kept cells after l.free.head l.free.count (λ q h. values_next cells s.here f g q)

  pub rewritten_links : Relinked l l cells after
  rewritten_links = record {
    long = length-set cells s.here _;
    same = λ q. rw (same_used, same_unused);
    rest = λ q h. get_or-set_other cells s.here q _ no_cell (λ o. apart q s.here ps (omega arith) (here_in ok there found) (sym o));
    many = refl;
    limit = refl;
  }

  pub rewritten_ends : Ends after l.chain
  rewritten_ends k e = rw same_used (ok.ends k e)

  -- the rows in other cells
  still : (zs : List ℕ) → times s.here zs ≡ 0 → rows_at after zs ≡ rows_at cells zs
  still zs h = rows_kept cells after zs (λ q j. ap (λ (c : Cell). c.row) (get_or-set_other cells s.here q _ no_cell (apart s.here q zs h j)))

  pub rewritten_rows : rows_of_chain after l.chain ≡ set (rows_of_chain cells l.chain) place (row (cell_at cells s.here).row.key f g)
  rewritten_rows =
      let front : List ℕ = take place ps in
      let back : List ℕ = drop (suc place) ps in
      let parts = cut ok there found in
      let alone = here_sole ok there found in
      let new : Row = row (cell_at cells s.here).row.key f g in
      let written : (cell_at after s.here).row ≡ new = ap (λ (c : Cell). c.row) (get_or-set_same cells s.here _ no_cell (here_there ok there found)) in
      let n : length (rows_at cells front) ≡ place = length-map front _ ∙ simp length-take (omega (arith, long ok there found)) in
      ap (rows_at after) (same_used ∙ parts) ∙ map-append _ front (s.here ∷ back) ∙ rw (still front alone.0, still back alone.1, written)
      (sym (set_at (rows_at cells front) (cell_at cells s.here).row (rows_at cells back) new place n) ∙ ap (λ zs. set zs place new) (sym (ap (rows_at cells) parts ∙ map-append _ front (s.here ∷ back))))
