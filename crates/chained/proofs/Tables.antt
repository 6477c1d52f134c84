-- One chain whose table is changed as if it stood alone. Assumes nothing.
use Rattle.std.proofs.Common.{◌≡◌, ℕ, ◌+◌, ◌<◌, ◌≤◌, true, false, List, ℤ, Some, None, Ok, Err, ap, ◌∙◌, arith}
use Rattle.std.specs.List.{slice_get}
use Rattle.std.proofs.lemmas.Option.{slice_get-get_or, slice_get_past}
use Rattle.std.proofs.lemmas.Bool.{lt-leb, le-leb}
use Rattle.stores.specs.declared.rows.AddRefusal.TheVariants.{TableFull, KeysSpent}
use Rattle.stores.specs.Tables.{key_limit}
use Rattle.stores.specs.Changes.{row, adding, replacing, removing}
use Rattle.chained.specs.declared.links.Cell.{Cell}
use Rattle.chained.specs.declared.links.Chain.{Chain}
use Rattle.chained.specs.declared.links.Spot.{Spot}
use Rattle.chained.specs.Links.{Links, no_cell, cell_at, used, rows_of_chain}
use Rattle.chained.specs.Steps.{values_set, Linked, Rewritten, Found, Unlinked, Appended, Alone}
use Rattle.chained.proofs.Spots.{rows_long, unchanged, row_found}
use Rattle.chained.proofs.Rewrites.{rewritten_links, rewritten_ends, rewritten_rows}

pub no_row : (cells : List Cell) (c : Chain) (place : ℕ) → c.count ≤ place → slice_get (rows_of_chain cells c) place ≡ None
no_row cells c place h = slice_get_past (rows_of_chain cells c) place (omega (arith, rows_long cells c))

pub row_there : (cells : List Cell) (c : Chain) {place : ℕ} {s : Spot} → place < c.count → Found (used cells c) place s → slice_get (rows_of_chain cells c) place ≡ Some (cell_at cells s.here).row
row_there cells c {place} there found = slice_get-get_or (rows_of_chain cells c) place no_cell.row (omega (arith, rows_long cells c)) ∙ ap Some (row_found cells c there found)

module _ {before : List Cell} {l : Links} (ok : Linked before l) where
  abbrev count : ℕ
  count = l.chain.count

  module _ (f s : ℤ) where
    pub full : l.chain.limit ≤ count → Rewritten (Alone (λ ts n. adding ts n f s) (Err TableFull)) l l before before
    full h = unchanged ok (rw (rows_long before l.chain, le-leb l.chain.limit count h))

    pub spent : count < l.chain.limit → key_limit ≤ l.chain.given → Rewritten (Alone (λ ts n. adding ts n f s) (Err KeysSpent)) l l before before
    spent h k = unchanged ok (rw (rows_long before l.chain, lt-leb l.chain.limit count h, le-leb key_limit l.chain.given k))

    abbrev keyed : Links → Links
    keyed m = record { chain = record { head = m.chain.head; last = m.chain.last; count = m.chain.count; limit = m.chain.limit; given = l.chain.given + 1 }; free = m.free }

    pub added : count < l.chain.limit → l.chain.given < key_limit → {m : Links} {after : List Cell} → Appended l m (row (l.chain.given + 1) f s) before after →
        Rewritten (Alone (λ ts n. adding ts n f s) (Ok (l.chain.given + 1))) l (keyed m) before after
    added h k a = record {
      links = record { long = a.links.long; same = a.links.same; rest = a.links.rest; many = a.links.many; limit = a.links.limit };
      ends = a.ends;
      within = omega (arith, a.more, a.links.limit);
      takes = rw (rows_long before l.chain, lt-leb l.chain.limit count h, lt-leb key_limit l.chain.given k, a.links.limit, a.rows);
    }

  module _ (place : ℕ) where
    pub none_replaced : (f s : ℤ) → count ≤ place → Rewritten (Alone (λ ts n. replacing ts n place f s) false) l l before before
    none_replaced f s h = unchanged ok (rw (no_row before l.chain place h))

    pub none_removed : count ≤ place → Rewritten (Alone (λ ts n. removing ts n place) false) l l before before
    none_removed h = unchanged ok (rw (no_row before l.chain place h))

    module _ {spot : Spot} (there : place < count) (found : Found (used before l.chain) place spot) where
      pub replaced : (f s : ℤ) {after : List Cell} → after ≡ values_set before spot.here f s → Rewritten (Alone (λ ts n. replacing ts n place f s) true) l l before after
      replaced f s e = rw e (record {
        links = rewritten_links ok there found f s;
        ends = rewritten_ends ok there found f s;
        within = ok.within;
        takes = rw (row_there before l.chain there found, rewritten_rows ok there found f s);
      })

      pub removed : {m : Links} {after : List Cell} → Unlinked l m place before after → Rewritten (Alone (λ ts n. removing ts n place) true) l m before after
      removed u = record {
        links = u.links;
        ends = u.ends;
        within = omega (arith, u.less, u.links.limit, ok.within);
        takes = rw (row_there before l.chain there found, u.links.limit, u.given, u.rows);
      }
