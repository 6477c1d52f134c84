-- What a packed store means at one table, before and after that table's stretch is rewritten. Assumes nothing.
use Rattle.std.proofs.Common.{◌≡◌, ℕ, ◌≤◌, List, length, drop, set, Some, MutBor, refl, arith, length-drop}
use Rattle.std.specs.List.{slice_get, IsItemAtMut}
use Rattle.std.proofs.lemmas.List.{length-take-le}
use Rattle.std.proofs.lemmas.Option.{slice_get-map, slice_get_read}
use Rattle.stores.specs.declared.rows.Row.{Row}
use Rattle.stores.specs.Tables.{Table, row_count}
use Rattle.stores.specs.Changes.{Changed, changed}
use Rattle.stores.proofs.Local.{Local}
use Rattle.packed.specs.declared.stretch.Stretch.{Stretch}
use Rattle.packed.specs.declared.packed.Packed.{Packed}
use Rattle.packed.specs.Stretches.{held, part, table_in, tables_of, Lies, InOrder, Alone, Rewritten}
use Rattle.packed.specs.Soundness.{opened}
use Rattle.packed.proofs.Splices.{lies_at, refills}

-- a stretch that is lent stands at its index
pub lent_there : (ss : List Stretch) (n : ℕ) (r : MutBor Stretch) → IsItemAtMut ss n (Some r) → slice_get ss n ≡ Some r.now
lent_there ss n r item = slice_get_read ss (length ss) n r.now refl item.3.0 item.1

module _ (p : Packed) (n : ℕ) where
  abbrev rows : List Row
  rows = p.rows.now

  abbrev stretches : List Stretch
  stretches = p.stretches.items

  abbrev pub tables : List Table
  tables = tables_of rows stretches

  order : InOrder 0 rows stretches
  order = opened 0 rows stretches p.order

  module _ (s : Stretch) (there : slice_get stretches n ≡ Some s) where
    pub lies_there : Lies rows s
    lies_there = (lies_at 0 rows stretches n s there order).1

    pub table_there : slice_get tables n ≡ Some (table_in rows s)
    table_there = rw (slice_get-map, there)

    length_part : length (part rows s) ≡ s.limit
    length_part = length-take-le s.limit (drop s.from rows) (simp length-drop (omega (arith, lies_there.fits)))

    pub count_there : Some s.fill.used ≡ row_count tables n
    count_there =
        let within : s.fill.used ≤ length (part rows s) = omega (arith, lies_there.within, length_part) in
        rw (table_there, length-take-le s.fill.used (part rows s) within)

    -- the stretch rewritten by a change, whichever that is
    module _ {A : Type 0} (change : List Table → ℕ → Changed A) (local : Local change) (answer : A) (at : Stretch) (after : List Row) (w : Rewritten (Alone change answer) s at rows after) where
      pub rewritten : InOrder 0 after (set stretches n at) × (changed answer (tables_of after (set stretches n at)) ≡ change tables n)
      rewritten =
          let r = refills rows s at.fill w.new lies_there.fits w.long w.within (local.sound answer _ _ w.takes lies_there.sound) 0 stretches n there order in
          rw (w.rest, w.place) (r.0, rw r.1 (local.among answer tables n (table_in rows s) (held w.new at.fill) table_there w.takes))
