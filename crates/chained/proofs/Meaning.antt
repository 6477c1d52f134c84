-- What a chained store means at one table, before and after that table is linked anew. Assumes nothing.
use Rattle.std.proofs.Common.{true, ltb, refl, ◌≡◌, ℕ, ◌<◌, List, length, get_or, set, Some, sym, ap, ◌∙◌}
use Rattle.std.specs.List.{slice_get}
use Rattle.std.proofs.lemmas.List.{set-get_or}
use Rattle.std.proofs.lemmas.Option.{slice_get_read, get_or_from_slice_get}
use Rattle.std.proofs.lemmas.Bool.{ltb-true}
use Rattle.stores.specs.Tables.{Table, rows_of, row_count, row_at}
use Rattle.stores.specs.Changes.{Changed, changed}
use Rattle.stores.proofs.Local.{Local}
use Rattle.chained.specs.declared.links.Cell.{Cell}
use Rattle.chained.specs.declared.links.Chain.{Chain}
use Rattle.chained.specs.declared.chained.Chained.{Chained}
use Rattle.chained.specs.Links.{Links, links, rows_of_chain, table_in, tables_of, Lies, Laid}
use Rattle.chained.specs.Steps.{Inside, Linked, Alone, Rewritten}
use Rattle.chained.specs.Soundness.{opened}
use Rattle.chained.proofs.Spots.{rows_long, inside}
use Rattle.chained.proofs.Chains.{lies_at, table_at, linked_at, laid_after, tables_after}

module _ (p : Chained) where
  abbrev cells : List Cell
  cells = p.lent.cells.now

  abbrev chains : List Chain
  chains = p.chains.items

  abbrev pub tables : List Table
  tables = tables_of cells chains

  laid : Laid cells p.free chains
  laid = opened cells p.free chains p.laid

  module _ (n : ℕ) where
    -- a chain that was read at an index, or lent to be written there
    pub chain_read : {chain : Chain} {cs : List Chain} → cs ≡ chains → true ≡ ltb n (length cs) → chain ≡ get_or cs n chain → slice_get chains n ≡ Some chain
    chain_read {chain} {cs} e within read = ap (λ ds. slice_get ds n) (sym e) ∙ slice_get_read cs (length cs) n chain refl (ltb-true n (length cs) (sym within)) read

    pub chain_lent : {chain : Chain} → n < length chains → chain ≡ get_or chains n chain → slice_get chains n ≡ Some chain
    chain_lent {chain} within read = slice_get_read chains (length chains) n chain refl within read

    module _ {chain : Chain} (chain_there : slice_get chains n ≡ Some chain) where
      abbrev pub links_there : Links
      links_there = links chain p.free

      pub same_chains : set chains n chain ≡ chains
      same_chains = ap (set chains n) (sym (get_or_from_slice_get chains n chain chain chain_there)) ∙ set-get_or chains n chain

      pub linked_there : Linked cells links_there
      linked_there = linked_at cells p.free chains n chain chain_there laid

      pub inside_there : Inside cells chain
      inside_there = inside linked_there

      pub table_there : slice_get tables n ≡ Some (table_in cells chain)
      table_there = table_at chain cells chains n chain_there

      pub count_there : Some chain.count ≡ row_count tables n
      count_there = rw (table_there, rows_long cells chain)

      pub row_there : (place : ℕ) → slice_get (rows_of_chain cells chain) place ≡ row_at tables n place
      row_there place = sym (ap (λ o. slice_get (rows_of o) place) table_there)

      -- the table taken to another by a change, whichever that is
      module _ {A : Type 0} (change : List Table → ℕ → Changed A) (local : Local change) (answer : A) (m : Links) (after : List Cell) (w : Rewritten (Alone change answer) links_there m cells after) where
        lies_new : Lies after m.chain
        lies_new = record { ends = w.ends; within = w.within; sound = local.sound answer _ _ w.takes (lies_at chain cells chains n chain_there laid.each).sound }

        pub laid_anew : Laid after m.free (set chains n m.chain)
        laid_anew = laid_after cells after links_there m w.links lies_new chains n chain_there laid

        pub change_after : changed answer (tables_of after (set chains n m.chain)) ≡ change tables n
        change_after =
            rw (tables_after cells after links_there m w.links lies_new chains n chain_there laid)
            (local.among answer tables n (table_in cells chain) (table_in after m.chain) table_there w.takes)
