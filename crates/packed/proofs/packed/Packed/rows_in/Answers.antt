use Rattle.std.proofs.Common.{sym, ap, ◌∙◌}
use Rattle.stores.specs.Tables.{rows_of}
use Rattle.packed.proofs.Meaning.{lies_there, table_there}
use Rattle.packed.proofs.packed.Packed.rows_in.Goals as goal

pub used_rows-requires : goal.used_rows-requires
used_rows-requires c = lies_there c.args.self.now c.args.table c.in-Some.at (sym c.in-Some.ensures)

pub returns-in-Some : goal.returns-in-Some
returns-in-Some c = c.used_rows.ensures ∙ sym (ap rows_of (table_there c.args.self.now c.args.table c.in-Some.at (sym c.in-Some.ensures)))
