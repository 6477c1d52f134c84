use Rattle.packed.proofs.Compacts.{Halfway}
use Rattle.packed.proofs.fill.compact.Given as goal

abbrev pub invariant-loop-read : goal.invariant-loop-read
invariant-loop-read g l = Halfway (g.E.Edit.decides l.editor) l.initial.rows l.rows l.kept l.touched l.read
