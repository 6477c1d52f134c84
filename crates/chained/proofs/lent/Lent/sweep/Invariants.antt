use Rattle.chained.specs.Links.{links}
use Rattle.chained.proofs.Sweeps.{Halfway}
use Rattle.chained.proofs.lent.Lent.sweep.Given as goal

abbrev pub invariant-loop-turn : goal.invariant-loop-turn
invariant-loop-turn g l = Halfway (g.E.Edit.decides l.editor) l.initial.self.cells.now (links l.initial.chain l.initial.free) l.self.cells.now (links l.chain l.free) l.place l.touched l._turn l.spot
