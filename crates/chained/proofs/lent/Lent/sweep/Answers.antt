use Rattle.std.proofs.Common.{ap, ◌∙◌, arith, w32, SFits, rules}
use Rattle.std.proofs.lemmas.Int.{to_z-of_z}
use Rattle.chained.specs.declared.lent.Lent.{Lent}
use Rattle.chained.proofs.Sweeps.{halfway_all, spot_there, turn_keep, turn_rewrite, turn_remove}
use Rattle.chained.proofs.lent.Lent.sweep.Goals as goal
use Rattle.chained.proofs.lent.Lent.sweep.Goals.{in-Keep, in-Rewrite, in-Remove}

pub offset_bounds-self-spot : goal.offset_bounds-self-spot
offset_bounds-self-spot g c = let h = spot_there c.requires c.loop-turn.invariant (omega arith) in omega arith

pub bounds-self-spot : goal.bounds-self-spot
bounds-self-spot g c = spot_there c.requires c.loop-turn.invariant (omega arith)

pub rewrite-requires : goal.rewrite-requires
rewrite-requires g c = spot_there c.requires c.loop-turn.invariant (omega arith)

pub loop-turn-preserved : goal.loop-turn-preserved
loop-turn-preserved g c =
    elim c.match-decide.branch [
      | in-Keep w ↦ turn_keep c.requires c.loop-turn.invariant (omega arith) _ _ _ _ _ _ w.in-Keep.ensures (ap (λ (l : Lent). l.cells.now) w.self-is) w.chain-is w.free-is w.spot-is w.place-is w.touched-is
      | in-Rewrite w ↦
          let f : SFits w32 w.in-Rewrite.first = search rules in
          let s : SFits w32 w.in-Rewrite.second = search rules in
          turn_rewrite c.requires c.loop-turn.invariant (omega arith) _ _ _ _ _ _ w.in-Rewrite.first w.in-Rewrite.second w.in-Rewrite.ensures (ap (λ (l : Lent). l.cells.now) w.self-is ∙ simp to_z-of_z at w.rewrite.ensures)
          w.chain-is w.free-is w.spot-is w.place-is w.touched-is
      | in-Remove w ↦
          turn_remove c.requires c.loop-turn.invariant (omega arith) _ _ _ _ _ _ w.in-Remove.ensures w.unlink.ensures (ap (λ (l : Lent). l.cells.now) w.self-is) w.chain-is w.free-is w.spot-is w.place-is w.touched-is
    ]

pub returns : goal.returns
returns g c = halfway_all c.requires c.loop-turn.invariant (omega arith)
