use Rattle.std.proofs.Common.{◌<◌, length, arith, w32, SFits, rules}
use Rattle.std.proofs.lemmas.Int.{to_z-of_z}
use Rattle.packed.proofs.Compacts.{all_kept, all_counted, turn_keep, turn_rewrite, turn_remove}
use Rattle.packed.proofs.fill.compact.Goals as goal
use Rattle.packed.proofs.fill.compact.Goals.{in-Keep, in-Rewrite, in-Remove}

pub loop-read-preserved : goal.loop-read-preserved
loop-read-preserved g c =
    let h : c.loop-read.read < length c.loop-read.rows = omega (arith, c.loop-read.invariant.long) in
    elim c.match-decide.branch [
      | in-Keep w ↦ turn_keep _ _ _ _ _ _ c.loop-read.invariant h _ _ _ _ w.in-Keep.ensures w.rows-is w.kept-is w.touched-is
      | in-Rewrite w ↦
          let f : SFits w32 w.in-Rewrite.first = search rules in
          let s : SFits w32 w.in-Rewrite.second = search rules in
          turn_rewrite _ _ _ _ _ _ c.loop-read.invariant h _ _ _ _ w.in-Rewrite.first w.in-Rewrite.second w.in-Rewrite.ensures (simp to_z-of_z at w.rows-is) w.kept-is w.touched-is
      | in-Remove w ↦ turn_remove _ _ _ _ _ _ c.loop-read.invariant h _ _ _ _ w.in-Remove.ensures w.rows-is w.kept-is w.touched-is
    ]

pub returns : goal.returns
returns g c = record {
  kept = all_kept _ _ _ _ _ _ c.loop-read.invariant (omega (arith, c.loop-read.invariant.long));
  few = omega (arith, c.loop-read.invariant.behind);
  count = all_counted _ _ _ _ _ _ c.loop-read.invariant (omega (arith, c.loop-read.invariant.long));
}
