use Rattle.packed.proofs.Fills.{swept, swept_within}
use Rattle.packed.proofs.fill.Fill.sweep.Goals as goal

pub returns : goal.returns
returns g c =
    let done = c.compact-kept.ensures in record {
      change = swept c.args.rows.now c.args.self.now c.requires _ _ _ _ c.compact-kept.auto.rows done.few done.kept done.count;
      within = swept_within c.args.rows.now c.args.self.now c.requires (g.E.Edit.decides c.args.editor.now) _ c.compact-kept.result.touched _ c.compact-kept.auto.rows done.few;
    }
