use Rattle.std.proofs.Common.{◌≡◌, ◌+◌, ◌-◌, ◌≤◌, length, ap, arith, rules}
use borrow.Author.Rules.{scaled_fits≤}
use borrow.Rule.Slice.PartMut.{put_mid}
use Rattle.monitor.specs.Lists.{room, Single, single}
use Rattle.monitor.proofs.serving.Monitor.serve_from.Goals as goal

pub offset_bounds-places-start : goal.offset_bounds-places-start
offset_bounds-places-start g c = let h : c.args.start ≤ length c.args.places.now = omega (arith, c.requires) in search (rules, scaled_fits≤)

pub returns-clause-served : goal.returns-clause-served
returns-clause-served g c =
    let n = (c.args.start + c.room.result) - c.args.start in
    let h : room c.args.request.ask ≡ n = omega (arith, c.room.ensures) in
    rw h (ap (λ (v : Single g.row.L.Denot). single v.outcome v.monitor (put_mid c.args.start n c.args.places.now v.places)) c.serve_in.ensures.served)
