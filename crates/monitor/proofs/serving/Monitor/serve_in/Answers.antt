use Rattle.std.proofs.Common.{◌≡◌, ap, ◌∙◌, rules}
use Rattle.monitor.specs.declared.requests.Answer.TheVariants.{Filled, Changed}
use Rattle.monitor.specs.Replies.{answer_of}
use Rattle.monitor.specs.Lists.{room}
use Rattle.monitor.proofs.Turns.{reading_turn, writing_turn}
use Rattle.monitor.proofs.serving.Monitor.serve_in.Goals as goal

pub returns-in_err-select-in-Select-clause-served : goal.returns-in_err-select-in-Select-clause-served
returns-in_err-select-in-Select-clause-served g c =
    let e : answer_of Filled c.select.result ≡ c.from_residual-in_err-select-in-Select.result = search rules in
    let h = c.requires ∙ ap room c.in-Select.is in
    rw (c.in-Select.is, ← h, ← e) (reading_turn c.args.self.now.sessions.now c.args.request.session _ c.args.places.now _ c.select.ensures)

pub returns-in_err-delete-in-Delete-clause-served : goal.returns-in_err-delete-in-Delete-clause-served
returns-in_err-delete-in-Delete-clause-served g c =
    let e : answer_of Changed c.delete.result ≡ c.from_residual-in_err-delete-in-Delete.result = search rules in
    rw (c.in-Delete.is, ← e) (writing_turn c.args.self.now.sessions.now c.args.request.session _ (g.S.Store.tables c.args.self.now.store.now) _ c.delete.ensures)

pub returns-in_err-update-in-Update-clause-served : goal.returns-in_err-update-in-Update-clause-served
returns-in_err-update-in-Update-clause-served g c =
    let e : answer_of Changed c.update.result ≡ c.from_residual-in_err-update-in-Update.result = search rules in
    rw (c.in-Update.is, ← e) (writing_turn c.args.self.now.sessions.now c.args.request.session _ (g.S.Store.tables c.args.self.now.store.now) _ c.update.ensures)
