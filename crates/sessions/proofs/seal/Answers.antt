use Rattle.std.proofs.Common.{◌≡◌, set, ap, ◌∙◌, rules}
use Rattle.std.proofs.lemmas.List.{set-get_or}
use Rattle.std.proofs.lemmas.Option.{slice_get_read, slice_get_past}
use Rattle.sessions.proofs.seal.Goals as goal

pub returns-then-session-sessions : goal.returns-then-session-sessions
returns-then-session-sessions g c = search (rules, slice_get_past)

-- the session is left as it was
pub returns : goal.returns
returns g c =
    let ss = c.args.sessions.now in
    let at = c.index-sessions-session in
    let same : set ss c.args.session at.result ≡ ss = ap (set ss c.args.session) at.is ∙ set-get_or ss c.args.session at.result in
    search (rules, slice_get_read)
