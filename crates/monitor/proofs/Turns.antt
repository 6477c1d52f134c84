-- What is asked of a session, told as a turn of the monitor. Assumes nothing.
use Rattle.std.proofs.Common.{◌≡◌, ℕ, List, Some, None, Ok, Option, Result, refl, ap, ◌∙◌}
use Rattle.std.specs.List.{slice_get}
use Rattle.sessions.specs.declared.Session.{Session}
use Rattle.sessions.specs.declared.Refusal.{Refusal}
use Rattle.sessions.specs.Steps.{Outcome, Served, served, served_by, on_session}
use Rattle.stores.specs.Tables.{Table}
use Rattle.tables.specs.declared.queries.Place.{Place}
use Rattle.tables.specs.Outcomes.{Told, Read, read, read_by, reading_on, Wrote, Written, written, written_by, writing_on}
use Rattle.monitor.specs.declared.requests.Answer.{Answer}
use Rattle.monitor.specs.Replies.{answer_of, of_session, of_reading, of_writing}
use Rattle.monitor.specs.Steps.{state, turn_by}
use Rattle.monitor.specs.Lists.{single, answered}

module _ {L : Type 0} (ss : List (Session L)) (i : ℕ) where
  module _ {A : Type 0} (say : A → Answer L) (ask : Session L → Outcome L A) where
    by_session : (ts : List Table) (ps : List (Place L)) (o : Option (Session L)) → let v = served_by o ss i ask in single (Ok (answer_of say v.answer)) (state v.sessions ts) ps ≡ answered (turn_by o (state ss ts) i (λ s. of_session say ts (ask s))) ps
    by_session ts ps None = refl
    by_session ts ps (Some s) = refl

    pub session_turn : {r : Result A (Refusal L)} {ss' : List (Session L)} {ts : List Table} {ps : List (Place L)} → served r ss' ≡ on_session ss i ask → single (Ok (answer_of say r)) (state ss' ts) ps ≡ answered (turn_by (slice_get ss i) (state ss ts) i (λ s. of_session say ts (ask s))) ps
    session_turn {ts = ts} {ps = ps} h = ap (λ (v : Served L A). single (Ok (answer_of say v.answer)) (state v.sessions ts) ps) h ∙ by_session ts ps (slice_get ss i)

  module _ (say : ℕ → Answer L) (ps : List (Place L)) (ask : Session L → Told L) where
    by_reading : (ts : List Table) (o : Option (Session L)) → let v = read_by o ss ps i ask in single (Ok (answer_of say v.answer)) (state v.sessions ts) v.places ≡ answered (turn_by o (state ss ts) i (λ s. of_reading say ts (ask s))) ps
    by_reading ts None = refl
    by_reading ts (Some s) = refl

    pub reading_turn : {r : Result ℕ (Refusal L)} {ss' : List (Session L)} {ts : List Table} {ps' : List (Place L)} → read r ss' ps' ≡ reading_on ss ps i ask → single (Ok (answer_of say r)) (state ss' ts) ps' ≡ answered (turn_by (slice_get ss i) (state ss ts) i (λ s. of_reading say ts (ask s))) ps
    reading_turn {ts = ts} h = ap (λ (v : Read L). single (Ok (answer_of say v.answer)) (state v.sessions ts) v.places) h ∙ by_reading ts (slice_get ss i)

  module _ (say : ℕ → Answer L) (ts : List Table) (ask : Session L → Wrote L) where
    by_writing : (ps : List (Place L)) (o : Option (Session L)) → let v = written_by o ss ts i ask in single (Ok (answer_of say v.answer)) (state v.sessions v.tables) ps ≡ answered (turn_by o (state ss ts) i (λ s. of_writing say (ask s))) ps
    by_writing ps None = refl
    by_writing ps (Some s) = refl

    pub writing_turn : {r : Result ℕ (Refusal L)} {ss' : List (Session L)} {ts' : List Table} {ps : List (Place L)} → written r ss' ts' ≡ writing_on ss ts i ask → single (Ok (answer_of say r)) (state ss' ts') ps ≡ answered (turn_by (slice_get ss i) (state ss ts) i (λ s. of_writing say (ask s))) ps
    writing_turn {ps = ps} h = ap (λ (v : Written L). single (Ok (answer_of say v.answer)) (state v.sessions v.tables) ps) h ∙ by_writing ps (slice_get ss i)
