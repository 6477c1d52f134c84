-- What a request returns, and what it leaves. Assumes nothing.
use Rattle.std.specs.Prelude.{ℕ, List, [], Ok, Err, Result}
use Rattle.sessions.specs.declared.Session.{Session}
use Rattle.sessions.specs.declared.Refusal.{Refusal}
use Rattle.sessions.specs.Steps.{Outcome}
use Rattle.stores.specs.Tables.{Table}
use Rattle.tables.specs.declared.queries.Place.{Place}
use Rattle.tables.specs.Outcomes.{Told, Wrote}
use Rattle.monitor.specs.declared.requests.Answer.{Answer}

-- The answer that says a result, unless that is a refusal.
abbrev pub answer_of : {L A : Type 0} → (A → Answer L) → Result A (Refusal L) → Result (Answer L) (Refusal L)
answer_of say (Ok a) = Ok (say a)
answer_of say (Err e) = Err e

-- All that a request returns: its answer or a refusal, and the places that it fills, in their order.
pub record Reply (L : Type 0) : Type 0 where
  pub answer : Result (Answer L) (Refusal L)
  pub places : List (Place L)

abbrev pub reply : {L : Type 0} → Result (Answer L) (Refusal L) → List (Place L) → Reply L
reply a ps = record { answer = a; places = ps }

-- What a request returns, and its session and the tables after it.
pub record Effect (L : Type 0) : Type 0 where
  pub returned : Reply L
  pub session : Session L
  pub tables : List Table

abbrev pub effect : {L : Type 0} → Reply L → Session L → List Table → Effect L
effect r s ts = record { returned = r; session = s; tables = ts }

-- The effect of a request that names no table, of one that reads a table, and of one that writes a table.
abbrev pub of_session : {L A : Type 0} → (A → Answer L) → List Table → Outcome L A → Effect L
of_session say ts o = effect (reply (answer_of say o.answer) []) o.session ts

abbrev pub of_reading : {L : Type 0} → (ℕ → Answer L) → List Table → Told L → Effect L
of_reading say ts o = effect (reply (answer_of say o.answer) o.filling) o.session ts

abbrev pub of_writing : {L : Type 0} → (ℕ → Answer L) → Wrote L → Effect L
of_writing say o = effect (reply (answer_of say o.answer) []) o.session o.tables
