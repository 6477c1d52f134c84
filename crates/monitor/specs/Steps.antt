-- What one request, and a list of them, answers and leaves. Assumes nothing.
use Rattle.std.specs.Prelude.{ℕ, List, [], ◌∷◌, Some, None, Err, Option, slice_set}
use Rattle.std.specs.List.{slice_get}
use Rattle.labels.specs.Kind.{Kind}
use Rattle.sessions.specs.declared.Standing.{Standing}
use Rattle.sessions.specs.declared.Session.{Session}
use Rattle.sessions.specs.declared.Refusal.TheVariants.{NoSession}
use Rattle.sessions.specs.Steps.{opening, raising, lowering, sealing, unsealing}
use Rattle.stores.specs.Tables.{Table}
use Rattle.tables.specs.declared.records.TableRecord.{TableRecord}
use Rattle.tables.specs.Steps.{selecting, inserting, deleting, updating}
use Rattle.monitor.specs.declared.requests.Ask.{Ask}
use Rattle.monitor.specs.declared.requests.Ask.TheVariants.{Open, Raise, LowerClearance, Seal, Unseal, Select, Insert, Delete, Update}
use Rattle.monitor.specs.declared.requests.Request.{Request}
use Rattle.monitor.specs.declared.requests.Event.{Event}
use Rattle.monitor.specs.declared.requests.Answer.TheVariants.{Done, Sealed, Value, Filled, Key, Changed}
use Rattle.monitor.specs.Replies.{Reply, reply, Effect, of_session, of_reading, of_writing}

-- The sessions and the tables of a monitor.
pub record State (L : Type 0) : Type 0 where
  pub sessions : List (Session L)
  pub tables : List Table

abbrev pub state : {L : Type 0} → List (Session L) → List Table → State L
state ss ts = record { sessions = ss; tables = ts }

-- How a session stands, if there is one.
abbrev pub standing_of : {L : Type 0} → Option (Session L) → Option (Standing L)
standing_of None = None
standing_of (Some s) = s.standing

-- How the session of a number stands; none where it is closed or missing.
abbrev pub standing_in : {L : Type 0} → State L → ℕ → Option (Standing L)
standing_in w i = standing_of (slice_get w.sessions i)

-- What a request returns, and the monitor after it.
pub record Turn (L : Type 0) : Type 0 where
  pub returned : Reply L
  pub after : State L

abbrev pub turn : {L : Type 0} → Reply L → State L → Turn L
turn r w = record { returned = r; after = w }

-- What is asked of a session that was looked up; refusal 1 where there is none.
abbrev pub turn_by : {L : Type 0} → Option (Session L) → State L → ℕ → (Session L → Effect L) → Turn L
turn_by None w i ask = turn (reply (Err NoSession) []) w
turn_by (Some s) w i ask = let o = ask s in turn o.returned (state (slice_set w.sessions i o.session) o.tables)

module _ {L : Type 0} (k : Kind L) (rs : List (TableRecord L)) where
  -- What is asked of a session, by the kind of request.
  abbrev pub asking : List Table → Ask L → Session L → Effect L
  asking ts (Open a b) s = of_session (λ _. Done) ts (opening k a b s)
  asking ts (Raise a) s = of_session (λ _. Done) ts (raising k a s)
  asking ts (LowerClearance b) s = of_session (λ _. Done) ts (lowering k b s)
  asking ts (Seal v a) s = of_session Sealed ts (sealing k v a s)
  asking ts (Unseal f) s = of_session Value ts (unsealing k f s)
  asking ts (Select n p room) s = of_reading Filled ts (selecting k rs ts n p room s)
  asking ts (Insert n f g) s = of_writing Key (inserting k rs ts n f g s)
  asking ts (Delete n p) s = of_writing Changed (deleting k rs ts n p s)
  asking ts (Update n p f g) s = of_writing Changed (updating k rs ts n p f g s)

  -- A request is asked of the session of its number, and changes no other; refusal 1 where there is none.
  abbrev pub step : State L → Request L → Turn L
  step w u = turn_by (slice_get w.sessions u.session) w u.session (asking w.tables u.ask)

  -- The monitor after a list of requests.
  abbrev pub run : State L → List (Request L) → State L
  run w [] = w
  run w (u ∷ us) = run (step w u).after us

  -- What the requests of a list return, in their order.
  abbrev pub replies : State L → List (Request L) → List (Reply L)
  replies w [] = []
  replies w (u ∷ us) = (step w u).returned ∷ replies (step w u).after us

  -- What is kept of a request: its answer, and how its session stood before it and stands after it.
  abbrev pub event : State L → Request L → Event L
  event w u = let o = step w u in record { before = standing_in w u.session; answer = o.returned.answer; after = standing_in o.after u.session }

  -- What is kept of the requests of a list, in their order.
  abbrev pub events : State L → List (Request L) → List (Event L)
  events w [] = []
  events w (u ∷ us) = event w u ∷ events (step w u).after us
