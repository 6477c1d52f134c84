-- Requests served into lent events and places. Assumes nothing.
use Rattle.std.specs.Prelude.{ℕ, suc, ◌-◌, cond, List, [], ◌∷◌, ◌++◌, length, take, drop, Some, None, Ok, Err, Option, Result, nat_le}
use Rattle.labels.specs.Kind.{Kind}
use Rattle.sessions.specs.declared.Refusal.{Refusal}
use Rattle.sessions.specs.Refusals.{tests}
use Rattle.tables.specs.declared.records.TableRecord.{TableRecord}
use Rattle.tables.specs.declared.queries.Place.{Place}
use Rattle.tables.specs.Outcomes.{filled}
use Rattle.monitor.specs.declared.requests.Ask.{Ask}
use Rattle.monitor.specs.declared.requests.Ask.TheVariants.{Open, Raise, LowerClearance, Seal, Unseal, Select, Insert, Delete, Update}
use Rattle.monitor.specs.declared.requests.Request.{Request}
use Rattle.monitor.specs.declared.requests.Answer.{Answer}
use Rattle.monitor.specs.declared.requests.Event.{Event}
use Rattle.monitor.specs.declared.requests.ShortBuffer.{ShortBuffer}
use Rattle.monitor.specs.declared.requests.ShortBuffer.TheVariants.{Events, Places}
use Rattle.monitor.specs.Replies.{Reply}
use Rattle.monitor.specs.Steps.{State, Turn, step, run, replies, events}

-- The number of places that is asked for: none unless rows are selected.
abbrev pub room : {L : Type 0} → Ask L → ℕ
room (Open a b) = 0
room (Raise a) = 0
room (LowerClearance b) = 0
room (Seal v a) = 0
room (Unseal f) = 0
room (Select n p places) = places
room (Insert n f g) = 0
room (Delete n p) = 0
room (Update n p f g) = 0

-- The first request, counted from n on, that asks for more places than are left.
abbrev pub short_of : {L : Type 0} → ℕ → ℕ → List (Request L) → Option ℕ
short_of n left [] = None
short_of n left (u ∷ us) = cond (nat_le (room u.ask) left) (short_of (suc n) (left - room u.ask) us) (Some n)

-- A request that is short of places stops what is served.
abbrev pub if_room : {X : Type 0} → Option ℕ → (ShortBuffer → X) → X → X
if_room None stop pass = pass
if_room (Some n) stop pass = stop (Places n)

-- Each request has a stretch of the places for itself, as long as it asks for, and fills the first of them.
abbrev pub laid : {L : Type 0} → List (Request L) → List (Reply L) → List (Place L) → List (Place L)
laid [] rs ps = ps
laid (u ∷ us) [] ps = ps
laid (u ∷ us) (r ∷ rs) ps = filled r.places (take (room u.ask) ps) ++ laid us rs (drop (room u.ask) ps)

-- What serving one request into lent places returns and leaves.
pub record Single (L : Type 0) : Type 0 where
  pub outcome : Result (Result (Answer L) (Refusal L)) ShortBuffer
  pub monitor : State L
  pub places : List (Place L)

abbrev pub single : {L : Type 0} → Result (Result (Answer L) (Refusal L)) ShortBuffer → State L → List (Place L) → Single L
single r w ps = record { outcome = r; monitor = w; places = ps }

-- What a request returns and leaves, where all lent places are its own.
abbrev pub answered : {L : Type 0} → Turn L → List (Place L) → Single L
answered o ps = single (Ok o.returned.answer) o.after (filled o.returned.places ps)

-- The same where its own places are those from a number on, as many as it asks for.
abbrev pub answered_from : {L : Type 0} → ℕ → Request L → Turn L → List (Place L) → Single L
answered_from start u o ps = single (Ok o.returned.answer) o.after (take start ps ++ laid (u ∷ []) (o.returned ∷ []) (drop start ps))

-- What serving a list into lent events and places returns and leaves.
pub record Listed (L : Type 0) : Type 0 where
  pub outcome : Result Unit ShortBuffer
  pub monitor : State L
  pub events : List (Event L)
  pub places : List (Place L)

abbrev pub listed : {L : Type 0} → Result Unit ShortBuffer → State L → List (Event L) → List (Place L) → Listed L
listed r w es ps = record { outcome = r; monitor = w; events = es; places = ps }

module _ {L : Type 0} (k : Kind L) (rs : List (TableRecord L)) where
  -- One request is served, unless it asks for more places than are lent; then nothing changes.
  abbrev pub serving : State L → Request L → List (Place L) → Single L
  serving w u ps =
      if_room (short_of 0 (length ps) (u ∷ [])) (λ e. single (Err e) w ps)
      (let o = step k rs w u in single (Ok o.returned.answer) o.after (laid (u ∷ []) (o.returned ∷ []) ps))

  -- Every request of a list is served, its event kept in its place and each selection in its stretch.
  abbrev pub serving_each : State L → List (Request L) → List (Event L) → List (Place L) → Listed L
  serving_each w us es ps = listed (Ok tt) (run k rs w us) (filled (events k rs w us) es) (laid us (replies k rs w us) ps)

  -- A list is served, unless too few events or places are lent; then nothing changes.
  abbrev pub serving_all : State L → List (Request L) → List (Event L) → List (Place L) → Listed L
  serving_all w us es ps =
      tests ((nat_le (length us) (length es), Events) ∷ []) (λ e. listed (Err e) w es ps)
      (if_room (short_of 0 (length ps) us) (λ e. listed (Err e) w es ps)
      (serving_each w us es ps))
