-- The two histories, and that they look the same to the observer. Assumes nothing.
use Rattle.std.specs.Prelude.{ℕ, List, [], ◌∷◌, ℤ, pos, neg_ℤ, Some, None}
use Rattle.labels.specs.declared.Rung.{Rung}
use Rattle.labels.specs.Rung.{rung, rungs}
use Rattle.sessions.specs.Steps.{closed_session}
use Rattle.stores.specs.Layout.{new_tables}
use Rattle.tables.specs.declared.queries.Range.{Range}
use Rattle.tables.specs.declared.queries.Predicate.{Predicate}
use Rattle.tables.specs.declared.queries.Place.{Place}
use Rattle.tables.specs.declared.records.SecondRule.TheVariants.{Fixed, Own}
use Rattle.tables.specs.declared.records.TableRecord.{TableRecord}
use Rattle.monitor.specs.declared.requests.Ask.TheVariants.{Open, Unseal, Select, Insert, Delete, Update}
use Rattle.monitor.specs.declared.requests.Request.{Request}
use Rattle.monitor.specs.declared.requests.Event.{Event}
use Rattle.monitor.specs.Steps.{State, state}
use Rattle.monitor.specs.Lists.{Listed, serving_all}
use Rattle.rung_requests.specs.Requests.{asked_of as asks, under as seal, every as all, low_seconds}
use Rattle.guarantees.specs.Compare.{LookSame}

abbrev pub observer_label : Rung
observer_label = rung 3

-- Table 0 is seen by the observer but for the second fields above him; table 1 is not seen at all.
abbrev pub table_records : List (TableRecord Rung)
table_records =
    record { table = rung 2; first = rung 1; second = Own } ∷
    record { table = rung 5; first = rung 4; second = Fixed (rung 6) } ∷ []

abbrev pub table_limits : List ℕ
table_limits = 3 ∷ 2 ∷ []

-- Three closed sessions, and tables with no row.
abbrev pub start : State Rung
start = state (closed_session ∷ closed_session ∷ closed_session ∷ []) (new_tables table_limits)

abbrev pub minus : ℕ → ℤ
minus n = neg_ℤ (pos n)

abbrev pub range : ℤ → ℤ → Range
range low high = record { low = low; high = high }

abbrev pub of_key : ℕ → Predicate
of_key n = record { key = Some (range (pos n) (pos n)); first = None; second = None }

abbrev pub of_first : ℕ → Predicate
of_first n = record { key = None; first = Some (range (pos n) (pos n)); second = None }

abbrev pub left_history : List (Request Rung)
left_history =
    asks 0 (Open (rung 0) (rung 3)) ∷
    asks 1 (Open (rung 0) (rung 7)) ∷
    asks 2 (Open (rung 5) (rung 7)) ∷
    asks 1 (Insert 0 (seal 1 (pos 4)) (seal 4 (minus 250))) ∷
    asks 2 (Insert 1 (seal 4 (pos 60)) (seal 6 (pos 900))) ∷
    asks 1 (Insert 0 (seal 0 (pos 2)) (seal 2 (pos 35))) ∷
    asks 2 (Insert 1 (seal 4 (pos 61)) (seal 5 (minus 12))) ∷
    asks 0 (Update 0 (of_key 2) (seal 0 (pos 6)) (seal 5 (minus 90))) ∷
    asks 1 (Insert 0 (seal 1 (pos 3)) (seal 3 (pos 12))) ∷
    asks 1 (Insert 0 (seal 1 (pos 5)) (seal 4 (pos 8))) ∷
    asks 0 (Select 0 all 3) ∷
    asks 1 (Select 0 low_seconds 3) ∷
    asks 1 (Unseal (seal 6 (pos 900))) ∷
    asks 1 (Open (rung 0) (rung 7)) ∷
    asks 1 (Delete 0 (of_first 4)) ∷
    asks 1 (Insert 1 (seal 0 (pos 7)) (seal 2 (pos 1))) ∷
    asks 0 (Unseal (seal 4 (minus 250))) ∷ []

abbrev pub right_history : List (Request Rung)
right_history =
    asks 0 (Open (rung 0) (rung 3)) ∷
    asks 1 (Open (rung 0) (rung 7)) ∷
    asks 2 (Open (rung 5) (rung 7)) ∷
    asks 2 (Insert 1 (seal 4 (pos 17)) (seal 6 (pos 5))) ∷
    asks 1 (Insert 0 (seal 1 (pos 4)) (seal 4 (minus 310))) ∷
    asks 1 (Insert 0 (seal 0 (pos 2)) (seal 2 (pos 35))) ∷
    asks 0 (Update 0 (of_key 2) (seal 0 (pos 6)) (seal 5 (pos 12))) ∷
    asks 1 (Insert 0 (seal 1 (pos 3)) (seal 3 (pos 12))) ∷
    asks 2 (Delete 0 (of_key 1)) ∷
    asks 1 (Insert 0 (seal 1 (pos 5)) (seal 4 (pos 9))) ∷
    asks 0 (Select 0 all 3) ∷
    asks 1 (Select 0 low_seconds 3) ∷
    asks 1 (Open (rung 0) (rung 7)) ∷
    asks 1 (Delete 0 (of_first 4)) ∷
    asks 1 (Insert 1 (seal 0 (pos 7)) (seal 2 (pos 1))) ∷
    asks 0 (Unseal (seal 4 (minus 310))) ∷ []

-- What a history, played from the start, returns and leaves in lent events and places.
unfoldable pub playing : List (Request Rung) → List (Event Rung) → List (Place Rung) → Listed Rung
playing us es ps = serving_all rungs table_records start us es ps

-- The histories, from the start to these ends, look the same to the observer: what he sees returned, and what he sees of the monitors at the end.
abbrev pub HistoriesLookSame : State Rung → State Rung → Type 0
HistoriesLookSame left_end right_end = LookSame rungs table_records observer_label start left_history left_end start right_history right_end
