-- What the requests of the worked example are answered. Assumes nothing.
use Rattle.std.specs.Prelude.{ℕ, List, [], ◌∷◌, map, take, drop, ℤ, pos, Some, None, Ok, Err, Option, Result}
use Rattle.labels.specs.declared.Rung.{Rung}
use Rattle.labels.specs.Rung.{rung, rungs}
use Rattle.sessions.specs.declared.Standing.{Standing}
use Rattle.sessions.specs.declared.Refusal.{Refusal}
use Rattle.sessions.specs.declared.Refusal.TheVariants.{LabelAboveTarget, FirstAboveField, AboveClearance, QueryAboveClearance, QueryAboveTarget, SecondAboveField}
use Rattle.sessions.specs.Steps.{closed_session}
use Rattle.stores.specs.Layout.{new_tables}
use Rattle.tables.specs.declared.queries.Place.{Place}
use Rattle.monitor.specs.declared.requests.Answer.{Answer}
use Rattle.monitor.specs.declared.requests.Answer.TheVariants.{Done, Filled, Key, Changed}
use Rattle.monitor.specs.declared.requests.Event.{Event}
use Rattle.monitor.specs.Replies.{Reply, reply}
use Rattle.monitor.specs.Steps.{State, state, replies}
use Rattle.rung_requests.specs.Requests.{under}
use Rattle.rung_requests.specs.Example.{table_records, requests_with}
use Rattle.guarantees.specs.Blanking.{blank_reply}

-- Two closed sessions, and the two tables with their limits 2 and 1, without a row.
abbrev pub at_first : State Rung
at_first = state (closed_session ∷ closed_session ∷ []) (new_tables (2 ∷ 1 ∷ []))

-- An open session's label and clearance.
abbrev pub at : ℕ → ℕ → Option (Standing Rung)
at c d = Some (record { label = rung c; clearance = rung d })

-- How a session stood before a request, the answer, and how it stands after it.
abbrev pub then : Option (Standing Rung) → Result (Answer Rung) (Refusal Rung) → Option (Standing Rung) → Event Rung
then b a c = record { before = b; answer = a; after = c }

-- What the fifteen requests are answered, whatever the value is.
abbrev pub worked : List (Event Rung)
worked =
    then None (Ok Done) (at 0 7)
    ∷ then None (Ok Done) (at 0 3)
    ∷ then (at 0 7) (Ok (Key 1)) (at 2 7)
    ∷ then (at 0 3) (Err (QueryAboveClearance (rung 2))) (at 2 3)
    ∷ then (at 2 3) (Ok (Filled 1)) (at 2 3)
    ∷ then (at 2 3) (Err (AboveClearance (rung 2))) (at 2 3)
    ∷ then (at 2 3) (Err (LabelAboveTarget (rung 2))) (at 2 3)
    ∷ then (at 2 7) (Err (QueryAboveTarget (rung 2))) (at 2 7)
    ∷ then (at 2 7) (Err (LabelAboveTarget (rung 2))) (at 2 7)
    ∷ then (at 2 7) (Err (FirstAboveField (rung 2))) (at 2 7)
    ∷ then (at 2 7) (Ok Done) (at 1 7)
    ∷ then (at 1 7) (Ok (Changed 1)) (at 2 7)
    ∷ then (at 2 7) (Ok (Changed 1)) (at 2 7)
    ∷ then (at 2 7) (Err (SecondAboveField (rung 2))) (at 2 7)
    ∷ then (at 2 7) (Ok (Key 2)) (at 2 7)
    ∷ []

-- The row that the fifth request answers.
abbrev pub row_with : ℤ → Place Rung
row_with v = record { key = 1; first = under 1 (pos 4); second = under 4 v }

-- What an observer at 3 sees returned by requests 4 to 8.
abbrev pub seen_at_3 : ℤ → List (Reply Rung)
seen_at_3 v = map (blank_reply rungs (rung 3)) (take 5 (drop 3 (replies rungs table_records at_first (requests_with v))))

-- That is one list, whatever the value is: the row's second value is blanked.
abbrev pub seen_always : List (Reply Rung)
seen_always =
    reply (Err (QueryAboveClearance (rung 2))) []
    ∷ reply (Ok (Filled 1)) (row_with (pos 0) ∷ [])
    ∷ reply (Err (AboveClearance (rung 2))) []
    ∷ reply (Err (LabelAboveTarget (rung 2))) []
    ∷ reply (Err (QueryAboveTarget (rung 2))) []
    ∷ []
