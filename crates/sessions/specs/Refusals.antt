-- Why a request is turned down, and the tests that turn it down. Assumes nothing.
use Rattle.std.specs.Prelude.{ℕ, Bool, cond, List, [], ◌∷◌, Some, None, Option}
use Rattle.sessions.specs.declared.Refusal.{Refusal}
use Rattle.sessions.specs.declared.Refusal.TheVariants.{NoSession, SessionClosed, NoTable, FirstAboveTable, OutOfRange, LabelAboveTarget, FirstAboveField, AboveClearance, QueryAboveClearance, QueryAboveTarget, SecondAboveField, TableFull, KeysSpent, TooFewPlaces}

-- The number of each cause.
abbrev pub number_of : {L : Type 0} → Refusal L → ℕ
number_of NoSession = 1
number_of SessionClosed = 2
number_of (NoTable label) = 3
number_of (FirstAboveTable label) = 4
number_of OutOfRange = 5
number_of (LabelAboveTarget label) = 6
number_of (FirstAboveField label) = 7
number_of (AboveClearance label) = 8
number_of (QueryAboveClearance label) = 9
number_of (QueryAboveTarget label) = 10
number_of (SecondAboveField label) = 11
number_of (TableFull label) = 12
number_of (KeysSpent label) = 13
number_of (TooFewPlaces label) = 14

-- The session's label as it is left, where that is returned.
abbrev pub label_of : {L : Type 0} → Refusal L → Option L
label_of NoSession = None
label_of SessionClosed = None
label_of (NoTable label) = Some label
label_of (FirstAboveTable label) = Some label
label_of OutOfRange = None
label_of (LabelAboveTarget label) = Some label
label_of (FirstAboveField label) = Some label
label_of (AboveClearance label) = Some label
label_of (QueryAboveClearance label) = Some label
label_of (QueryAboveTarget label) = Some label
label_of (SecondAboveField label) = Some label
label_of (TableFull label) = Some label
label_of (KeysSpent label) = Some label
label_of (TooFewPlaces label) = Some label

-- Tests in their order, each with the refusal that it gives: the first that fails stops the request.
abbrev pub tests : {X E : Type 0} → List (Bool × E) → (E → X) → X → X
tests [] stop pass = pass
tests (t ∷ ts) stop pass = cond t.0 (tests ts stop pass) (stop t.1)
