-- What a request on a table answers and leaves, of its session and of all sessions. Assumes nothing.
use Rattle.std.specs.Prelude.{ℕ, List, [], ◌∷◌, Some, None, Ok, Err, Option, Result, slice_set}
use Rattle.std.specs.List.{slice_get}
use Rattle.sessions.specs.declared.Session.{Session}
use Rattle.sessions.specs.declared.Refusal.{Refusal}
use Rattle.sessions.specs.declared.Refusal.TheVariants as refusal
use Rattle.stores.specs.declared.rows.AddRefusal.{AddRefusal}
use Rattle.stores.specs.declared.rows.AddRefusal.TheVariants.{NoTable, TableFull, KeysSpent}
use Rattle.stores.specs.Tables.{Table}
use Rattle.stores.specs.Changes.{Changed}
use Rattle.tables.specs.declared.queries.Place.{Place}

-- What a request that reads a table answers, its session after it, and the places that it fills.
pub record Told (L : Type 0) : Type 0 where
  pub answer : Result ℕ (Refusal L)
  pub session : Session L
  pub filling : List (Place L)

abbrev pub told : {L : Type 0} → Result ℕ (Refusal L) → Session L → List (Place L) → Told L
told r s ps = record { answer = r; session = s; filling = ps }

-- A refusal fills no place.
abbrev pub untold : {L : Type 0} → Session L → Refusal L → Told L
untold s e = told (Err e) s []

-- What a request that writes a table answers, its session and the tables after it.
pub record Wrote (L : Type 0) : Type 0 where
  pub answer : Result ℕ (Refusal L)
  pub session : Session L
  pub tables : List Table

abbrev pub wrote : {L : Type 0} → Result ℕ (Refusal L) → Session L → List Table → Wrote L
wrote r s ts = record { answer = r; session = s; tables = ts }

-- A refusal changes no table.
abbrev pub unwritten : {L : Type 0} → Session L → List Table → Refusal L → Wrote L
unwritten s ts e = wrote (Err e) s ts

-- The end of a request that writes, on its session as it was raised.
abbrev pub wrote_as : {L : Type 0} → Session L → Changed (Result ℕ (Refusal L)) → Wrote L
wrote_as s o = wrote o.answer s o.tables

-- A refusal of adding a row, with the session's label. A missing table does not occur there: the tests before it found one.
abbrev pub refusal_under : {L : Type 0} → L → AddRefusal → Refusal L
refusal_under c NoTable = refusal.NoTable c
refusal_under c TableFull = refusal.TableFull c
refusal_under c KeysSpent = refusal.KeysSpent c

-- What adding a row answers, a refusal with the session's label.
abbrev pub labelled : {L : Type 0} → L → Result ℕ AddRefusal → Result ℕ (Refusal L)
labelled c (Ok key) = Ok key
labelled c (Err e) = Err (refusal_under c e)

-- The first places filled, the later ones as they were.
abbrev pub filled : {X : Type 0} → List X → List X → List X
filled [] ys = ys
filled (x ∷ xs) [] = []
filled (x ∷ xs) (y ∷ ys) = x ∷ filled xs ys

-- What a request that reads a table answers, its session after it, and all answer places.
pub record Selected (L : Type 0) : Type 0 where
  pub answer : Result ℕ (Refusal L)
  pub session : Session L
  pub places : List (Place L)

abbrev pub selected : {L : Type 0} → Result ℕ (Refusal L) → Session L → List (Place L) → Selected L
selected r s ps = record { answer = r; session = s; places = ps }

-- The places that are filled, among all answer places.
abbrev pub filled_with : {L : Type 0} → List (Place L) → Told L → Selected L
filled_with ps o = selected o.answer o.session (filled o.filling ps)

-- The same with all sessions after it.
pub record Read (L : Type 0) : Type 0 where
  pub answer : Result ℕ (Refusal L)
  pub sessions : List (Session L)
  pub places : List (Place L)

abbrev pub read : {L : Type 0} → Result ℕ (Refusal L) → List (Session L) → List (Place L) → Read L
read r ss ps = record { answer = r; sessions = ss; places = ps }

abbrev pub read_by : {L : Type 0} → Option (Session L) → List (Session L) → List (Place L) → ℕ → (Session L → Told L) → Read L
read_by None ss ps i ask = read (Err refusal.NoSession) ss ps
read_by (Some s) ss ps i ask = let o = filled_with ps (ask s) in read o.answer (slice_set ss i o.session) o.places

-- A request that reads a table is asked of the session of its number, and changes no other; refusal 1 where there is none.
abbrev pub reading_on : {L : Type 0} → List (Session L) → List (Place L) → ℕ → (Session L → Told L) → Read L
reading_on ss ps i ask = read_by (slice_get ss i) ss ps i ask

-- What a request that writes a table answers, and all sessions and tables after it.
pub record Written (L : Type 0) : Type 0 where
  pub answer : Result ℕ (Refusal L)
  pub sessions : List (Session L)
  pub tables : List Table

abbrev pub written : {L : Type 0} → Result ℕ (Refusal L) → List (Session L) → List Table → Written L
written r ss ts = record { answer = r; sessions = ss; tables = ts }

abbrev pub written_by : {L : Type 0} → Option (Session L) → List (Session L) → List Table → ℕ → (Session L → Wrote L) → Written L
written_by None ss ts i ask = written (Err refusal.NoSession) ss ts
written_by (Some s) ss ts i ask = let o = ask s in written o.answer (slice_set ss i o.session) o.tables

-- A request that writes a table is asked of the session of its number, and changes no other; refusal 1 where there is none.
abbrev pub writing_on : {L : Type 0} → List (Session L) → List Table → ℕ → (Session L → Wrote L) → Written L
writing_on ss ts i ask = written_by (slice_get ss i) ss ts i ask
