-- What selecting, inserting, deleting and updating answer and leave. Assumes nothing.
use Rattle.std.specs.Prelude.{ℕ, List, [], ◌∷◌, map, length, Ok, Err, Result, nat_le}
use Rattle.labels.specs.Kind.{Kind}
use Rattle.sessions.specs.declared.Sealed.{Sealed}
use Rattle.sessions.specs.declared.Session.{Session}
use Rattle.sessions.specs.declared.Refusal.{Refusal}
use Rattle.sessions.specs.declared.Refusal.TheVariants.{LabelAboveTarget, FirstAboveField, AboveClearance, QueryAboveClearance, QueryAboveTarget, SecondAboveField, TooFewPlaces}
use Rattle.sessions.specs.Refusals.{tests}
use Rattle.sessions.specs.Steps.{Outcome, outcome, refused, open_session}
use Rattle.stores.specs.declared.rows.Row.{Row}
use Rattle.stores.specs.Tables.{Table, rows_in}
use Rattle.stores.specs.Changes.{Changed, changed, adding, rows_put}
use Rattle.tables.specs.declared.records.Entry.{Entry}
use Rattle.tables.specs.declared.records.TableRecord.{TableRecord}
use Rattle.tables.specs.declared.queries.Predicate.{Predicate}
use Rattle.tables.specs.Records.{entry, second_label, on_table}
use Rattle.tables.specs.Queries.{matching, others, rewritten, query_label, place}
use Rattle.tables.specs.Outcomes.{Told, told, untold, Wrote, unwritten, wrote_as, labelled}

module _ {L : Type 0} (k : Kind L) where
  -- Looking at a table by the session's label c and clearance d and the table's record r.
  abbrev pub looking_by : List Table → ℕ → Predicate → Session L → L → L → TableRecord L → Outcome L (Entry L)
  looking_by ts n p s c d r =
      let c₁ = k.join c r.table in
      let c₂ = k.join c₁ (query_label k r.second p.second (rows_in ts n)) in
      tests ((k.flows c₁ d, AboveClearance c) ∷ []) (refused s)
      (tests ((k.flows c₂ d, QueryAboveClearance c₁) ∷ []) (refused (open_session c₁ d))
      (outcome (Ok (entry c₂ r)) (open_session c₂ d)))

  -- Looking at a table raises the label by the table's and then by the query's, and answers the raised label with the record.
  abbrev pub looking : List (TableRecord L) → List Table → ℕ → Predicate → Session L → Outcome L (Entry L)
  looking rs ts n p s = on_table k s rs ts n (refused s) (looking_by ts n p s)

  -- Selecting, once the table was looked at: the rows fill the first places, unless there are more rows than room.
  abbrev pub selecting_at : Result (Entry L) (Refusal L) → List Row → ℕ → Session L → Told L
  selecting_at (Err e) rows room s = untold s e
  selecting_at (Ok e) rows room s =
      tests ((nat_le (length rows) room, TooFewPlaces e.label) ∷ []) (untold s)
      (told (Ok (length rows)) s (map (place k e.«record») rows))

  -- Selecting looks at a table and fills places with the matching rows.
  abbrev pub selecting : List (TableRecord L) → List Table → ℕ → Predicate → ℕ → Session L → Told L
  selecting rs ts n p room s = let o = looking rs ts n p s in selecting_at o.answer (matching p (rows_in ts n)) room o.session

  -- Inserting, once the label is raised to c.
  abbrev pub inserting_at : L → TableRecord L → List Table → ℕ → Sealed L → Sealed L → Changed (Result ℕ (Refusal L))
  inserting_at c r ts n f g =
      tests ((k.flows g.label (second_label k r.second f.value), SecondAboveField c) ∷ []) (λ e. changed (Err e) ts)
      (let o = adding ts n f.value g.value in changed (labelled c o.answer) o.tables)

  -- Inserting by the session's label and clearance and the table's record.
  abbrev pub inserting_by : List Table → ℕ → Sealed L → Sealed L → Session L → L → L → TableRecord L → Wrote L
  inserting_by ts n f g s c d r =
      let c₁ = k.join c r.table in
      tests ((k.flows c r.table, LabelAboveTarget c) ∷ (k.flows f.label r.first, FirstAboveField c) ∷ (k.flows c₁ d, AboveClearance c) ∷ []) (unwritten s ts)
      (wrote_as (open_session c₁ d) (inserting_at c₁ r ts n f g))

  -- Inserting raises the label by the table's and adds a row.
  abbrev pub inserting : List (TableRecord L) → List Table → ℕ → Sealed L → Sealed L → Session L → Wrote L
  inserting rs ts n f g s = on_table k s rs ts n (unwritten s ts) (inserting_by ts n f g s)

  -- Deleting, once the label is raised to c.
  abbrev pub deleting_at : L → TableRecord L → List Table → ℕ → Predicate → Changed (Result ℕ (Refusal L))
  deleting_at c r ts n p =
      let rows = rows_in ts n in
      tests ((k.flows (query_label k r.second p.second rows) r.table, QueryAboveTarget c) ∷ []) (λ e. changed (Err e) ts)
      (changed (Ok (length (matching p rows))) (rows_put ts n (others p rows)))

  -- Deleting by the session's label and clearance and the table's record.
  abbrev pub deleting_by : List Table → ℕ → Predicate → Session L → L → L → TableRecord L → Wrote L
  deleting_by ts n p s c d r =
      let c₁ = k.join c r.table in
      tests ((k.flows c r.table, LabelAboveTarget c) ∷ (k.flows c₁ d, AboveClearance c) ∷ []) (unwritten s ts)
      (wrote_as (open_session c₁ d) (deleting_at c₁ r ts n p))

  -- Deleting raises the label by the table's and removes every matching row.
  abbrev pub deleting : List (TableRecord L) → List Table → ℕ → Predicate → Session L → Wrote L
  deleting rs ts n p s = on_table k s rs ts n (unwritten s ts) (deleting_by ts n p s)

  -- Updating, once the label is raised from b to c.
  abbrev pub updating_at : L → L → TableRecord L → List Table → ℕ → Predicate → Sealed L → Sealed L → Changed (Result ℕ (Refusal L))
  updating_at b c r ts n p f g =
      let rows = rows_in ts n in
      let q = query_label k r.second p.second rows in
      tests ((k.flows q r.first, QueryAboveTarget c) ∷ (k.flows (k.join (k.join b g.label) q) (second_label k r.second f.value), SecondAboveField c) ∷ []) (λ e. changed (Err e) ts)
      (changed (Ok (length (matching p rows))) (rows_put ts n (map (rewritten p f.value g.value) rows)))

  -- Updating by the session's label and clearance and the table's record.
  abbrev pub updating_by : List Table → ℕ → Predicate → Sealed L → Sealed L → Session L → L → L → TableRecord L → Wrote L
  updating_by ts n p f g s c d r =
      let c₁ = k.join c r.table in
      tests ((k.flows c r.first, LabelAboveTarget c) ∷ (k.flows f.label r.first, FirstAboveField c) ∷ (k.flows c₁ d, AboveClearance c) ∷ []) (unwritten s ts)
      (wrote_as (open_session c₁ d) (updating_at c c₁ r ts n p f g))

  -- Updating raises the label by the table's and gives every matching row both values.
  abbrev pub updating : List (TableRecord L) → List Table → ℕ → Predicate → Sealed L → Sealed L → Session L → Wrote L
  updating rs ts n p f g s = on_table k s rs ts n (unwritten s ts) (updating_by ts n p f g s)
