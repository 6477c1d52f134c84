-- What an observer at the label x sees: everything else is blanked. Assumes nothing.
use Rattle.std.specs.Prelude.{◌≡◌, ℕ, true, cond, ◌↔◌, List, [], ◌∷◌, map, length, ℤ, pos, Some, None, Ok, Err, Option, Result}
use Rattle.std.specs.List.{slice_get}
use Rattle.labels.specs.Kind.{Kind}
use Rattle.sessions.specs.declared.Sealed.{Sealed}
use Rattle.sessions.specs.declared.Standing.{Standing}
use Rattle.sessions.specs.declared.Session.{Session}
use Rattle.sessions.specs.declared.Refusal.{Refusal}
use Rattle.sessions.specs.Steps.{sealed_value}
use Rattle.stores.specs.declared.rows.Row.{Row}
use Rattle.stores.specs.Tables.{Table}
use Rattle.stores.specs.Changes.{row, with_rows}
use Rattle.tables.specs.declared.records.TableRecord.{TableRecord}
use Rattle.tables.specs.declared.queries.Place.{Place}
use Rattle.tables.specs.Records.{second_label}
use Rattle.monitor.specs.declared.requests.Ask.{Ask}
use Rattle.monitor.specs.declared.requests.Ask.TheVariants.{Open, Raise, LowerClearance, Seal, Unseal, Select, Insert, Delete, Update}
use Rattle.monitor.specs.declared.requests.Request.{Request}
use Rattle.monitor.specs.declared.requests.Answer.{Answer}
use Rattle.monitor.specs.declared.requests.Answer.TheVariants as answer
use Rattle.monitor.specs.Replies.{Reply, reply}
use Rattle.monitor.specs.Steps.{State}
use Rattle.guarantees.specs.declared.views.SessionView.{SessionView}
use Rattle.guarantees.specs.declared.views.SessionView.TheVariants as view
use Rattle.guarantees.specs.declared.views.TableView.{TableView}
use Rattle.guarantees.specs.declared.views.TableView.TheVariants as table

-- What is seen of one table of a number: that there is none, that it is blanked whole, or the number of its rows.
abbrev pub table_view : Option (Option Table) → TableView
table_view None = table.Missing
table_view (Some None) = table.Hidden
table_view (Some (Some t)) = table.Rows (length t.rows)

-- The row at a place of a table that is seen, counted from 0; none beyond the last.
abbrev pub row_view : Option (Option Table) → ℕ → Option Row
row_view None place = None
row_view (Some None) place = None
row_view (Some (Some t)) place = slice_get t.rows place

-- What is seen of a monitor: its sessions, and its tables, none where a table is blanked whole.
pub record View (L : Type 0) : Type 0 where
  pub sessions : List (SessionView L)
  pub tables : List (Option Table)

module _ {L : Type 0} (k : Kind L) (x : L) where
  -- A value under the label a stays if a flows to x; otherwise 0 stands in its place.
  abbrev pub blank_value : L → ℤ → ℤ
  blank_value a v = cond (k.flows a x) v (pos 0)

  -- A sealed value keeps its label, and its value only if that label flows to x.
  abbrev pub blank_sealed : Sealed L → Sealed L
  blank_sealed f = sealed_value f.label (blank_value f.label f.value)

  -- Blanking keeps as much as it should and no more: two sealed values are equal when blanked exactly if their labels are equal and, where the label flows to x, their values are too.
  abbrev pub KeepsWhatIsSeen : Sealed L → Type 0
  KeepsWhatIsSeen f = (g : Sealed L) → (blank_sealed f ≡ blank_sealed g) ↔ ((f.label ≡ g.label) × (k.flows f.label x ≡ true → f.value ≡ g.value))

  -- The sealed values of a request are blanked; all else that is asked with it stays.
  abbrev pub blank_ask : Ask L → Ask L
  blank_ask (Open a b) = Open a b
  blank_ask (Raise a) = Raise a
  blank_ask (LowerClearance b) = LowerClearance b
  blank_ask (Seal v a) = Seal v a
  blank_ask (Unseal f) = Unseal (blank_sealed f)
  blank_ask (Select n p room) = Select n p room
  blank_ask (Insert n f g) = Insert n (blank_sealed f) (blank_sealed g)
  blank_ask (Delete n p) = Delete n p
  blank_ask (Update n p f g) = Update n p (blank_sealed f) (blank_sealed g)

  -- A request with its sealed values blanked.
  abbrev pub blank_request : Request L → Request L
  blank_request u = record { session = u.session; ask = blank_ask u.ask }

  -- The sealed values of an answer and of its places are blanked; keys, counts, refusals and unsealed values stay.
  abbrev pub blank_place : Place L → Place L
  blank_place p = record { key = p.key; first = blank_sealed p.first; second = blank_sealed p.second }

  -- An answer with its sealed value blanked, if it has one.
  abbrev pub blank_answer : Answer L → Answer L
  blank_answer answer.Done = answer.Done
  blank_answer (answer.Sealed f) = answer.Sealed (blank_sealed f)
  blank_answer (answer.Value v) = answer.Value v
  blank_answer (answer.Filled n) = answer.Filled n
  blank_answer (answer.Key n) = answer.Key n
  blank_answer (answer.Changed n) = answer.Changed n

  -- What a request is answered, blanked; a refusal stays.
  abbrev pub blank_result : Result (Answer L) (Refusal L) → Result (Answer L) (Refusal L)
  blank_result (Ok a) = Ok (blank_answer a)
  blank_result (Err e) = Err e

  -- All that is returned, blanked.
  abbrev pub blank_reply : Reply L → Reply L
  blank_reply r = reply (blank_result r.answer) (map blank_place r.places)

  -- A row keeps its key and first field; its second field is blanked as if sealed under the label that its first field gives.
  abbrev pub blank_row : TableRecord L → Row → Row
  blank_row r v = row v.key v.first (blank_value (second_label k r.second v.first) v.second)

  -- The record of a table whose label flows to x.
  abbrev pub seen_record : Option (TableRecord L) → Option (TableRecord L)
  seen_record None = None
  seen_record (Some r) = cond (k.flows r.table x) (Some r) None

  -- A table whose label does not flow to x, or without a record, is blanked whole; otherwise its limit and the keys given stay, and its rows are blanked.
  abbrev pub view_table : Option (TableRecord L) → Table → Option Table
  view_table None t = None
  view_table (Some r) t = Some (with_rows t (map (blank_row r) t.rows))

  -- Each table as it is seen, by the record of its number.
  abbrev pub view_tables : List (TableRecord L) → List Table → List (Option Table)
  view_tables rs [] = []
  view_tables [] (t ∷ ts) = view_table (seen_record None) t ∷ view_tables [] ts
  view_tables (r ∷ rs) (t ∷ ts) = view_table (seen_record (Some r)) t ∷ view_tables rs ts

  -- An open session whose label does not flow to x is merely above; every other stays.
  abbrev pub view_standing : Option (Standing L) → SessionView L
  view_standing None = view.Closed
  view_standing (Some at) = cond (k.flows at.label x) (view.Open at) view.Above

  -- A session as it is seen.
  abbrev pub view_session : Session L → SessionView L
  view_session s = view_standing s.standing

  -- A monitor as it is seen: every session and every table.
  abbrev pub view_of : List (TableRecord L) → State L → View L
  view_of rs w = record { sessions = map view_session w.sessions; tables = view_tables rs w.tables }
