-- A request on a table that passed the first tests, and the raise after them. Assumes nothing.
use Rattle.std.proofs.Common.{◌≡◌, ℕ, Bool, true, false, cond, List, [], ◌∷◌, Some, None, Ok, Err, Option, Result, refl, ap, ◌∙◌, arith}
use Rattle.labels.specs.Kind.{Kind}
use Rattle.sessions.specs.declared.Session.{Session}
use Rattle.sessions.specs.declared.Standing.{Standing}
use Rattle.sessions.specs.declared.Refusal.{Refusal}
use Rattle.sessions.specs.declared.Refusal.TheVariants.{FirstAboveTable, AboveClearance}
use Rattle.sessions.specs.Refusals.{tests}
use Rattle.sessions.specs.Steps.{Outcome, outcome, refused, if_open, open_session, raising}
use Rattle.stores.specs.Tables.{Table}
use Rattle.tables.specs.declared.records.TableRecord.{TableRecord}
use Rattle.tables.specs.declared.records.Entry.{Entry}
use Rattle.tables.specs.Records.{entry, record_of, if_table, on_table}

module _ {L : Type 0} (k : Kind L) where
  abbrev pub enters : L → L → TableRecord L → Result (Entry L) (Refusal L)
  enters c d r = Ok (entry c r)

  -- the session is open, and the table is there with a record in order
  pub record Entered (s : Session L) (o : Option (TableRecord L)) (e : Entry L) : Type 0 where
    pub clearance : L
    pub standing : s.standing ≡ Some (record { label = e.label; clearance = clearance })
    pub table : o ≡ Some e.«record»
    pub ordered : k.flows e.«record».first e.«record».table ≡ true

  entered_in : (s : Session L) (at : Standing L) (o : Option (TableRecord L)) (r : TableRecord L) (b : Bool) (e : Entry L) (other : Refusal L) → s.standing ≡ Some at → o ≡ Some r → k.flows r.first r.table ≡ b →
      Ok e ≡ cond b (enters at.label at.clearance r) (Err other) → Entered s o e
  entered_in s at o r true e other is there in_order h =
      let q : e ≡ entry at.label r = cc in
      record { clearance = at.clearance; standing = rw q is; table = rw q there; ordered = rw q in_order }
  entered_in s at o r false e other is there in_order h = let z : ◌≡◌ {A = ℕ} 0 1 = cc in absurd (omega arith)

  entered_at : (s : Session L) (o : Option (Standing L)) (t u : Option (TableRecord L)) (e : Entry L) → s.standing ≡ o → t ≡ u →
      Ok e ≡ if_open o Err (λ c d. if_table u c Err (λ r. tests ((k.flows r.first r.table, FirstAboveTable c) ∷ []) Err (enters c d r))) → Entered s t e
  entered_at s None t u e is there h = let z : ◌≡◌ {A = ℕ} 0 1 = cc in absurd (omega arith)
  entered_at s (Some at) t None e is there h = let z : ◌≡◌ {A = ℕ} 0 1 = cc in absurd (omega arith)
  entered_at s (Some at) t (Some r) e is there h = entered_in s at t r (k.flows r.first r.table) e _ is there refl h

  -- a raise that was not turned down
  pub record Raised (c d a : L) (s : Session L) : Type 0 where
    pub cleared : k.flows (k.join c a) d ≡ true
    pub session : s ≡ open_session (k.join c a) d

  abbrev done : Session L → Outcome L Unit
  done s = outcome (Ok tt) s

  raised_by : (b : Bool) (c d a : L) (s t : Session L) → k.flows (k.join c a) d ≡ b → done t ≡ cond b (done (open_session (k.join c a) d)) (refused s (AboveClearance c)) → Raised c d a t
  raised_by true c d a s t is h = record { cleared = is; session = ap (λ (o : Outcome L Unit). o.session) h }
  raised_by false c d a s t is h = let q = ap (λ (o : Outcome L Unit). o.answer) h in let z : ◌≡◌ {A = ℕ} 0 1 = cc in absurd (omega arith)

  raised_from : (s t : Session L) (c d a : L) → s.standing ≡ Some (record { label = c; clearance = d }) → done t ≡ raising k a s → Raised c d a t
  raised_from s t c d a e h = raised_by (k.flows (k.join c a) d) c d a s t refl (h ∙ rw e)

  -- the session was open, the table is there with a record in order, and the label was raised by the table's
  pub record RaisedIn (s t : Session L) (o : Option (TableRecord L)) (e : Entry L) : Type 0 where
    pub entered : Entered s o e
    pub raised : Raised e.label entered.clearance e.«record».table t

  pub raised_in : (s t : Session L) (rs : List (TableRecord L)) (ts : List Table) (n : ℕ) (e : Entry L) → Ok e ≡ on_table k s rs ts n Err enters → done t ≡ raising k e.«record».table s → RaisedIn s t (record_of rs ts n) e
  raised_in s t rs ts n e h u =
      let i = entered_at s s.standing (record_of rs ts n) (record_of rs ts n) e refl refl h in
      record { entered = i; raised = raised_from s t e.label i.clearance e.«record».table i.standing u }
