-- How a session stands over a run. Assumes nothing.
use Rattle.std.specs.Prelude.{◌≡◌, ℕ, true, List, [], ◌∷◌, ◌++◌, Some, Ok}
use Rattle.std.specs.List.{slice_get}
use Rattle.labels.specs.Kind.{Kind}
use Rattle.sessions.specs.Steps.{open_session}
use Rattle.tables.specs.declared.records.TableRecord.{TableRecord}
use Rattle.monitor.specs.declared.requests.Request.{Request}
use Rattle.monitor.specs.declared.requests.Answer.TheVariants.{Done}
use Rattle.monitor.specs.Steps.{State, step, run}
use Rattle.guarantees.specs.Compare.{New, opens}

-- Session i is open with the label c and the clearance d.
abbrev pub Stands : {L : Type 0} → State L → ℕ → L → L → Type 0
Stands w i c d = slice_get w.sessions i ≡ Some (open_session c d)

module _ {L : Type 0} (k : Kind L) where
  -- Session i is open, its label has risen from c, its clearance has fallen from d, and the label flows to the clearance.
  pub record GoesOn (w : State L) (i : ℕ) (c d : L) : Type 0 where
    pub label : L
    pub clearance : L
    pub stands : Stands w i label clearance
    pub rises : k.flows c label ≡ true
    pub falls : k.flows clearance d ≡ true
    pub cleared : k.flows label clearance ≡ true

  module _ (rs : List (TableRecord L)) where
    -- The request opens session i anew; an opening that is turned down opens nothing.
    pub record OpensAnew (w : State L) (u : Request L) (i : ℕ) : Type 0 where
      pub session : u.session ≡ i
      pub opening : opens u.ask ≡ true
      pub done : (step k rs w u).returned.answer ≡ Ok Done

    -- No request of a list opens session i anew.
    abbrev pub NotOpened : State L → List (Request L) → ℕ → Type 0
    NotOpened w [] i = Unit {0}
    NotOpened w (u ∷ us) i = (OpensAnew w u i → ⊥) × NotOpened (step k rs w u).after us i

module _ {L : Type 0} (k : Kind L) where
  -- In every run of a new monitor, over any stretch of it in which a session that is open is not opened anew, the session stays open, its label rises, its clearance falls, and the label flows to the clearance.
  abbrev pub LabelsOnlyRise : Type 0
  LabelsOnlyRise = (rs : List (TableRecord L)) (w : State L) → New w → (us vs : List (Request L)) (i : ℕ) (c d : L) →
      Stands (run k rs w us) i c d → NotOpened k rs (run k rs w us) vs i → GoesOn k (run k rs (run k rs w us) vs) i c d

  -- The same of one run, wherever it is cut in two.
  abbrev pub LabelsRiseHere : List (TableRecord L) → State L → List (Request L) → State L → Type 0
  LabelsRiseHere rs w ws w_end = New w → (us vs : List (Request L)) → ws ≡ us ++ vs → (i : ℕ) (c d : L) →
      Stands (run k rs w us) i c d → NotOpened k rs (run k rs w us) vs i → GoesOn k w_end i c d
