-- Two monitors compared by what an observer at the label x sees. Assumes nothing.
use Rattle.std.specs.Prelude.{◌≡◌, Bool, true, false, cond, ◌||◌, List, [], ◌∷◌, length, Some, None, Option}
use Rattle.std.specs.List.{AllByRecursion}
use Rattle.labels.specs.Kind.{Kind}
use Rattle.sessions.specs.declared.Standing.{Standing}
use Rattle.sessions.specs.Steps.{closed_session}
use Rattle.stores.specs.Tables.{SameLimits}
use Rattle.tables.specs.declared.records.TableRecord.{TableRecord}
use Rattle.monitor.specs.declared.requests.Ask.{Ask}
use Rattle.monitor.specs.declared.requests.Ask.TheVariants.{Open, Raise, LowerClearance, Seal, Unseal, Select, Insert, Delete, Update}
use Rattle.monitor.specs.declared.requests.Request.{Request}
use Rattle.monitor.specs.declared.requests.Event.{Event}
use Rattle.monitor.specs.Replies.{Reply}
use Rattle.monitor.specs.Steps.{State, Turn, standing_in, step, run}
use Rattle.guarantees.specs.declared.views.EventView.{EventView}
use Rattle.guarantees.specs.declared.views.EventView.TheVariants as event
use Rattle.guarantees.specs.Blanking.{blank_request, blank_result, blank_reply, view_of}

-- A new monitor: every session is closed, and no table has a row or a key given.
pub record New {L : Type 0} (w : State L) : Type 0 where
  pub sessions : AllByRecursion (λ s. s ≡ closed_session) w.sessions
  pub tables : AllByRecursion (λ t. (t.given ≡ 0) × (t.rows ≡ [])) w.tables

-- As many sessions, and as many tables, each with the same limit.
pub record Alike {L : Type 0} (v w : State L) : Type 0 where
  pub sessions : length v.sessions ≡ length w.sessions
  pub limits : SameLimits v.tables w.tables

-- Whether a request is an opening.
abbrev pub opens : {L : Type 0} → Ask L → Bool
opens (Open a b) = true
opens (Raise a) = false
opens (LowerClearance b) = false
opens (Seal v a) = false
opens (Unseal f) = false
opens (Select n p room) = false
opens (Insert n f g) = false
opens (Delete n p) = false
opens (Update n p f g) = false

module _ {L : Type 0} (k : Kind L) (x : L) where
  -- No session is open, or its label flows to x.
  abbrev pub low : Option (Standing L) → Bool
  low None = true
  low (Some at) = k.flows at.label x

  -- A request is within x if it is an opening or if, before it, no session of its number is open or its session's label flows to x.
  abbrev pub within : State L → Request L → Bool
  within w u = opens u.ask || low (standing_in w u.session)

  -- What is seen of what a request returns: all of it, blanked, if the request leaves its session's label within x; nothing otherwise.
  abbrev pub seen_of : Request L → Turn L → Option (Reply L)
  seen_of u o = cond (low (standing_in o.after u.session)) (Some (blank_reply k x o.returned)) None

  -- The same by what is kept of a request: a request that is not within x is not seen at all.
  abbrev pub view_event : Ask L → Event L → EventView L
  view_event a e = cond (opens a || low e.before) (cond (low e.after) (event.Seen (blank_result k x e.answer)) event.Above) event.Unseen

  module _ (rs : List (TableRecord L)) where
    -- The requests of a list that are within x, blanked, in their order.
    abbrev pub asked : State L → List (Request L) → List (Request L)
    asked w [] = []
    asked w (u ∷ us) = let rest = asked (step k rs w u).after us in cond (within w u) (blank_request k x u ∷ rest) rest

    -- What is seen of what these requests return, in their order.
    abbrev pub seen : State L → List (Request L) → List (Option (Reply L))
    seen w [] = []
    seen w (u ∷ us) = let o = step k rs w u in let rest = seen o.after us in cond (within w u) (seen_of u o ∷ rest) rest

-- Two runs look the same to an observer at x: what he sees returned, and what he sees of the monitors at the end.
pub record LookSame {L : Type 0} (k : Kind L) (rs : List (TableRecord L)) (x : L) (v : State L) (us : List (Request L)) (v_end : State L) (w : State L) (vs : List (Request L)) (w_end : State L) : Type 0 where
  pub returned : seen k x rs v us ≡ seen k x rs w vs
  pub at_end : view_of k x rs v_end ≡ view_of k x rs w_end

module _ {L : Type 0} (k : Kind L) where
  -- Two runs on new monitors with the same records, limits and number of sessions look the same to an observer at any x if the requests within x are the same in both, once blanked.
  abbrev pub NobodyLearnsHere : List (TableRecord L) → (v : State L) → List (Request L) → State L → (w : State L) → List (Request L) → State L → Type 0
  NobodyLearnsHere rs v us v_end w vs w_end = New v → New w → Alike v w →
      (x : L) → asked k x rs v us ≡ asked k x rs w vs → LookSame k rs x v us v_end w vs w_end

  -- Nobody learns what lies above his label: this holds of every two runs.
  abbrev pub NobodyLearnsAbove : Type 0
  NobodyLearnsAbove = (rs : List (TableRecord L)) (v w : State L) (us vs : List (Request L)) → NobodyLearnsHere rs v us (run k rs v us) w vs (run k rs w vs)
