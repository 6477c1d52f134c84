-- The premises of what is promised of two monitors are met by the two histories. Assumes nothing.
use Rattle.std.proofs.Common.{◌≡◌, ℕ, true, leb, List, length, None, Ok, Result, refl, ap, ◌∙◌}
use Rattle.labels.specs.declared.Rung.{Rung}
use Rattle.labels.specs.Rung.{rungs}
use Rattle.tables.specs.declared.records.TableRecord.{TableRecord}
use Rattle.tables.specs.declared.queries.Place.{Place}
use Rattle.monitor.specs.declared.requests.Request.{Request}
use Rattle.monitor.specs.declared.requests.Event.{Event}
use Rattle.monitor.specs.declared.requests.ShortBuffer.{ShortBuffer}
use Rattle.monitor.specs.Steps.{State}
use Rattle.monitor.specs.Lists.{Listed, listed, short_of, serving_all}
use Rattle.guarantees.specs.Compare.{New, Alike, asked, NobodyLearnsHere}
use Rattle.guarantees.proofs.Promises.{new_monitor}
use Rattle.two_histories.specs.Histories.{observer_label, table_records, table_limits, start, left_history, right_history, playing, HistoriesLookSame}

-- A history is served where n events and m places suffice for it.
pub all_served : (us : List (Request Rung)) (n m : ℕ) (w : State Rung) (es es' : List (Event Rung)) (ps ps' : List (Place Rung)) (r : Result Unit ShortBuffer) →
    leb (length us) n ≡ true → short_of 0 m us ≡ None → length es ≡ n → length ps ≡ m → listed r w es' ps' ≡ playing us es ps → r ≡ Ok tt
unfolding playing
all_served us n m w es es' ps ps' r p q e f h = ap (λ (o : Listed Rung). o.outcome) h ∙ rw (e, f, p, q) refl

new_start : New start
new_start = new_monitor start table_limits (refl, (refl, (refl, tt))) refl

alike : Alike start start
alike = record { sessions = refl; limits = refl }

-- What was served on monitors at the start is the history of the definitions.
pub played : (rs : List (TableRecord Rung)) (v : State Rung) (us hs : List (Request Rung)) (es : List (Event Rung)) (ps : List (Place Rung)) (o : Listed Rung) →
    rs ≡ table_records → v ≡ start → us ≡ hs → o ≡ serving_all rungs rs v us es ps → o ≡ playing hs es ps
unfolding playing
played rs v us hs es ps o e p a h = h ∙ (λ i. serving_all rungs (e i) (p i) (a i) es ps)

-- The requests within the observer's label are the same in both histories, once blanked.
asked_same : asked rungs observer_label table_records start left_history ≡ asked rungs observer_label table_records start right_history
asked_same = refl

pub look_same : (rs : List (TableRecord Rung)) (v w v_end w_end : State Rung) (us vs : List (Request Rung)) →
    rs ≡ table_records → v ≡ start → w ≡ start → us ≡ left_history → vs ≡ right_history →
    NobodyLearnsHere rungs rs v us v_end w vs w_end → HistoriesLookSame v_end w_end
look_same rs v w v_end w_end us vs e p q a b promised =
    let here : NobodyLearnsHere rungs table_records start left_history v_end start right_history w_end =
    coe 0 1 (i. NobodyLearnsHere rungs (e i) (p i) (a i) v_end (q i) (b i) w_end) promised in
    here new_start new_start alike observer_label asked_same
