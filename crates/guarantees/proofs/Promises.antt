-- What is promised of runs, from the laws of the label kind. Assumes nothing.
use Rattle.std.proofs.Common.{◌≡◌, ℕ, Bool, true, false, cond, leb, List, [], ◌∷◌, ◌++◌, length, Some, None, Ok, Err, Option, Result, sym, refl, ap, ◌∙◌, ap₂, arith}
use Rattle.std.specs.List.{AllByRecursion}
use Rattle.labels.specs.Kind.{Kind, Lattice}
use Rattle.sessions.specs.declared.Session.{Session}
use Rattle.sessions.specs.Steps.{closed_session}
use Rattle.stores.specs.Tables.{Table, limits}
use Rattle.stores.specs.Layout.{new_tables}
use Rattle.tables.specs.declared.records.TableRecord.{TableRecord}
use Rattle.tables.specs.declared.queries.Place.{Place}
use Rattle.monitor.specs.declared.requests.Request.{Request}
use Rattle.monitor.specs.declared.requests.Event.{Event}
use Rattle.monitor.specs.declared.requests.ShortBuffer.{ShortBuffer}
use Rattle.monitor.specs.declared.requests.ShortBuffer.TheVariants.{Events, Places}
use Rattle.monitor.specs.Replies.{Reply}
use Rattle.monitor.specs.Steps.{State, step, run}
use Rattle.monitor.specs.Lists.{Listed, listed, short_of, if_room, serving_each, serving_all}
use Rattle.guarantees.specs.Blanking.{view_of}
use Rattle.guarantees.specs.Compare.{New, Alike, seen, NobodyLearnsHere, NobodyLearnsAbove}
use Rattle.guarantees.specs.Course.{LabelsOnlyRise, LabelsRiseHere}
use Rattle.guarantees.proofs.Masks.{unmask, unmasked}
use Rattle.guarantees.proofs.Runs.{Masked, masked, seen_run, run_seen}
use Rattle.guarantees.proofs.Courses.{goes_on}

closed_same : {L : Type 0} (ss ts : List (Session L)) → AllByRecursion (λ s. s ≡ closed_session) ss → AllByRecursion (λ s. s ≡ closed_session) ts → length ss ≡ length ts → ss ≡ ts
closed_same [] [] f g e = refl
closed_same [] (t ∷ ts) f g e = cc
closed_same (s ∷ ss) [] f g e = cc
closed_same (s ∷ ss) (t ∷ ts) f g e = let n : length ss ≡ length ts = cc in cc (f.0, g.0, closed_same ss ts f.1 g.1 n)

empty_same : (ss ts : List Table) → AllByRecursion (λ t. (t.given ≡ 0) × (t.rows ≡ [])) ss → AllByRecursion (λ t. (t.given ≡ 0) × (t.rows ≡ [])) ts → limits ts ≡ limits ss → ss ≡ ts
empty_same [] [] f g e = refl
empty_same [] (t ∷ ts) f g e = cc
empty_same (s ∷ ss) [] f g e = cc
empty_same (s ∷ ss) (t ∷ ts) f g e =
    let l : s.limit ≡ t.limit = cc in let n : limits ts ≡ limits ss = cc in let h = empty_same ss ts f.1 g.1 n in
    let one : s ≡ t = λ i. record { limit = l i; given = (f.0.0 ∙ sym g.0.0) i; rows = (f.0.1 ∙ sym g.0.1) i } in cc

empty_tables : (ls : List ℕ) → AllByRecursion (λ t. (t.given ≡ 0) × (t.rows ≡ [])) (new_tables ls)
empty_tables [] = tt
empty_tables (l ∷ ls) = ((refl, refl), empty_tables ls)

-- Closed sessions and a store as it is laid out make a new monitor.
pub new_monitor : {L : Type 0} (w : State L) (ls : List ℕ) → AllByRecursion (λ s. s ≡ closed_session) w.sessions → w.tables ≡ new_tables ls → New w
new_monitor w ls closed laid = record { sessions = closed; tables = rw laid (empty_tables ls) }

-- New monitors that are alike are the same.
new_same : {L : Type 0} (v w : State L) → New v → New w → Alike v w → v ≡ w
new_same v w f g a = λ i. record {
  sessions = closed_same v.sessions w.sessions f.sessions g.sessions a.sessions i;
  tables = empty_same v.tables w.tables f.tables g.tables a.limits i;
}

module _ {L : Type 0} (k : Kind L) (laws : Lattice k) where
  pub nobody_learns_above : NobodyLearnsAbove k
  nobody_learns_above rs v w us vs f g a x e =
      let same : (seen k x rs v us, masked k laws x rs (run k rs v us)) ≡ (seen k x rs w vs, masked k laws x rs (run k rs w vs)) =
      run_seen k laws x rs v us ∙ ap₂ (seen_run k laws x rs) (ap (masked k laws x rs) (new_same v w f g a)) e ∙ sym (run_seen k laws x rs w vs) in
      let views : (u : State L) → view_of k x rs u ≡ record { sessions = (masked k laws x rs u).sessions; tables = unmask k laws x rs (masked k laws x rs u).tables } =
      λ u. rw (unmasked k laws x rs u.tables) in
      record {
        returned = ap (λ (o : List (Option (Reply L)) × Masked k laws x rs). o.0) same;
        at_end = views (run k rs v us) ∙ ap (λ (o : List (Option (Reply L)) × Masked k laws x rs). record { sessions = o.1.sessions; tables = unmask k laws x rs o.1.tables }) same ∙ sym (views (run k rs w vs));
      }

  pub labels_only_rise : LabelsOnlyRise k
  labels_only_rise rs w f us vs i c d e h = goes_on k laws rs w f us vs i c d e h

  -- The run that a call made is the one of the definitions.
  pub served_run : (rs : List (TableRecord L)) (w w_end : State L) (us : List (Request L)) (es es' : List (Event L)) (ps ps' : List (Place L)) (r : Result Unit ShortBuffer) → r ≡ Ok tt →
      listed r w_end es' ps' ≡ serving_all k rs w us es ps → w_end ≡ run k rs w us
  served_run rs w w_end us es es' ps ps' r ok = by (leb (length us) (length es)) (short_of 0 (length ps) us)
    where
      refused : {A : Type 0} (e : ShortBuffer) (v : State L) → listed r w_end es' ps' ≡ listed (Err e) v es ps → A
      refused e v h = let q : ◌≡◌ {A = Result Unit ShortBuffer} (Ok tt) (Err e) = sym ok ∙ ap (λ (o : Listed L). o.outcome) h in let z : ◌≡◌ {A = ℕ} 0 1 = cc in absurd (omega arith)

      by : (b : Bool) (o : Option ℕ) → listed r w_end es' ps' ≡ cond b (if_room o (λ e. listed (Err e) w es ps) (serving_each k rs w us es ps)) (listed (Err Events) w es ps) → w_end ≡ run k rs w us
      by false o h = refused Events w h
      by true None h = ap (λ (o : Listed L). o.monitor) h
      by true (Some n) h = refused (Places n) w h

  run_join : (rs : List (TableRecord L)) (w : State L) (us vs : List (Request L)) → run k rs w (us ++ vs) ≡ run k rs (run k rs w us) vs
  run_join rs w [] vs = refl
  run_join rs w (u ∷ us) vs = run_join rs (step k rs w u).after us vs

  pub nobody_learns_here : (rs : List (TableRecord L)) (v w v_end w_end : State L) (us vs : List (Request L)) → v_end ≡ run k rs v us → w_end ≡ run k rs w vs → NobodyLearnsHere k rs v us v_end w vs w_end
  nobody_learns_here rs v w v_end w_end us vs p q = rw (p, q) (nobody_learns_above rs v w us vs)

  pub labels_rise_here : (rs : List (TableRecord L)) (w w_end : State L) (ws : List (Request L)) → w_end ≡ run k rs w ws → LabelsRiseHere k rs w ws w_end
  labels_rise_here rs w w_end ws p f us vs cut i c d e h = rw (p, cut, run_join rs w us vs) (goes_on k laws rs w f us vs i c d e h)
