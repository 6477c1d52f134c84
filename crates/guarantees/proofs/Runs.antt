-- Whole runs, seen at x. Assumes nothing.
use Rattle.std.proofs.Common.{Ok, Err, ◌≡◌, ℕ, Bool, true, false, cond, ◌||◌, List, [], ◌∷◌, map, set, Some, None, Option, sym, refl, ap, ◌∙◌, inl, inr}
use Rattle.std.specs.List.{slice_get}
use Rattle.std.proofs.lemmas.Bool.{cases_Bool, cond-false, true≢false, or_parts}
use Rattle.labels.specs.Kind.{Kind, Lattice}
use Rattle.sessions.specs.declared.Standing.{Standing}
use Rattle.sessions.specs.declared.Session.{Session}
use Rattle.sessions.specs.declared.Refusal.TheVariants.{NoSession}
use Rattle.sessions.specs.Steps.{Outcome, closed_session, open_session}
use Rattle.stores.specs.Tables.{Table}
use Rattle.stores.proofs.Puts.{nth_set, set_nth}
use Rattle.tables.specs.declared.records.TableRecord.{TableRecord}
use Rattle.monitor.specs.declared.requests.Ask.{Ask}
use Rattle.monitor.specs.declared.requests.Ask.TheVariants.{Open, Raise, LowerClearance, Seal, Unseal, Select, Insert, Delete, Update}
use Rattle.monitor.specs.declared.requests.Request.{Request}
use Rattle.monitor.specs.declared.requests.Answer.TheVariants.{Done}
use Rattle.monitor.specs.Replies.{Reply, reply, effect, of_session}
use Rattle.monitor.specs.Steps.{State, standing_of, turn_by, asking, step, run}
use Rattle.guarantees.specs.declared.views.SessionView.{SessionView}
use Rattle.guarantees.specs.declared.views.SessionView.TheVariants as view
use Rattle.guarantees.specs.Blanking.{blank_ask, blank_request, view_session}
use Rattle.guarantees.specs.Compare.{opens, low, within, seen_of, asked, seen}
use Rattle.guarantees.proofs.Lists.{over, nth_map, map_set}
use Rattle.guarantees.proofs.Chains.{cond_pair, stays_above}
use Rattle.guarantees.proofs.Masks.{masks, masks_again}
use Rattle.guarantees.proofs.Shown.{Shown, shown_of}
use Rattle.guarantees.proofs.Asks.{ask_steady, ask_high, ask_low, closed_low}

module _ {L : Type 0} (k : Kind L) (laws : Lattice k) (x : L) (rs : List (TableRecord L)) where
  -- What is seen of a monitor, with an empty table for each that is blanked whole.
  pub record Masked : Type 0 where
    pub sessions : List (SessionView L)
    pub tables : List Table

  abbrev pub masked : State L → Masked
  masked w = record { sessions = map (view_session k x) w.sessions; tables = masks k laws x rs w.tables }

  -- What is asked of a session that is above: only an opening comes.
  abbrev ask_above : List Table → Ask L → Shown k laws x rs
  ask_above ts (Open a b) = cond (k.flows a b) (shown_of k laws x rs (effect (reply (Ok Done) []) (open_session a b) ts)) (record { session = view.Above; returned = None; tables = masks k laws x rs ts })
  ask_above ts (Raise a) = record { session = view.Above; returned = None; tables = ts }
  ask_above ts (LowerClearance b) = record { session = view.Above; returned = None; tables = ts }
  ask_above ts (Seal v a) = record { session = view.Above; returned = None; tables = ts }
  ask_above ts (Unseal f) = record { session = view.Above; returned = None; tables = ts }
  ask_above ts (Select n p room) = record { session = view.Above; returned = None; tables = ts }
  ask_above ts (Insert n f g) = record { session = view.Above; returned = None; tables = ts }
  ask_above ts (Delete n p) = record { session = view.Above; returned = None; tables = ts }
  ask_above ts (Update n p f g) = record { session = view.Above; returned = None; tables = ts }

  -- The same steps, of what is seen.
  seen_ask : List Table → Ask L → SessionView L → Shown k laws x rs
  seen_ask ts a view.Closed = shown_of k laws x rs (asking k rs ts a closed_session)
  seen_ask ts a (view.Open at) = shown_of k laws x rs (asking k rs ts a (record { standing = Some at }))
  seen_ask ts a view.Above = ask_above ts a

  seen_turn : Masked → ℕ → Ask L → Option (SessionView L) → Masked × Option (Reply L)
  seen_turn v i a None = (v, Some (reply (Err NoSession) []))
  seen_turn v i a (Some s) = let o = seen_ask v.tables a s in (record { sessions = set v.sessions i o.session; tables = o.tables }, o.returned)

  seen_step : Masked → Request L → Masked × Option (Reply L)
  seen_step v u = seen_turn v u.session u.ask (slice_get v.sessions u.session)

  -- What is asked within x is seen as it is done to what is seen.
  above_opened : (ts : List Table) (at : Standing L) → k.flows at.label x ≡ false → (a : Ask L) → opens a ≡ true → shown_of k laws x rs (asking k rs ts a (record { standing = Some at })) ≡ ask_above (masks k laws x rs ts) (blank_ask k x a)
  above_opened ts at above (Open a b) e =
      cond_pair (λ (o : Outcome L Unit) (v : Shown k laws x rs). shown_of k laws x rs (of_session (λ _. Done) ts o) ≡ v) (k.flows a b)
      (λ _. cc (masks_again k laws x rs ts)) (λ _. cc (above, masks_again k laws x rs ts))
  above_opened ts at above (Raise a) e = absurd (true≢false (sym e))
  above_opened ts at above (LowerClearance b) e = absurd (true≢false (sym e))
  above_opened ts at above (Seal v a) e = absurd (true≢false (sym e))
  above_opened ts at above (Unseal f) e = absurd (true≢false (sym e))
  above_opened ts at above (Select n p room) e = absurd (true≢false (sym e))
  above_opened ts at above (Insert n f g) e = absurd (true≢false (sym e))
  above_opened ts at above (Delete n p) e = absurd (true≢false (sym e))
  above_opened ts at above (Update n p f g) e = absurd (true≢false (sym e))

  or_else : (b c : Bool) → (b || c) ≡ true → c ≡ false → b ≡ true
  or_else true c e f = refl
  or_else false c e f = absurd (true≢false (sym e ∙ f))

  ask_seen : (ts : List Table) (a : Ask L) (s : Session L) → (opens a || low k x s.standing) ≡ true → shown_of k laws x rs (asking k rs ts a s) ≡ seen_ask (masks k laws x rs ts) (blank_ask k x a) (view_session k x s)
  unfolding seen_ask
  ask_seen ts a s e = by s.standing e
    where
      by : (o : Option (Standing L)) → (opens a || low k x o) ≡ true → shown_of k laws x rs (asking k rs ts a (record { standing = o })) ≡ seen_ask (masks k laws x rs ts) (blank_ask k x a) (view_session k x (record { standing = o }))
      by None e = closed_low k laws rs ts x a
      by (Some at) e = elim (cases_Bool (k.flows at.label x)) [
        | inl h ↦ rw h (ask_low k laws rs ts at.label at.clearance x a)
        | inr h ↦ rw h (above_opened ts at h a (or_else _ _ e h))
      ]

  turn_seen : (w : State L) (u : Request L) (o : Option (Session L)) → slice_get w.sessions u.session ≡ o → (opens u.ask || low k x (standing_of o)) ≡ true →
      (let t = turn_by o w u.session (asking k rs w.tables u.ask) in (masked t.after, seen_of k x u t))
      ≡ seen_turn (masked w) u.session (blank_ask k x u.ask) (over (view_session k x) o)
  unfolding seen_turn
  turn_seen w u None e h = rw e
  turn_seen w u (Some s) e h =
      rw (nth_set w.sessions u.session s (asking k rs w.tables u.ask s).session e, map_set, ← (ask_seen w.tables u.ask s h))

  -- A request within x is seen as it is done to what is seen, blanked.
  step_seen : (w : State L) (u : Request L) → within k x w u ≡ true → (masked (step k rs w u).after, seen_of k x u (step k rs w u)) ≡ seen_step (masked w) (blank_request k x u)
  unfolding seen_step
  step_seen w u h = rw (nth_map (view_session k x) w.sessions u.session) (turn_seen w u (slice_get w.sessions u.session) refl h)

  above_turn : (w : State L) (u : Request L) (at : Standing L) → slice_get w.sessions u.session ≡ Some (record { standing = Some at }) → opens u.ask ≡ false → k.flows at.label x ≡ false →
      masked (turn_by (Some (record { standing = Some at })) w u.session (asking k rs w.tables u.ask)).after ≡ masked w
  above_turn w u at e no-open above =
      let t = ask_steady k laws rs w.tables at.label at.clearance u.ask no-open in
      let after-above : view_session k x (asking k rs w.tables u.ask (record { standing = Some at })).session ≡ view.Above =
      ap (view_session k x) t.stands ∙ cond-false _ _ _ (stays_above k laws t.rises above) in
      let was-above : slice_get (map (view_session k x) w.sessions) u.session ≡ Some view.Above =
      nth_map (view_session k x) w.sessions u.session ∙ rw (e, above) in
      rw (map_set, after-above, set_nth (map (view_session k x) w.sessions) u.session view.Above was-above, ask_high k laws rs w.tables at.label at.clearance x above u.ask)

  -- Any other request leaves what is seen.
  step_unseen : (w : State L) (u : Request L) → within k x w u ≡ false → masked (step k rs w u).after ≡ masked w
  step_unseen w u h = let parts = or_parts _ _ h in by (slice_get w.sessions u.session) refl parts.0 parts.1
    where
      by_standing : (o : Option (Standing L)) → slice_get w.sessions u.session ≡ Some (record { standing = o }) → opens u.ask ≡ false → low k x o ≡ false →
          masked (turn_by (Some (record { standing = o })) w u.session (asking k rs w.tables u.ask)).after ≡ masked w
      by_standing None e p q = absurd (true≢false q)
      by_standing (Some at) e p q = above_turn w u at e p q

      by : (o : Option (Session L)) → slice_get w.sessions u.session ≡ o → opens u.ask ≡ false → low k x (standing_of o) ≡ false → masked (turn_by o w u.session (asking k rs w.tables u.ask)).after ≡ masked w
      by None e p q = absurd (true≢false q)
      by (Some s) e p q = by_standing s.standing e p q

  pub seen_run : Masked → List (Request L) → List (Option (Reply L)) × Masked
  seen_run v [] = ([], v)
  seen_run v (u ∷ us) = let o = seen_step v u in let rest = seen_run o.0 us in (o.1 ∷ rest.0, rest.1)

  -- What is seen of a run is worked out from what is seen of its start, and its requests within x, blanked.
  pub run_seen : (w : State L) (us : List (Request L)) → (seen k x rs w us, masked (run k rs w us)) ≡ seen_run (masked w) (asked k x rs w us)
  unfolding seen_run
  run_seen w [] = refl
  run_seen w (u ∷ us) = let ih = run_seen (step k rs w u).after us in elim (cases_Bool (within k x w u)) [
    | inl h ↦ rw (h, ← (step_seen w u h), ← ih)
    | inr h ↦ rw (h, ← (step_unseen w u h)) ih
  ]
