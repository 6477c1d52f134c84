-- How sessions stand over a run. Assumes nothing.
use Rattle.std.proofs.Common.{◌≡◌, ℕ, zero, suc, true, false, List, [], ◌∷◌, set, Some, None, Option, sym, refl, ap, ◌∙◌, inl, inr, arith}
use Rattle.std.specs.List.{AllByRecursion, slice_get}
use Rattle.std.proofs.lemmas.Bool.{cases_Bool, cases_eq, true≢false}
use Rattle.labels.specs.Kind.{Kind, Lattice}
use Rattle.sessions.specs.declared.Standing.{Standing}
use Rattle.sessions.specs.declared.Session.{Session}
use Rattle.sessions.specs.Steps.{Outcome, closed_session, open_session}
use Rattle.stores.specs.Tables.{Table}
use Rattle.stores.proofs.Puts.{nth_set}
use Rattle.tables.specs.declared.records.TableRecord.{TableRecord}
use Rattle.monitor.specs.declared.requests.Ask.{Ask}
use Rattle.monitor.specs.declared.requests.Ask.TheVariants.{Open, Raise, LowerClearance, Seal, Unseal, Select, Insert, Delete, Update}
use Rattle.monitor.specs.declared.requests.Request.{Request}
use Rattle.monitor.specs.Steps.{State, turn_by, asking, step, run}
use Rattle.guarantees.specs.Compare.{New, opens}
use Rattle.guarantees.specs.Course.{Stands, GoesOn, OpensAnew, NotOpened}
use Rattle.guarantees.proofs.Lists.{nth_set_other}
use Rattle.guarantees.proofs.Chains.{cond_all}
use Rattle.guarantees.proofs.Asks.{ask_steady}

some_same : {A : Type 0} {a b : A} → ◌≡◌ {A = Option A} (Some a) (Some b) → a ≡ b
some_same e = cc

module _ {L : Type 0} (k : Kind L) (laws : Lattice k) (rs : List (TableRecord L)) where
  -- If a session is open, its label flows to its clearance.
  abbrev Cleared : Option (Standing L) → Type 0
  Cleared o = (at : Standing L) → o ≡ Some at → k.flows at.label at.clearance ≡ true

  open_cleared : (a b : L) → k.flows a b ≡ true → Cleared (open_session a b).standing
  open_cleared a b h at e = let p : record { label = a; clearance = b } ≡ at = cc in rw (← p) h

  not_opened_cleared : (ts : List Table) (a : Ask L) (o : Option (Standing L)) → opens a ≡ false → Cleared o → Cleared (asking k rs ts a (record { standing = o })).session.standing
  not_opened_cleared ts a (Some at) e f =
      let t = ask_steady k laws rs ts at.label at.clearance a e in
      rw t.stands (open_cleared t.label t.clearance (t.cleared (f at refl)))
  not_opened_cleared ts (Open a b) None e f = let z : ◌≡◌ {A = ℕ} 0 1 = cc in absurd (omega arith)
  not_opened_cleared ts (Raise a) None e f = f
  not_opened_cleared ts (LowerClearance b) None e f = f
  not_opened_cleared ts (Seal v a) None e f = f
  not_opened_cleared ts (Unseal g) None e f = f
  not_opened_cleared ts (Select n p room) None e f = f
  not_opened_cleared ts (Insert n g h) None e f = f
  not_opened_cleared ts (Delete n p) None e f = f
  not_opened_cleared ts (Update n p g h) None e f = f

  opened_cleared : (ts : List Table) (a : Ask L) (s : Session L) → opens a ≡ true → Cleared s.standing → Cleared (asking k rs ts a s).session.standing
  opened_cleared ts (Open a b) s e f = cond_all (λ (o : Outcome L Unit). Cleared o.session.standing) (k.flows a b) (open_cleared a b) (λ _. f)
  opened_cleared ts (Raise a) s e f = absurd (true≢false (sym e))
  opened_cleared ts (LowerClearance b) s e f = absurd (true≢false (sym e))
  opened_cleared ts (Seal v a) s e f = absurd (true≢false (sym e))
  opened_cleared ts (Unseal g) s e f = absurd (true≢false (sym e))
  opened_cleared ts (Select n p room) s e f = absurd (true≢false (sym e))
  opened_cleared ts (Insert n g h) s e f = absurd (true≢false (sym e))
  opened_cleared ts (Delete n p) s e f = absurd (true≢false (sym e))
  opened_cleared ts (Update n p g h) s e f = absurd (true≢false (sym e))

  ask_cleared : (ts : List Table) (a : Ask L) (s : Session L) → Cleared s.standing → Cleared (asking k rs ts a s).session.standing
  ask_cleared ts a s f = elim (cases_Bool (opens a)) [ inl e ↦ opened_cleared ts a s e f | inr e ↦ not_opened_cleared ts a s.standing e f ]

  -- The same of all sessions.
  abbrev AllCleared : State L → Type 0
  AllCleared w = (i : ℕ) (s : Session L) → slice_get w.sessions i ≡ Some s → Cleared s.standing

  turn_cleared : (w : State L) (u : Request L) (o : Option (Session L)) → slice_get w.sessions u.session ≡ o → AllCleared w → AllCleared (turn_by o w u.session (asking k rs w.tables u.ask)).after
  turn_cleared w u None e f i z g = f i z g
  turn_cleared w u (Some s) e f i z g = elim (cases_eq u.session i) [
    | inl p ↦ let q : (asking k rs w.tables u.ask s).session ≡ z = some_same (sym (nth_set w.sessions u.session s _ e) ∙ ap (slice_get (set w.sessions u.session (asking k rs w.tables u.ask s).session)) p ∙ g) in
        rw (← q) (ask_cleared w.tables u.ask s (f u.session s e))
    | inr p ↦ f i z (sym (nth_set_other w.sessions u.session i _ p) ∙ g)
  ]

  run_cleared : (w : State L) (us : List (Request L)) → AllCleared w → AllCleared (run k rs w us)
  run_cleared w [] f = f
  run_cleared w (u ∷ us) f = run_cleared (step k rs w u).after us (turn_cleared w u (slice_get w.sessions u.session) refl f)

  closed_cleared : (ss : List (Session L)) → AllByRecursion (λ s. s ≡ closed_session) ss → (i : ℕ) (s : Session L) → slice_get ss i ≡ Some s → Cleared s.standing
  closed_cleared [] f i s e at g = let z : ◌≡◌ {A = ℕ} 0 1 = cc in absurd (omega arith)
  closed_cleared (q ∷ ss) f zero s e at g =
      let h : ◌≡◌ {A = Option (Standing L)} None (Some at) = ap (λ (y : Session L). y.standing) (sym f.0 ∙ some_same e) ∙ g in
      let z : ◌≡◌ {A = ℕ} 0 1 = cc in absurd (omega arith)
  closed_cleared (q ∷ ss) f (suc i) s e at g = closed_cleared ss f.1 i s e at g

  module _ (i : ℕ) (c d : L) where
    -- Session i goes on from c and d, with its label below its clearance if it was.
    abbrev On : State L → Type 0
    On w = (a : L) × (b : L) × Stands w i a b × (k.flows c a ≡ true) × (k.flows b d ≡ true)

    still_on : (w : State L) → Stands w i c d → On w
    still_on w e = (c, d, e, laws.reflexive c, laws.reflexive d)

    opening_on : (w : State L) (u : Request L) (a : Ask L) → Stands w i c d → u.session ≡ i → u.ask ≡ a → opens a ≡ true → (OpensAnew k rs w u i → ⊥) →
        (asking k rs w.tables a (open_session c d)).session ≡ open_session c d
    opening_on w u (Open a b) e p q h never = elim (cases_Bool (k.flows a b)) [
      | inl f ↦ absurd (never (record { session = p; opening = rw q; done = rw (p, e, q, f) }))
      | inr f ↦ rw f
    ]
    opening_on w u (Raise a) e p q h never = absurd (true≢false (sym h))
    opening_on w u (LowerClearance b) e p q h never = absurd (true≢false (sym h))
    opening_on w u (Seal v a) e p q h never = absurd (true≢false (sym h))
    opening_on w u (Unseal g) e p q h never = absurd (true≢false (sym h))
    opening_on w u (Select n r room) e p q h never = absurd (true≢false (sym h))
    opening_on w u (Insert n f g) e p q h never = absurd (true≢false (sym h))
    opening_on w u (Delete n r) e p q h never = absurd (true≢false (sym h))
    opening_on w u (Update n r f g) e p q h never = absurd (true≢false (sym h))

    step_on : (w : State L) (u : Request L) → Stands w i c d → (OpensAnew k rs w u i → ⊥) → On (step k rs w u).after
    step_on w u e never = elim (cases_eq u.session i) [
      | inl p ↦ let here : slice_get w.sessions u.session ≡ Some (open_session c d) = ap (slice_get w.sessions) p ∙ e in
          let o = asking k rs w.tables u.ask (open_session c d) in
          let after : slice_get (set w.sessions u.session o.session) i ≡ Some o.session = ap (slice_get (set w.sessions u.session o.session)) (sym p) ∙ nth_set w.sessions u.session _ _ here in
          rw here (elim (cases_Bool (opens u.ask)) [
            | inl h ↦ (c, d, after ∙ ap (λ (s : Session L). Some s) (opening_on w u u.ask e p refl h never), laws.reflexive c, laws.reflexive d)
            | inr h ↦ let t = ask_steady k laws rs w.tables c d u.ask h in
                (t.label, t.clearance, after ∙ ap (λ (s : Session L). Some s) t.stands, t.rises, t.falls)
          ])
      | inr p ↦ other (slice_get w.sessions u.session) p
    ]
      where
        other : (o : Option (Session L)) → (u.session ≡ i → ⊥) → On (turn_by o w u.session (asking k rs w.tables u.ask)).after
        other None p = still_on w e
        other (Some s) p = (c, d, nth_set_other w.sessions u.session i _ p ∙ e, laws.reflexive c, laws.reflexive d)

  run_on : (w : State L) (us : List (Request L)) (i : ℕ) (c d : L) → Stands w i c d → NotOpened k rs w us i → On i c d (run k rs w us)
  run_on w [] i c d e h = still_on i c d w e
  run_on w (u ∷ us) i c d e h =
      let o = step_on i c d w u e h.0 in
      let p = run_on (step k rs w u).after us i o.0 o.1 o.2 h.1 in
      (p.0, p.1, p.2, laws.transitive _ _ _ o.3 p.3, laws.transitive _ _ _ p.4 o.4)

  pub goes_on : (w : State L) → New w → (us vs : List (Request L)) (i : ℕ) (c d : L) → Stands (run k rs w us) i c d → NotOpened k rs (run k rs w us) vs i → GoesOn k (run k rs (run k rs w us) vs) i c d
  goes_on w f us vs i c d e h =
      let o = run_on (run k rs w us) vs i c d e h in
      let cleared = run_cleared (run k rs w us) vs (run_cleared w us (closed_cleared w.sessions f.sessions)) in
      record { label = o.0; clearance = o.1; stands = o.2; rises = o.3; falls = o.4; cleared = cleared i _ o.2 _ refl }
