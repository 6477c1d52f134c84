-- What is asked of one session, seen at x. Assumes nothing.
use Rattle.std.proofs.Common.{◌≡◌, Bool, false, List, [], ◌∷◌, ℤ, refl, inl, inr}
use Rattle.std.proofs.lemmas.Bool.{cases_Bool, true≢false}
use Rattle.labels.specs.Kind.{Kind, Lattice}
use Rattle.sessions.specs.declared.Sealed.{Sealed}
use Rattle.sessions.specs.declared.Session.{Session}
use Rattle.sessions.specs.declared.Refusal.{Refusal}
use Rattle.sessions.specs.declared.Refusal.TheVariants.{LabelAboveTarget, FirstAboveField, AboveClearance}
use Rattle.sessions.specs.Steps.{Outcome, closed_session, open_session}
use Rattle.stores.specs.Tables.{Table}
use Rattle.tables.specs.declared.records.TableRecord.{TableRecord}
use Rattle.tables.specs.Steps.{inserting_at, deleting_at, updating_at}
use Rattle.monitor.specs.declared.requests.Ask.{Ask}
use Rattle.monitor.specs.declared.requests.Ask.TheVariants.{Open, Raise, LowerClearance, Seal, Unseal, Select, Insert, Delete, Update}
use Rattle.monitor.specs.declared.requests.Answer.TheVariants.{Value, Key, Changed}
use Rattle.monitor.specs.Replies.{of_session}
use Rattle.monitor.specs.Steps.{asking}
use Rattle.guarantees.specs.Blanking.{blank_sealed, blank_ask}
use Rattle.guarantees.specs.Compare.{opens}
use Rattle.guarantees.proofs.Chains.{cond_pair, cond_all, right_below}
use Rattle.guarantees.proofs.Rows.{value_low}
use Rattle.guarantees.proofs.Masks.{masks, masks_again}
use Rattle.guarantees.proofs.Shown.{Steady, still, raised, Same}
use Rattle.guarantees.proofs.Writes.{writing_steady, writing_high, writing_low}
use Rattle.guarantees.proofs.Changes.{insert_hides, delete_hides, update_hides, insert_agrees, delete_agrees, update_agrees}
use Rattle.guarantees.proofs.Selects.{select_steady, select_low}

module _ {L : Type 0} (k : Kind L) (laws : Lattice k) (rs : List (TableRecord L)) where
  abbrev Tests : Type 0
  Tests = L → L → TableRecord L → List (Bool × Refusal L)

  -- the tests before the label is raised by the table's
  abbrev insert_door : Sealed L → Tests
  insert_door f c d r = (k.flows c r.table, LabelAboveTarget c) ∷ (k.flows f.label r.first, FirstAboveField c) ∷ (k.flows (k.join c r.table) d, AboveClearance c) ∷ []

  abbrev delete_door : Tests
  delete_door c d r = (k.flows c r.table, LabelAboveTarget c) ∷ (k.flows (k.join c r.table) d, AboveClearance c) ∷ []

  abbrev update_door : Sealed L → Tests
  update_door f c d r = (k.flows c r.first, LabelAboveTarget c) ∷ (k.flows f.label r.first, FirstAboveField c) ∷ (k.flows (k.join c r.table) d, AboveClearance c) ∷ []

  module _ (ts : List Table) (c d : L) where
    abbrev s : Session L
    s = open_session c d

    pub ask_steady : (a : Ask L) → opens a ≡ false → Steady k laws c d (asking k rs ts a s).session
    ask_steady (Open a b) e = absurd (true≢false e)
    ask_steady (Raise a) e = cond_all (λ (o : Outcome L Unit). Steady k laws c d o.session) (k.flows (k.join c a) d) (λ h. raised k laws c d _ (laws.join_left c a) h) (λ _. still k laws c d)
    ask_steady (LowerClearance b) e = cond_all (λ (o : Outcome L Unit). Steady k laws c d o.session) (k.flows c b)
        (λ h. cond_all (λ (o : Outcome L Unit). Steady k laws c d o.session) (k.flows b d)
        (λ h'. record { label = c; clearance = b; stands = refl; rises = laws.reflexive c; falls = h'; cleared = λ _. h }) (λ _. still k laws c d)) (λ _. still k laws c d)
    ask_steady (Seal v a) e = cond_all (λ (o : Outcome L (Sealed L)). Steady k laws c d o.session) (k.flows c a) (λ _. cond_all (λ (o : Outcome L (Sealed L)). Steady k laws c d o.session) (k.flows a d) (λ _. still k laws c d) (λ _. still k laws c d)) (λ _. still k laws c d)
    ask_steady (Unseal f) e = cond_all (λ (o : Outcome L ℤ). Steady k laws c d o.session) (k.flows (k.join c f.label) d) (λ h. raised k laws c d _ (laws.join_left c _) h) (λ _. still k laws c d)
    ask_steady (Select n p room) e = select_steady k laws rs n p room ts c d
    ask_steady (Insert n f g) e = writing_steady k laws rs n (insert_door f) ts c d (λ us b r. inserting_at k (k.join b r.table) r us n f g) (λ r h. h.1.1.0)
    ask_steady (Delete n p) e = writing_steady k laws rs n delete_door ts c d (λ us b r. deleting_at k (k.join b r.table) r us n p) (λ r h. h.1.0)
    ask_steady (Update n p f g) e = writing_steady k laws rs n (update_door f) ts c d (λ us b r. updating_at k b (k.join b r.table) r us n p f g) (λ r h. h.1.1.0)

    module _ (x : L) where
      abbrev masked : List Table
      masked = masks k laws x rs ts

      -- A session above x changes no table that x sees.
      pub ask_high : k.flows c x ≡ false → (a : Ask L) → masks k laws x rs (asking k rs ts a s).tables ≡ masked
      ask_high above (Open a b) = refl
      ask_high above (Raise a) = refl
      ask_high above (LowerClearance b) = refl
      ask_high above (Seal v a) = refl
      ask_high above (Unseal f) = refl
      ask_high above (Select n p room) = refl
      ask_high above (Insert n f g) = writing_high k laws rs n (insert_door f) ts c d x (λ us b r. inserting_at k (k.join b r.table) r us n f g) above
          (λ r t e h up. insert_hides k laws rs n x _ r ts t e h c up f g) (λ r _ h. h.0)
      ask_high above (Delete n p) = writing_high k laws rs n delete_door ts c d x (λ us b r. deleting_at k (k.join b r.table) r us n p) above
          (λ r t e h up. delete_hides k laws rs n x _ r ts t e h c up p) (λ r _ h. h.0)
      ask_high above (Update n p f g) = writing_high k laws rs n (update_door f) ts c d x (λ us b r. updating_at k b (k.join b r.table) r us n p f g) above
          (λ r t e h up. update_hides k laws rs n x _ r ts t e h c up p f g) (λ r ordered h. laws.transitive _ _ _ h.0 ordered)

      -- What is asked of an open session looks as what is asked of it, blanked, with blanked tables.
      pub ask_low : (a : Ask L) → Same k laws x rs (asking k rs ts a s) (asking k rs masked (blank_ask k x a) s)
      ask_low (Open a b) = cc (masks_again k laws x rs ts)
      ask_low (Raise a) = cc (masks_again k laws x rs ts)
      ask_low (LowerClearance b) = cc (masks_again k laws x rs ts)
      ask_low (Seal v a) = cc (masks_again k laws x rs ts)
      ask_low (Unseal f) =
          let same = masks_again k laws x rs ts in
          cond_pair (λ (o o' : Outcome L ℤ). Same k laws x rs (of_session Value ts o) (of_session Value masked o')) (k.flows (k.join c f.label) d)
          (λ _. elim (cases_Bool (k.flows (k.join c f.label) x)) [
            | inl e ↦ cc (same, value_low k laws x f.label f.value (right_below k laws e))
            | inr e ↦ cc (same, e)
          ])
          (λ _. cc same)
      ask_low (Select n p room) = select_low k laws rs n p room ts c d x
      ask_low (Insert n f g) = writing_low k laws rs n (insert_door f) ts c d x Key (λ us b r. inserting_at k (k.join b r.table) r us n f g) (λ us b r. inserting_at k (k.join b r.table) r us n (blank_sealed k x f) (blank_sealed k x g))
          (λ r t e h up. insert_hides k laws rs n x _ r ts t e h c up f g)
          (λ r t e h up. insert_hides k laws rs n x _ r masked t e h c up (blank_sealed k x f) (blank_sealed k x g))
          (λ r t e h ordered pass low. insert_agrees k laws rs n x _ r ts t e h c ordered low f g pass.1.0)
      ask_low (Delete n p) = writing_low k laws rs n delete_door ts c d x Changed (λ us b r. deleting_at k (k.join b r.table) r us n p) (λ us b r. deleting_at k (k.join b r.table) r us n p)
          (λ r t e h up. delete_hides k laws rs n x _ r ts t e h c up p)
          (λ r t e h up. delete_hides k laws rs n x _ r masked t e h c up p)
          (λ r t e h ordered pass low. delete_agrees k laws rs n x _ r ts t e h c ordered low p)
      ask_low (Update n p f g) = writing_low k laws rs n (update_door f) ts c d x Changed (λ us b r. updating_at k b (k.join b r.table) r us n p f g) (λ us b r. updating_at k b (k.join b r.table) r us n p (blank_sealed k x f) (blank_sealed k x g))
          (λ r t e h up. update_hides k laws rs n x _ r ts t e h c up p f g)
          (λ r t e h up. update_hides k laws rs n x _ r masked t e h c up p (blank_sealed k x f) (blank_sealed k x g))
          (λ r t e h ordered pass low. update_agrees k laws rs n x _ r ts t e h c ordered low p f g pass.1.0)

  -- The same of a closed session.
  pub closed_low : (ts : List Table) (x : L) (a : Ask L) → Same k laws x rs (asking k rs ts a closed_session) (asking k rs (masks k laws x rs ts) (blank_ask k x a) closed_session)
  closed_low ts x (Open a b) = cc (masks_again k laws x rs ts)
  closed_low ts x (Raise a) = cc (masks_again k laws x rs ts)
  closed_low ts x (LowerClearance b) = cc (masks_again k laws x rs ts)
  closed_low ts x (Seal v a) = cc (masks_again k laws x rs ts)
  closed_low ts x (Unseal f) = cc (masks_again k laws x rs ts)
  closed_low ts x (Select n p room) = cc (masks_again k laws x rs ts)
  closed_low ts x (Insert n f g) = cc (masks_again k laws x rs ts)
  closed_low ts x (Delete n p) = cc (masks_again k laws x rs ts)
  closed_low ts x (Update n p f g) = cc (masks_again k laws x rs ts)
