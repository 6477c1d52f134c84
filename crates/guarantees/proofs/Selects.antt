-- Selecting, seen at x. Assumes nothing.
use Rattle.std.proofs.Common.{◌≡◌, ℕ, true, false, cond, leb, List, length, Ok, sym, refl, inl, inr}
use lib.ListN.{length-map}
use Rattle.std.proofs.lemmas.Bool.{cases_Bool}
use Rattle.labels.specs.Kind.{Kind, Lattice}
use Rattle.sessions.specs.declared.Session.{Session}
use Rattle.sessions.specs.declared.Refusal.TheVariants.{QueryAboveClearance}
use Rattle.sessions.specs.Steps.{Outcome, outcome, refused, open_session}
use Rattle.stores.specs.declared.rows.Row.{Row}
use Rattle.stores.specs.Tables.{Table, rows_in}
use Rattle.tables.specs.declared.records.TableRecord.{TableRecord}
use Rattle.tables.specs.declared.records.Entry.{Entry}
use Rattle.tables.specs.declared.queries.Predicate.{Predicate}
use Rattle.tables.specs.Records.{entry}
use Rattle.tables.specs.Queries.{matches, matching, query_label}
use Rattle.tables.specs.Outcomes.{Told}
use Rattle.tables.specs.Steps.{looking_by, selecting_at, selecting}
use Rattle.monitor.specs.declared.requests.Answer.TheVariants.{Filled}
use Rattle.monitor.specs.Replies.{of_reading}
use Rattle.guarantees.proofs.Chains.{cond_pair, cond_all, stays_above, right_below}
use Rattle.guarantees.proofs.Rows.{kept_map, query_same, matches_same, places_same}
use Rattle.guarantees.proofs.Masks.{masks, masks_again, shown, nth_shown}
use Rattle.guarantees.proofs.Shown.{Steady, still, raised, on_table_all, on_masked_pair, Same, far}

module _ {L : Type 0} (k : Kind L) (laws : Lattice k) (rs : List (TableRecord L)) (n : ℕ) (p : Predicate) (room : ℕ) (ts : List Table) (c d : L) where
  abbrev s : Session L
  s = open_session c d

  -- what is selected, once the table was looked at
  abbrev picked : List Row → Outcome L (Entry L) → Told L
  picked rows o = selecting_at k o.answer rows room o.session

  abbrev looked : L → L → TableRecord L → Outcome L (Entry L)
  looked c₁ q r = cond (k.flows (k.join c₁ q) d) (outcome (Ok (entry (k.join c₁ q) r)) (open_session (k.join c₁ q) d)) (refused (open_session c₁ d) (QueryAboveClearance c₁))

  -- what holds of each session that is left holds of the one that is left
  look_all : (P : Session L → Type 0) (c₁ q : L) (r : TableRecord L) (rows : List Row) → P (open_session c₁ d) → (k.flows (k.join c₁ q) d ≡ true → P (open_session (k.join c₁ q) d)) → P (picked rows (looked c₁ q r)).session
  look_all P c₁ q r rows f g = cond_all (λ (o : Outcome L (Entry L)). P (picked rows o).session) (k.flows (k.join c₁ q) d)
      (λ h. cond_all (λ (o : Told L). P o.session) (leb (length rows) room) (λ _. g h) (λ _. g h)) (λ _. f)

  pub select_steady : Steady k laws c d (selecting k rs ts n p room s).session
  select_steady =
      let rows = matching p (rows_in ts n) in
      let P : Outcome L (Entry L) → Type 0 = λ o. Steady k laws c d (picked rows o).session in
      on_table_all k laws rs n P ts c d (refused s) (looking_by k ts n p s) (λ _. still k laws c d)
      (λ r t e f h.
      let c₁ = k.join c r.table in
      let q = query_label k r.second p.second (rows_in ts n) in
      cond_all P (k.flows c₁ d)
      (λ h₁. look_all (Steady k laws c d) c₁ q r rows (raised k laws c d c₁ (laws.join_left c _) h₁)
      (raised k laws c d (k.join c₁ q) (laws.transitive _ _ _ (laws.join_left c _) (laws.join_left c₁ q))))
      (λ _. still k laws c d))

  module _ (x : L) where
    abbrev masked : List Table
    masked = masks k laws x rs ts

    pub select_low : Same k laws x rs (of_reading Filled ts (selecting k rs ts n p room s)) (of_reading Filled masked (selecting k rs masked n p room s))
    select_low =
        let T : Told L → Told L → Type 0 = λ o o'. Same k laws x rs (of_reading Filled ts o) (of_reading Filled masked o') in
        let R : Outcome L (Entry L) → Outcome L (Entry L) → Type 0 = λ o o'. T (picked (matching p (rows_in ts n)) o) (picked (matching p (rows_in masked n)) o') in
        let same = masks_again k laws x rs ts in
        on_masked_pair k laws x rs R ts n c d (refused s) (refused s) (looking_by k ts n p s) (looking_by k masked n p s) (λ _. cc same)
        (λ r t e f h.
        let c₁ = k.join c r.table in
        elim (cases_Bool (k.flows r.table x)) [
          | inl low ↦
              let q = query_label k r.second p.second t.rows in
              let B = (shown k laws x r t).rows in
              let R' : Outcome L (Entry L) → Outcome L (Entry L) → Type 0 = λ o o'. T (picked (matching p t.rows) o) (picked (matching p B) o') in
              rw (f, nth_shown k laws x r rs ts n t e f low, query_same k laws x r p.second t.rows)
              (cond_pair R' (k.flows c₁ d) (λ _. cond_pair R' (k.flows (k.join c₁ q) d)
              (λ _. elim (cases_Bool (k.flows (k.join c₁ q) x)) [
                | inl below ↦ rw (kept_map (matches p) _ t.rows (matches_same k laws x r p t.rows (right_below k laws below)), length-map)
                    (cond_pair T (leb (length (matching p t.rows)) room)
                    (λ _. cc (same, places_same k laws x r (matching p t.rows))) (λ _. cc same))
                | inr above ↦ far k laws x rs (of_reading Filled ts (picked (matching p t.rows) (outcome (Ok (entry (k.join c₁ q) r)) (open_session (k.join c₁ q) d)))) (of_reading Filled masked (picked (matching p B) (outcome (Ok (entry (k.join c₁ q) r)) (open_session (k.join c₁ q) d))))
                    (k.join c₁ q, d, cond_all (λ (o : Told L). o.session ≡ open_session (k.join c₁ q) d) (leb (length (matching p t.rows)) room) (λ _. refl) (λ _. refl), above)
                    (k.join c₁ q, d, cond_all (λ (o : Told L). o.session ≡ open_session (k.join c₁ q) d) (leb (length (matching p B)) room) (λ _. refl) (λ _. refl), above) (sym same)
              ])
              (λ _. cc same)) (λ _. cc same))
          | inr above ↦
              let up = stays_above k laws (laws.join_right c r.table) above in
              let F : Session L → Type 0 = λ z. (a : L) × (b : L) × (z ≡ open_session a b) × (k.flows a x ≡ false) in
              let q = query_label k r.second p.second (rows_in ts n) in
              let q' = query_label k r.second p.second (rows_in masked n) in
              cond_pair R (k.flows c₁ d)
              (λ _. far k laws x rs (of_reading Filled ts (picked (matching p (rows_in ts n)) (looked c₁ q r))) (of_reading Filled masked (picked (matching p (rows_in masked n)) (looked c₁ q' r)))
              (look_all F c₁ q r (matching p (rows_in ts n)) (c₁, d, refl, up) (λ _. (k.join c₁ q, d, refl, stays_above k laws (laws.join_left c₁ q) up)))
              (look_all F c₁ q' r (matching p (rows_in masked n)) (c₁, d, refl, up) (λ _. (k.join c₁ q', d, refl, stays_above k laws (laws.join_left c₁ q') up))) (sym same))
              (λ _. cc same)
        ])
