-- Requests that write a table, seen at x. Assumes nothing.
use Rattle.std.proofs.Common.{◌≡◌, ℕ, Bool, true, false, List, Some, Result, sym, refl, ◌∙◌, inl, inr}
use Rattle.std.specs.List.{slice_get}
use Rattle.std.proofs.lemmas.Bool.{cases_Bool}
use Rattle.labels.specs.Kind.{Kind, Lattice}
use Rattle.sessions.specs.declared.Session.{Session}
use Rattle.sessions.specs.declared.Refusal.{Refusal}
use Rattle.sessions.specs.Refusals.{tests}
use Rattle.sessions.specs.Steps.{open_session}
use Rattle.stores.specs.Tables.{Table}
use Rattle.stores.specs.Changes.{Changed}
use Rattle.tables.specs.declared.records.TableRecord.{TableRecord}
use Rattle.tables.specs.Records.{on_table}
use Rattle.tables.specs.Outcomes.{Wrote, unwritten, wrote_as}
use Rattle.monitor.specs.declared.requests.Answer.{Answer}
use Rattle.monitor.specs.Replies.{of_writing}
use Rattle.guarantees.proofs.Chains.{Passed, tests_all, tests_pair, stays_above}
use Rattle.guarantees.proofs.Masks.{mask, masks, masks_again, nth_masks}
use Rattle.guarantees.proofs.Shown.{Steady, still, raised, on_table_all, on_masked_pair, Same, Agree, far}

-- the tests before the label is raised by the table's, and what follows them
abbrev Door : Type 0 → Type 0
Door L = L → L → TableRecord L → List (Bool × Refusal L)

abbrev Act : Type 0 → Type 0
Act L = List Table → L → TableRecord L → Changed (Result ℕ (Refusal L))

module _ {L : Type 0} (k : Kind L) (laws : Lattice k) (rs : List (TableRecord L)) (n : ℕ) where
  abbrev behind : Door L → Act L → List Table → Session L → L → L → TableRecord L → Wrote L
  behind door act ts s c d r = tests (door c d r) (unwritten s ts) (wrote_as (open_session (k.join c r.table) d) (act ts c r))

  -- Inserting, deleting and updating have this form.
  abbrev pub writing : Door L → Act L → List Table → Session L → Wrote L
  writing door act ts s = on_table k s rs ts n (unwritten s ts) (behind door act ts s)

  module _ (door : Door L) (ts : List Table) (c d : L) where
    abbrev s : Session L
    s = open_session c d

    abbrev up : TableRecord L → Session L
    up r = open_session (k.join c r.table) d

    pub writing_steady : (act : Act L) → ((r : TableRecord L) → Passed (door c d r) → k.flows (k.join c r.table) d ≡ true) → Steady k laws c d (writing door act ts s).session
    writing_steady act clear =
        let P : Wrote L → Type 0 = λ o. Steady k laws c d o.session in
        on_table_all k laws rs n P ts c d (unwritten s ts) (behind door act ts s) (λ _. still k laws c d)
        (λ r t e f h. tests_all P (door c d r) (unwritten s ts) (wrote_as (up r) (act ts c r)) (λ _. still k laws c d)
        (λ p. raised k laws c d _ (laws.join_left c _) (clear r p)))

    module _ (x : L) where
      abbrev masked : List Table → List Table
      masked us = masks k laws x rs us

      -- A table that is blanked whole looks the same after the request.
      abbrev pub Hides : Act L → List Table → Type 0
      Hides act us = (r : TableRecord L) (t : Table) → slice_get rs n ≡ Some r → slice_get us n ≡ Some t → k.flows r.table x ≡ false → masked (act us c r).tables ≡ masked us

      -- A session above x changes no table that x sees.
      pub writing_high : (act : Act L) → k.flows c x ≡ false → Hides act ts → ((r : TableRecord L) → k.flows r.first r.table ≡ true → Passed (door c d r) → k.flows c r.table ≡ true) →
          masked (writing door act ts s).tables ≡ masked ts
      writing_high act above hides under =
          let P : Wrote L → Type 0 = λ o. masked o.tables ≡ masked ts in
          on_table_all k laws rs n P ts c d (unwritten s ts) (behind door act ts s) (λ _. refl)
          (λ r t e f h. tests_all P (door c d r) (unwritten s ts) (wrote_as (up r) (act ts c r)) (λ _. refl)
          (λ p. hides r t e f (stays_above k laws (under r h p) above)))

      pub writing_low : (say : ℕ → Answer L) (act act' : Act L) → Hides act ts → Hides act' (masked ts) →
          ((r : TableRecord L) (t : Table) → slice_get rs n ≡ Some r → slice_get ts n ≡ Some t → k.flows r.first r.table ≡ true → Passed (door c d r) → k.flows r.table x ≡ true → Agree k laws x rs (act ts c r) (act' (masked ts) c r)) →
          Same k laws x rs (of_writing say (writing door act ts s)) (of_writing say (writing door act' (masked ts) s))
      writing_low say act act' hides hides' agree =
          let R : Wrote L → Wrote L → Type 0 = λ o p. Same k laws x rs (of_writing say o) (of_writing say p) in
          let same = masks_again k laws x rs ts in
          on_masked_pair k laws x rs R ts n c d (unwritten s ts) (unwritten s (masked ts)) (behind door act ts s) (behind door act' (masked ts) s) (λ _. cc same)
          (λ r t e f h. tests_pair R (door c d r) (unwritten s ts) (wrote_as (up r) (act ts c r)) (unwritten s (masked ts)) (wrote_as (up r) (act' (masked ts) c r)) (λ _. cc same)
          (λ p. elim (cases_Bool (k.flows r.table x)) [
            | inl low ↦ let a = agree r t e f h p low in rw a.answer (cc a.tables)
            | inr above ↦
                let up_above = stays_above k laws (laws.join_right c r.table) above in
                far k laws x rs (of_writing say (wrote_as (up r) (act ts c r))) (of_writing say (wrote_as (up r) (act' (masked ts) c r))) (_, d, refl, up_above) (_, d, refl, up_above)
                (hides r t e f above ∙ sym same ∙ sym (hides' r (mask k laws x r t) e (nth_masks k laws x r rs ts n t e f) above))
          ]))
