-- What inserting, deleting and updating do to a table once their first tests passed, seen at x. Assumes nothing.
use Rattle.std.proofs.Common.{◌≡◌, ℕ, ◌+◌, true, false, not, leb, List, length, set, Some, Result, sym, refl, ap}
use lib.ListN.{length-map}
use Rattle.std.specs.List.{slice_get}
use Rattle.labels.specs.Kind.{Kind, Lattice}
use Rattle.sessions.specs.declared.Sealed.{Sealed}
use Rattle.sessions.specs.declared.Refusal.{Refusal}
use Rattle.stores.specs.declared.rows.Row.{Row}
use Rattle.stores.specs.declared.rows.AddRefusal.{AddRefusal}
use Rattle.stores.specs.Tables.{Table, key_limit}
use Rattle.stores.specs.Changes.{Changed, changed, grown, with_rows}
use Rattle.tables.specs.declared.records.TableRecord.{TableRecord}
use Rattle.tables.specs.declared.queries.Predicate.{Predicate}
use Rattle.tables.specs.Records.{second_label}
use Rattle.tables.specs.Queries.{matches, others, query_label}
use Rattle.tables.specs.Outcomes.{labelled}
use Rattle.tables.specs.Steps.{inserting_at, deleting_at, updating_at}
use Rattle.guarantees.specs.Blanking.{blank_sealed}
use Rattle.guarantees.proofs.Chains.{cond_pair, cond_all}
use Rattle.guarantees.proofs.Rows.{kept_map, all_map, value_low, added_same, query_same, matches_same, rewritten_same}
use Rattle.guarantees.proofs.Masks.{masks, masks_again, shown, shown_again, hidden_set, seen_set, nth_shown}
use Rattle.guarantees.proofs.Shown.{Agree}

module _ {L : Type 0} (k : Kind L) (laws : Lattice k) (rs : List (TableRecord L)) (n : ℕ) (x c : L) (r : TableRecord L) (ts : List Table) (t : Table) (er : slice_get rs n ≡ Some r) (et : slice_get ts n ≡ Some t) where
  abbrev masked : List Table → List Table
  masked us = masks k laws x rs us

  -- the label before the request
  module _ (b : L) where
    abbrev Hidden : Changed (Result ℕ (Refusal L)) → Type 0
    Hidden o = masked o.tables ≡ masked ts

    module _ (above : k.flows r.table x ≡ false) where
      put : (u : Table) → masked (set ts n u) ≡ masked ts
      put u = hidden_set k laws x r rs ts n t u er et above

      pub insert_hides : (f g : Sealed L) → Hidden (inserting_at k c r ts n f g)
      insert_hides f g = rw et (cond_all Hidden (k.flows g.label (second_label k r.second f.value))
          (λ _. cond_all (λ (o : Changed (Result ℕ AddRefusal)). masked o.tables ≡ masked ts) (leb t.limit (length t.rows)) (λ _. refl)
          (λ _. cond_all (λ (o : Changed (Result ℕ AddRefusal)). masked o.tables ≡ masked ts) (leb key_limit t.given) (λ _. refl) (λ _. put _)))
          (λ _. refl))

      pub delete_hides : (p : Predicate) → Hidden (deleting_at k c r ts n p)
      delete_hides p = rw et (cond_all Hidden (k.flows (query_label k r.second p.second t.rows) r.table) (λ _. put _) (λ _. refl))

      pub update_hides : (p : Predicate) (f g : Sealed L) → Hidden (updating_at k b c r ts n p f g)
      update_hides p f g =
          let q = query_label k r.second p.second t.rows in
          rw et (cond_all Hidden (k.flows q r.first)
          (λ _. cond_all Hidden (k.flows (k.join (k.join b g.label) q) (second_label k r.second f.value)) (λ _. put _) (λ _. refl))
          (λ _. refl))

    module _ (ordered : k.flows r.first r.table ≡ true) (low : k.flows r.table x ≡ true) where
      em : slice_get (masked ts) n ≡ Some (shown k laws x r t)
      em = nth_shown k laws x r rs ts n t er et low

      unchanged : {a : Result ℕ (Refusal L)} → Agree k laws x rs (changed a ts) (changed a (masked ts))
      unchanged = record { answer = refl; tables = sym (masks_again k laws x rs ts) }

      -- a sealed value that may go into a first field is seen
      first_seen : (f : Sealed L) → k.flows f.label r.first ≡ true → (blank_sealed k x f).value ≡ f.value
      first_seen f h = value_low k laws x f.label f.value (laws.transitive _ _ _ h (laws.transitive _ _ _ ordered low))

      abbrev Agreed : Changed (Result ℕ (Refusal L)) → Changed (Result ℕ (Refusal L)) → Type 0
      Agreed o p = Agree k laws x rs o p

      pub insert_agrees : (f g : Sealed L) → k.flows f.label r.first ≡ true → Agreed (inserting_at k c r ts n f g) (inserting_at k c r (masked ts) n (blank_sealed k x f) (blank_sealed k x g))
      insert_agrees f g h =
          let A : Changed (Result ℕ AddRefusal) → Changed (Result ℕ AddRefusal) → Type 0 = λ o p. Agreed (changed (labelled c o.answer) o.tables) (changed (labelled c p.answer) p.tables) in
          rw (first_seen f h, et, em, length-map) (cond_pair Agreed (k.flows g.label (second_label k r.second f.value))
          (λ fits. cond_pair A (leb t.limit (length t.rows)) (λ _. unchanged)
          (λ _. cond_pair A (leb key_limit t.given) (λ _. unchanged)
          (λ _. record {
            answer = refl;
            tables = seen_set k laws x r rs ts n (grown t f.value g.value) (grown (shown k laws x r t) f.value (blank_sealed k x g).value) er low
                (ap (λ (vs : List Row). record { limit = t.limit; given = t.given + 1; rows = vs }) (added_same k laws x r (t.given + 1) f.value g.value g.label fits t.rows));
          })))
          (λ _. unchanged))

      pub delete_agrees : (p : Predicate) → Agreed (deleting_at k c r ts n p) (deleting_at k c r (masked ts) n p)
      delete_agrees p = rw (et, em, query_same k laws x r p.second t.rows) (cond_pair Agreed (k.flows (query_label k r.second p.second t.rows) r.table)
          (λ h. let m = matches_same k laws x r p t.rows (laws.transitive _ _ _ h low) in
          rw (kept_map (matches p) _ t.rows m, kept_map (λ v. not (matches p v)) _ t.rows (all_map (λ v e. ap not e) _ m), length-map)
          (record { answer = refl; tables = seen_set k laws x r rs ts n (with_rows t (others p t.rows)) (shown k laws x r (with_rows t (others p t.rows))) er low (sym (shown_again k laws x r _)) }))
          (λ _. unchanged))

      pub update_agrees : (p : Predicate) (f g : Sealed L) → k.flows f.label r.first ≡ true → Agreed (updating_at k b c r ts n p f g) (updating_at k b c r (masked ts) n p (blank_sealed k x f) (blank_sealed k x g))
      update_agrees p f g h =
          let q = query_label k r.second p.second t.rows in
          let S = second_label k r.second f.value in
          rw (first_seen f h, et, em, query_same k laws x r p.second t.rows) (cond_pair Agreed (k.flows q r.first)
          (λ h'. cond_pair Agreed (k.flows (k.join (k.join b g.label) q) S)
          (λ fits. let m = matches_same k laws x r p t.rows (laws.transitive _ _ _ h' (laws.transitive _ _ _ ordered low)) in
          rw (kept_map (matches p) _ t.rows m, length-map)
          (record {
            answer = refl;
            tables = seen_set k laws x r rs ts n _ _ er low
                (ap (with_rows t) (rewritten_same k laws x r p f.value g.value g.label (laws.transitive _ _ _ (laws.transitive _ _ _ (laws.join_right b _) (laws.join_left _ q)) fits) t.rows m));
          }))
          (λ _. unchanged))
          (λ _. unchanged))
