-- What an observer at x sees of what one request does, and how an open session moves. Assumes nothing.
use Rattle.std.proofs.Common.{◌≡◌, ℕ, zero, suc, ◌<◌, Bool, true, false, cond, ltb, List, [], ◌∷◌, length, Some, None, Option, Result, refl, arith}
use Rattle.std.specs.List.{slice_get}
use Rattle.std.proofs.lemmas.Bool.{ltb-true}
use Rattle.labels.specs.Kind.{Kind, Lattice}
use Rattle.sessions.specs.declared.Session.{Session}
use Rattle.sessions.specs.declared.Refusal.{Refusal}
use Rattle.sessions.specs.declared.Refusal.TheVariants.{NoTable, FirstAboveTable}
use Rattle.sessions.specs.Refusals.{tests}
use Rattle.sessions.specs.Steps.{open_session}
use Rattle.stores.specs.Tables.{Table}
use Rattle.stores.specs.Changes.{Changed}
use Rattle.tables.specs.declared.records.TableRecord.{TableRecord}
use Rattle.tables.specs.Records.{if_table, on_table}
use Rattle.monitor.specs.Replies.{Reply, Effect}
use Rattle.guarantees.specs.declared.views.SessionView.{SessionView}
use Rattle.guarantees.specs.Blanking.{blank_reply, view_session}
use Rattle.guarantees.specs.Compare.{low}
use Rattle.guarantees.proofs.Chains.{tests_pair}
use Rattle.guarantees.proofs.Masks.{masks, masks_length}

-- the element at a place before the end
nth_within : {A : Type 0} (xs : List A) (n : ℕ) → n < length xs → (a : A) × (slice_get xs n ≡ Some a)
nth_within [] n h = absurd (omega arith)
nth_within (x ∷ xs) zero h = (x, refl)
nth_within (x ∷ xs) (suc n) h = nth_within xs n (omega arith)

module _ {L : Type 0} (k : Kind L) (laws : Lattice k) where
  -- The label rises from c, the clearance falls from d, and the label stays below it.
  pub record Steady (c d : L) (s : Session L) : Type 0 where
    pub label : L
    pub clearance : L
    pub stands : s ≡ open_session label clearance
    pub rises : k.flows c label ≡ true
    pub falls : k.flows clearance d ≡ true
    pub cleared : k.flows c d ≡ true → k.flows label clearance ≡ true

  pub still : (c d : L) → Steady c d (open_session c d)
  still c d = record { label = c; clearance = d; stands = refl; rises = laws.reflexive c; falls = laws.reflexive d; cleared = λ h. h }

  pub raised : (c d a : L) → k.flows c a ≡ true → k.flows a d ≡ true → Steady c d (open_session a d)
  raised c d a up under = record { label = a; clearance = d; stands = refl; rises = up; falls = laws.reflexive d; cleared = λ _. under }

  module _ (rs : List (TableRecord L)) (n : ℕ) where
    -- What relates the refusals of two requests on the table n, and what they do once a record and a table are found, relates the requests.
    found : {A B : Type 0} (R : A → B → Type 0) (ts : List Table) (c d : L) (stop : Refusal L → A) (stop' : Refusal L → B) (ask : L → L → TableRecord L → A) (ask' : L → L → TableRecord L → B) →
        ((e : Refusal L) → R (stop e) (stop' e)) →
        ((r : TableRecord L) (t : Table) → slice_get rs n ≡ Some r → slice_get ts n ≡ Some t → k.flows r.first r.table ≡ true → R (ask c d r) (ask' c d r)) →
        (o : Option (TableRecord L)) (b : Bool) → slice_get rs n ≡ o → ltb n (length ts) ≡ b →
        R (if_table (cond b o None) c stop (λ r. tests ((k.flows r.first r.table, FirstAboveTable c) ∷ []) stop (ask c d r)))
        (if_table (cond b o None) c stop' (λ r. tests ((k.flows r.first r.table, FirstAboveTable c) ∷ []) stop' (ask' c d r)))
    found R ts c d stop stop' ask ask' f g None true e h = f (NoTable c)
    found R ts c d stop stop' ask ask' f g None false e h = f (NoTable c)
    found R ts c d stop stop' ask ask' f g (Some r) false e h = f (NoTable c)
    found R ts c d stop stop' ask ask' f g (Some r) true e h =
        let t = nth_within ts n (ltb-true n (length ts) h) in
        tests_pair R ((k.flows r.first r.table, FirstAboveTable c) ∷ []) stop (ask c d r) stop' (ask' c d r) f (λ p. g r t.0 e t.1 p.0)

    pub on_table_pair : {A B : Type 0} (R : A → B → Type 0) (ts : List Table) (c d : L) (stop : Refusal L → A) (stop' : Refusal L → B) (ask : L → L → TableRecord L → A) (ask' : L → L → TableRecord L → B) →
        ((e : Refusal L) → R (stop e) (stop' e)) →
        ((r : TableRecord L) (t : Table) → slice_get rs n ≡ Some r → slice_get ts n ≡ Some t → k.flows r.first r.table ≡ true → R (ask c d r) (ask' c d r)) →
        R (on_table k (open_session c d) rs ts n stop ask) (on_table k (open_session c d) rs ts n stop' ask')
    on_table_pair R ts c d stop stop' ask ask' f g = found R ts c d stop stop' ask ask' f g (slice_get rs n) (ltb n (length ts)) refl refl

    pub on_table_all : {A : Type 0} (P : A → Type 0) (ts : List Table) (c d : L) (stop : Refusal L → A) (ask : L → L → TableRecord L → A) →
        ((e : Refusal L) → P (stop e)) →
        ((r : TableRecord L) (t : Table) → slice_get rs n ≡ Some r → slice_get ts n ≡ Some t → k.flows r.first r.table ≡ true → P (ask c d r)) →
        P (on_table k (open_session c d) rs ts n stop ask)
    on_table_all P ts c d stop ask f g = on_table_pair (λ a _. P a) ts c d stop stop ask ask f g

  module _ (x : L) (rs : List (TableRecord L)) where
    -- What is seen: the session, what is returned if the session's label flows to x, and the tables.
    pub record Shown : Type 0 where
      pub session : SessionView L
      pub returned : Option (Reply L)
      pub tables : List Table

    abbrev pub shown_of : Effect L → Shown
    shown_of o = record { session = view_session k x o.session; returned = cond (low k x o.session.standing) (Some (blank_reply k x o.returned)) None; tables = masks k laws x rs o.tables }

    -- Two effects look the same.
    abbrev pub Same : Effect L → Effect L → Type 0
    Same o p = shown_of o ≡ shown_of p

    -- Two changes of the tables are answered the same and look the same.
    pub record Agree (o p : Changed (Result ℕ (Refusal L))) : Type 0 where
      pub answer : o.answer ≡ p.answer
      pub tables : masks k laws x rs o.tables ≡ masks k laws x rs p.tables

    -- The session's label is above x.
    abbrev pub Far : Effect L → Type 0
    Far o = (c : L) × (d : L) × (o.session ≡ open_session c d) × (k.flows c x ≡ false)

    -- then nothing is seen but the tables
    pub far : (o p : Effect L) → Far o → Far p → masks k laws x rs o.tables ≡ masks k laws x rs p.tables → Same o p
    far o p f g e = rw (f.2, f.3, g.2, g.3) (cc e)

    -- the same of two requests, one of them on blanked tables
    pub on_masked_pair : {A B : Type 0} (R : A → B → Type 0) (ts : List Table) (n : ℕ) (c d : L) (stop : Refusal L → A) (stop' : Refusal L → B) (ask : L → L → TableRecord L → A) (ask' : L → L → TableRecord L → B) →
        ((e : Refusal L) → R (stop e) (stop' e)) →
        ((r : TableRecord L) (t : Table) → slice_get rs n ≡ Some r → slice_get ts n ≡ Some t → k.flows r.first r.table ≡ true → R (ask c d r) (ask' c d r)) →
        R (on_table k (open_session c d) rs ts n stop ask) (on_table k (open_session c d) rs (masks k laws x rs ts) n stop' ask')
    on_masked_pair R ts n c d stop stop' ask ask' f g = rw (masks_length k laws x rs ts) (on_table_pair rs n R ts c d stop stop' ask ask' f g)
