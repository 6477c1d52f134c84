-- What each request on a session answers and leaves. Assumes nothing.
use Rattle.std.specs.Prelude.{ℕ, List, [], ◌∷◌, ℤ, Some, None, Ok, Err, Option, Result, slice_set}
use Rattle.std.specs.List.{slice_get}
use Rattle.labels.specs.Kind.{Kind}
use Rattle.sessions.specs.declared.Sealed.{Sealed}
use Rattle.sessions.specs.declared.Standing.{Standing}
use Rattle.sessions.specs.declared.Session.{Session}
use Rattle.sessions.specs.declared.Refusal.{Refusal}
use Rattle.sessions.specs.declared.Refusal.TheVariants.{NoSession, SessionClosed, OutOfRange, AboveClearance}
use Rattle.sessions.specs.Refusals.{tests}

-- A closed session.
abbrev pub closed_session : {L : Type 0} → Session L
closed_session = record { standing = None }

-- A session that is open with a label and a clearance.
abbrev pub open_session : {L : Type 0} → L → L → Session L
open_session c d = record { standing = Some (record { label = c; clearance = d }) }

-- A value under a label.
abbrev pub sealed_value : {L : Type 0} → L → ℤ → Sealed L
sealed_value a v = record { label = a; value = v }

-- What a request answers, and its session after it.
pub record Outcome (L A : Type 0) : Type 0 where
  pub answer : Result A (Refusal L)
  pub session : Session L

abbrev pub outcome : {L A : Type 0} → Result A (Refusal L) → Session L → Outcome L A
outcome r s = record { answer = r; session = s }

-- A refusal leaves the session as it was.
abbrev pub refused : {L A : Type 0} → Session L → Refusal L → Outcome L A
refused s e = outcome (Err e) s

-- What an open session is asked by its label and clearance; a closed one gives refusal 2.
abbrev pub if_open : {L X : Type 0} → Option (Standing L) → (Refusal L → X) → (L → L → X) → X
if_open None stop ask = stop SessionClosed
if_open (Some at) stop ask = ask at.label at.clearance

module _ {L : Type 0} (k : Kind L) where
  -- Opening sets the label to a and the clearance to b, whether or not the session was open.
  abbrev pub opening : L → L → Session L → Outcome L Unit
  opening a b s = tests ((k.flows a b, OutOfRange) ∷ []) (refused s) (outcome (Ok tt) (open_session a b))

  -- Raising to a joins the label with a.
  abbrev pub raising : L → Session L → Outcome L Unit
  raising a s = if_open s.standing (refused s) (λ c d.
      tests ((k.flows (k.join c a) d, AboveClearance c) ∷ []) (refused s)
      (outcome (Ok tt) (open_session (k.join c a) d)))

  -- Lowering the clearance to b sets it to b.
  abbrev pub lowering : L → Session L → Outcome L Unit
  lowering b s = if_open s.standing (refused s) (λ c d.
      tests ((k.flows c b, OutOfRange) ∷ (k.flows b d, OutOfRange) ∷ []) (refused s)
      (outcome (Ok tt) (open_session c b)))

  -- Sealing v under a answers the sealed value and leaves the session as it was.
  abbrev pub sealing : ℤ → L → Session L → Outcome L (Sealed L)
  sealing v a s = if_open s.standing (refused s) (λ c d.
      tests ((k.flows c a, OutOfRange) ∷ (k.flows a d, OutOfRange) ∷ []) (refused s)
      (outcome (Ok (sealed_value a v)) s))

  -- Unsealing joins the label with the seal's label and answers the value.
  abbrev pub unsealing : Sealed L → Session L → Outcome L ℤ
  unsealing f s = if_open s.standing (refused s) (λ c d.
      tests ((k.flows (k.join c f.label) d, AboveClearance c) ∷ []) (refused s)
      (outcome (Ok f.value) (open_session (k.join c f.label) d)))

-- What a request answers, and all sessions after it.
pub record Served (L A : Type 0) : Type 0 where
  pub answer : Result A (Refusal L)
  pub sessions : List (Session L)

abbrev pub served : {L A : Type 0} → Result A (Refusal L) → List (Session L) → Served L A
served r ss = record { answer = r; sessions = ss }

abbrev pub served_by : {L A : Type 0} → Option (Session L) → List (Session L) → ℕ → (Session L → Outcome L A) → Served L A
served_by None ss i ask = served (Err NoSession) ss
served_by (Some s) ss i ask = served (ask s).answer (slice_set ss i (ask s).session)

-- A request is asked of the session of its number, and changes no other; refusal 1 where there is none.
abbrev pub on_session : {L A : Type 0} → List (Session L) → ℕ → (Session L → Outcome L A) → Served L A
on_session ss i ask = served_by (slice_get ss i) ss i ask
