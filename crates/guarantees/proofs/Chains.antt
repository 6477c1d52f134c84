-- Chains of tests, and labels against one label. Assumes nothing.
use Rattle.std.proofs.Common.{◌≡◌, Bool, true, false, cond, List, [], ◌∷◌, refl, inl, inr}
use Rattle.std.proofs.lemmas.Bool.{cases_Bool, both_ways}
use Rattle.labels.specs.Kind.{Kind, Lattice}
use Rattle.sessions.specs.Refusals.{tests}

-- every test of a chain holds
abbrev pub Passed : {E : Type 0} → List (Bool × E) → Type 0
Passed [] = Unit {0}
Passed (t ∷ ts) = (t.0 ≡ true) × Passed ts

pub cond_pair : {A B : Type 0} (R : A → B → Type 0) (b : Bool) {u v : A} {u' v' : B} → (b ≡ true → R u u') → (b ≡ false → R v v') → R (cond b u v) (cond b u' v')
cond_pair R true f g = f refl
cond_pair R false f g = g refl

pub cond_all : {A : Type 0} (P : A → Type 0) (b : Bool) {u v : A} → (b ≡ true → P u) → (b ≡ false → P v) → P (cond b u v)
cond_all P b f g = cond_pair (λ a _. P a) b {u' = tt {0}} {v' = tt {0}} f g

-- What relates each refusal of two chains with the same tests and, where all tests pass, what follows, relates the chains.
pub tests_pair : {A B E : Type 0} (R : A → B → Type 0) (ts : List (Bool × E)) (stop : E → A) (pass : A) (stop' : E → B) (pass' : B) → ((e : E) → R (stop e) (stop' e)) → (Passed ts → R pass pass') → R (tests ts stop pass) (tests ts stop' pass')
tests_pair R [] stop pass stop' pass' f g = g tt
tests_pair R (t ∷ ts) stop pass stop' pass' f g = cond_pair R t.0 (λ e. tests_pair R ts stop pass stop' pass' f (λ h. g (e, h))) (λ _. f t.1)

pub tests_all : {A E : Type 0} (P : A → Type 0) (ts : List (Bool × E)) (stop : E → A) (pass : A) → ((e : E) → P (stop e)) → (Passed ts → P pass) → P (tests ts stop pass)
tests_all P ts stop pass f g = tests_pair (λ a _. P a) ts stop pass stop pass f g

module _ {L : Type 0} (k : Kind L) (laws : Lattice k) where
  -- what a label above x flows to is above x
  pub stays_above : {a b x : L} → k.flows a b ≡ true → k.flows a x ≡ false → k.flows b x ≡ false
  stays_above {a} {b} {x} h e = elim (cases_Bool (k.flows b x)) [ inl p ↦ absurd (both_ways _ e (laws.transitive a b x h p)) | inr p ↦ p ]

  pub left_below : {a b x : L} → k.flows (k.join a b) x ≡ true → k.flows a x ≡ true
  left_below {a} {b} {x} h = laws.transitive a (k.join a b) x (laws.join_left a b) h

  pub right_below : {a b x : L} → k.flows (k.join a b) x ≡ true → k.flows b x ≡ true
  right_below {a} {b} {x} h = laws.transitive b (k.join a b) x (laws.join_right a b) h
