-- What a label kind is: five functions on its labels, and the laws that they keep. Assumes nothing.
use Rattle.std.specs.Prelude.{◌≡◌, Bool, true, ℤ}

-- The meaning of a label kind: its labels, with a lowest one, whether one flows to another, a join, a meet, and the own label of a value.
pub record Kind (L : Type 0) : Type 0 where
  pub lowest : L
  pub flows : L → L → Bool
  pub join : L → L → L
  pub meet : L → L → L
  pub own : ℤ → L

-- The laws of a label kind: flowing is an order, the join is the least label above both parts, and the meet the greatest below both.
pub record Lattice {L : Type 0} (k : Kind L) : Type 0 where
  pub reflexive : (a : L) → k.flows a a ≡ true
  pub transitive : (a b c : L) → k.flows a b ≡ true → k.flows b c ≡ true → k.flows a c ≡ true
  pub antisymmetric : (a b : L) → k.flows a b ≡ true → k.flows b a ≡ true → a ≡ b
  pub join_left : (a b : L) → k.flows a (k.join a b) ≡ true
  pub join_right : (a b : L) → k.flows b (k.join a b) ≡ true
  pub join_least : (a b c : L) → k.flows a c ≡ true → k.flows b c ≡ true → k.flows (k.join a b) c ≡ true
  pub meet_left : (a b : L) → k.flows (k.meet a b) a ≡ true
  pub meet_right : (a b : L) → k.flows (k.meet a b) b ≡ true
  pub meet_greatest : (a b c : L) → k.flows c a ≡ true → k.flows c b ≡ true → k.flows c (k.meet a b) ≡ true

-- No function of the kind leaves the lawful labels.
pub record Keeps {L : Type 0} (k : Kind L) (lawful : L → Type 0) : Type 0 where
  pub lowest : lawful k.lowest
  pub join : (a b : L) → lawful a → lawful b → lawful (k.join a b)
  pub meet : (a b : L) → lawful a → lawful b → lawful (k.meet a b)
  pub own : (v : ℤ) → lawful (k.own v)
