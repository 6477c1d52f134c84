-- That consent labels are a lattice: words are one by their bits, with secrecy turned over. Assumes nothing.
use Rattle.std.specs.Prelude.{◌≡◌, ℕ, ◌^◌, ◌<◌, Bool, true, false, ◌&&◌, refl}
use Rattle.std.proofs.Common.{ap₂, ◌∙◌, mod-eq_of_lt, arith, eq-eqb, eqb-true}
use Rattle.std.specs.Int.Bits.{bit_and, bit_or, and_self}
use Rattle.std.proofs.lemmas.Nat.{and_mask}
use Rattle.labels.specs.Kind.{Lattice}
use Rattle.labels.specs.Words.{Within}
use Rattle.labels.specs.Consent.{consent, consents, all_bits}
use Rattle.labels.specs.declared.consent.Consent.{Consent}
use Rattle.labels.specs.WordsLemmas.{bit-bit_and, bit-bit_or, by_bits, within_bit, bits_within}

within_both : (a b c : ℕ) → Within a b → Within b c → Within a c
within_both a b c h k = bits_within a c (λ n. omega (arith, within_bit a b h n, within_bit b c k n))

within_same : (a b : ℕ) → Within a b → Within b a → a ≡ b
within_same a b h k = by_bits a b (λ n. omega (arith, within_bit a b h n, within_bit b a k n))

and_left : (a b : ℕ) → Within (bit_and a b) a
and_left a b = bits_within (bit_and a b) a (λ n. omega (arith, bit-bit_and a b n))

and_right : (a b : ℕ) → Within (bit_and a b) b
and_right a b = bits_within (bit_and a b) b (λ n. omega (arith, bit-bit_and a b n))

and_greatest : (a b c : ℕ) → Within c a → Within c b → Within c (bit_and a b)
and_greatest a b c h k = bits_within c (bit_and a b) (λ n. omega (arith, bit-bit_and a b n, within_bit c a h n, within_bit c b k n))

or_left : (a b : ℕ) → Within a (bit_or a b)
or_left a b = bits_within a (bit_or a b) (λ n. omega (arith, bit-bit_or a b n))

or_right : (a b : ℕ) → Within b (bit_or a b)
or_right a b = bits_within b (bit_or a b) (λ n. omega (arith, bit-bit_or a b n))

or_least : (a b c : ℕ) → Within a c → Within b c → Within (bit_or a b) c
or_least a b c h k = bits_within (bit_or a b) c (λ n. omega (arith, bit-bit_or a b n, within_bit a c h n, within_bit b c k n))

-- What it is to flow, word by word.
record Flow (a b : Consent) : Type 0 where
  down : Within b.secrecy a.secrecy
  up : Within a.integrity b.integrity

flowing : (a b : Consent) → Within b.secrecy a.secrecy → Within a.integrity b.integrity → consents.flows a b ≡ true
flowing a b down up = ap₂ (λ x y. x && y) (eq-eqb _ _ down) (eq-eqb _ _ up)

both_true : (x y : Bool) → (x && y) ≡ true → (x ≡ true) × (y ≡ true)
both_true true true h = (refl, refl)
both_true true false h = (refl, h)
both_true false y h = (h, elim y as (λ v. v ≡ true) [ true ↦ refl | false ↦ h ])

flow : (a b : Consent) → consents.flows a b ≡ true → Flow a b
flow a b h =
    let k = both_true _ _ h in
    record { down = eqb-true _ _ k.0; up = eqb-true _ _ k.1 }

pub lowest_flows : (a : Consent) → a.secrecy < 2 ^ 64 → consents.flows (consent all_bits 0) a ≡ true
lowest_flows a h = flowing (consent all_bits 0) a (and_mask a.secrecy 64 ∙ mod-eq_of_lt h) refl

pub consent_lattice : Lattice consents
consent_lattice = record {
  reflexive = λ a. flowing a a (and_self _) (and_self _);
  transitive = λ a b c h k.
      let p = flow a b h in
      let q = flow b c k in
      flowing a c (within_both _ _ _ q.down p.down) (within_both _ _ _ p.up q.up);
  antisymmetric = λ a b h k.
      let p = flow a b h in
      let q = flow b a k in
      ap₂ consent (within_same _ _ q.down p.down) (within_same _ _ p.up q.up);
  join_left = λ a b. flowing a (consents.join a b) (and_left _ _) (or_left _ _);
  join_right = λ a b. flowing b (consents.join a b) (and_right _ _) (or_right _ _);
  join_least = λ a b c h k.
      let p = flow a c h in
      let q = flow b c k in
      flowing (consents.join a b) c (and_greatest _ _ _ p.down q.down) (or_least _ _ _ p.up q.up);
  meet_left = λ a b. flowing (consents.meet a b) a (or_left _ _) (and_left _ _);
  meet_right = λ a b. flowing (consents.meet a b) b (or_right _ _) (and_right _ _);
  meet_greatest = λ a b c h k.
      let p = flow c a h in
      let q = flow c b k in
      flowing c (consents.meet a b) (or_least _ _ _ p.down q.down) (and_greatest _ _ _ p.up q.up);
}
