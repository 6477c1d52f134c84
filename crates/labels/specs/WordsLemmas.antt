-- Words by their bits. Assumes nothing.
use Rattle.std.specs.Prelude.{◌≡◌, ℕ, zero, suc, ◌+◌, ◌-◌, ◌*◌, ◌/◌, ◌%◌, ◌^◌, ◌<◌, ◌≤◌, min, max, refl}
use Rattle.std.proofs.Common.{sym, ap, subst, ◌∙◌, inl, inr, mul-le-mul_right, pow-suc, eq-or-lt_of_le, mul_assoc, arith, lit<, pow_pos, pow-add}
use Rattle.std.proofs.Math.Nat.{add-mul-div_right, div-eq_of_lt}
use Rattle.std.proofs.Math.Arith.{bin_ind}
use Rattle.std.specs.Int.Bits.{bit_and, bit_or, and_step, or_step}
use Rattle.std.proofs.lemmas.Nat.{shr-shr, and_shr, or_shr}
use Rattle.labels.specs.Words.{bit, Within, word_of}

pub bit_small : (w n : ℕ) → bit w n ≤ 1
bit_small w n = omega arith

pub bit-bit_and : (a b n : ℕ) → bit (bit_and a b) n ≡ min (bit a n) (bit b n)
bit-bit_and a b n = ap (λ x. x % 2) (and_shr a b n) ∙ omega (arith, and_step (a / 2 ^ n) (b / 2 ^ n))

pub bit-bit_or : (a b n : ℕ) → bit (bit_or a b) n ≡ max (bit a n) (bit b n)
bit-bit_or a b n = ap (λ x. x % 2) (or_shr a b n) ∙ omega (arith, or_step (a / 2 ^ n) (b / 2 ^ n))

bit_half : (a n : ℕ) → bit (a / 2) n ≡ bit a (1 + n)
bit_half a n = ap (λ x. x % 2) (shr-shr a 1 n)

no_bits : (a : ℕ) → ((n : ℕ) → bit a n ≡ 0) → a ≡ 0
no_bits =
    bin_ind (λ a. ((n : ℕ) → bit a n ≡ 0) → a ≡ 0) (λ h. refl)
    (λ a ih h. omega (arith, ih (λ n. bit_half a n ∙ h (1 + n)), h 0))

-- Words with the same bits are the same.
pub by_bits : (a b : ℕ) → ((n : ℕ) → bit a n ≡ bit b n) → a ≡ b
by_bits =
    bin_ind (λ a. (b : ℕ) → ((n : ℕ) → bit a n ≡ bit b n) → a ≡ b) (λ b h. sym (no_bits b (λ n. sym (h n) ∙ omega arith)))
    (λ a ih b h. omega (arith, ih (b / 2) (λ n. bit_half a n ∙ h (1 + n) ∙ sym (bit_half b n)), h 0))

pub within_bit : (a b : ℕ) → Within a b → (n : ℕ) → bit a n ≤ bit b n
within_bit a b h n = omega (arith, bit-bit_and a b n, ap (λ x. bit x n) h)

pub bits_within : (a b : ℕ) → ((n : ℕ) → bit a n ≤ bit b n) → Within a b
bits_within a b h = by_bits (bit_and a b) a (λ n. omega (arith, bit-bit_and a b n, h n))

-- A digit put above a word of k bits is bit k, and leaves those below.
top_bit : (x w k : ℕ) → x ≤ 1 → w < 2 ^ k → bit (w + x * 2 ^ k) k ≡ x
top_bit x w k h l = ap (λ y. y % 2) (add-mul-div_right w x (pow_pos k)) ∙ omega (arith, div-eq_of_lt l)

pub low_bit : (x w k n : ℕ) → n < k → bit (w + x * 2 ^ k) n ≡ bit w n
low_bit x w k n l =
    let d : ℕ = k - suc n in
    let e : k ≡ suc d + n = omega arith in
    let p : 2 ^ k ≡ 2 ^ suc d * 2 ^ n = ap (λ j. 2 ^ j) e ∙ pow-add 2 (suc d) n in
    let q : x * 2 ^ suc d ≡ x * 2 ^ d * 2 = ap (λ y. x * y) (pow-suc 2 d) ∙ sym (mul_assoc x (2 ^ d) 2) in
    ap (λ y. (w + y) / 2 ^ n % 2) (ap (λ y. x * y) p ∙ sym (mul_assoc x (2 ^ suc d) (2 ^ n)))
    ∙ ap (λ y. y % 2) (add-mul-div_right w (x * 2 ^ suc d) (pow_pos n)) ∙ omega (arith, q)

module _ (f : ℕ → ℕ) (small : (n : ℕ) → f n ≤ 1) where
  word_fits : (k : ℕ) → word_of f k < 2 ^ k
  word_fits zero = lit< tt
  word_fits (suc k) = omega (arith, word_fits k, pow-suc 2 k, mul-le-mul_right (2 ^ k) (small k))

  -- Each bit of a word is as it was asked for.
  pub word_bit : (k n : ℕ) → n < k → bit (word_of f k) n ≡ f n
  word_bit zero n h = omega arith
  word_bit (suc k) n h =
      elim (eq-or-lt_of_le {n = n} {m = k} (omega arith)) [
        | inl e ↦ subst (λ j. bit (word_of f (suc k)) j ≡ f j) (sym e) (top_bit (f k) (word_of f k) k (small k) (word_fits k))
        | inr l ↦ low_bit (f k) (word_of f k) k n l ∙ word_bit k n l
      ]
