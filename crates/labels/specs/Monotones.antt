-- That the functions of consent labels keep them lawful. Assumes nothing.
use Rattle.std.specs.Prelude.{◌≡◌, ℕ, ◌≤◌, Bool, true, false, cond, ℤ, pos, negsuc, nat_le}
use Rattle.std.proofs.Common.{inl, inr, eq-or-lt_of_le, arith}
use Rattle.std.specs.Int.Bits.{bit_and, bit_or}
use Rattle.labels.specs.Kind.{Keeps}
use Rattle.labels.specs.Words.{bit, Within, word_of}
use Rattle.labels.specs.Consent.{consents, own, party_word, all_bits, Monotone, Lawful, PartyWords}
use Rattle.labels.specs.declared.consent.Consent.{Consent}
use Rattle.labels.specs.WordsLemmas.{bit_small, bit-bit_and, bit-bit_or, within_bit, word_bit}

and_monotone : (a b : ℕ) → Monotone a → Monotone b → Monotone (bit_and a b)
and_monotone a b p q n hn m hm w s =
    let x = p n hn m hm w (omega (arith, bit-bit_and a b n, s)) in
    let y = q n hn m hm w (omega (arith, bit-bit_and a b n, s)) in
    omega (arith, bit-bit_and a b m, x, y)

or_monotone : (a b : ℕ) → Monotone a → Monotone b → Monotone (bit_or a b)
or_monotone a b p q n hn m hm w s =
    elim (eq-or-lt_of_le {n = bit a n} {m = 1} (omega arith)) [
      | inl e ↦ omega (arith, bit-bit_or a b m, p n hn m hm w e)
      | inr l ↦ let e : bit b n ≡ 1 = omega (arith, bit-bit_or a b n) in omega (arith, bit-bit_or a b m, q n hn m hm w e)
    ]

word_monotone : (f : ℕ → ℕ) → ((n : ℕ) → f n ≤ 1) → ((n m : ℕ) → Within n m → f n ≤ f m) → Monotone (word_of f 64)
word_monotone f small up n hn m hm w s = omega (arith, word_bit f small 64 n hn, word_bit f small 64 m hm, up n m w, small m, s)

full : Monotone all_bits
full = word_monotone (λ n. 1) (λ n. omega arith) (λ n m w. omega arith)

empty : Monotone 0
empty = word_monotone (λ n. 0) (λ n. omega arith) (λ n m w. omega arith)

pub party_words_lem : PartyWords
party_words_lem p = word_bit (λ n. bit n p) (λ n. bit_small n p) 64

party : (p : ℕ) → Monotone (party_word p)
party p = word_monotone (λ n. bit n p) (λ n. bit_small n p) (λ n m w. within_bit n m w p)

picked : (t : Bool) (a b : Consent) → Lawful a → Lawful b → Lawful (cond t a b)
picked true a b p q = p
picked false a b p q = q

own_lawful : (v : ℤ) → Lawful (own v)
own_lawful (pos v) = picked (nat_le v 5) _ _ (party v, party v) (empty, full)
own_lawful (negsuc v) = (empty, full)

pub consent_keeps : Keeps consents Lawful
consent_keeps = record {
  lowest = (full, empty);
  join = λ a b p q. (and_monotone _ _ p.0 q.0, or_monotone _ _ p.1 q.1);
  meet = λ a b p q. (or_monotone _ _ p.0 q.0, and_monotone _ _ p.1 q.1);
  own = own_lawful;
}
