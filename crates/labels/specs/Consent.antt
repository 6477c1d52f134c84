-- Consent labels, over the parties 0 to 5: bit n of a word says whether its formula holds when those parties p consent for which bit p of n is set. Assumes nothing.
use Rattle.std.specs.Prelude.{◌≡◌, ℕ, ◌-◌, ◌^◌, ◌<◌, cond, ◌&&◌, ℤ, pos, negsuc, Ok, Err, Result, ◌==◌, ◌≢◌, bit_and, bit_or, nat_le}
use Rattle.labels.specs.Kind.{Kind}
use Rattle.labels.specs.Words.{bit, Within, word_of}
use Rattle.labels.specs.declared.UnlawfulLabel.{UnlawfulLabel}
use Rattle.labels.specs.declared.consent.Consent.{Consent}

-- The label of two words.
abbrev pub consent : ℕ → ℕ → Consent
consent s i = record { secrecy = s; integrity = i }

-- If bit n of a word is set, so is each bit m where m has every bit of n: consent of more parties takes nothing away.
abbrev pub RisesFrom : ℕ → ℕ → Type 0
RisesFrom w n = (m : ℕ) → m < 64 → Within n m → bit w n ≡ 1 → bit w m ≡ 1

-- A word is monotone when it rises from each of its bits.
abbrev pub Monotone : ℕ → Type 0
Monotone w = (n : ℕ) → n < 64 → RisesFrom w n

-- Both words of a lawful label are monotone.
abbrev pub Lawful : Consent → Type 0
Lawful a = Monotone a.secrecy × Monotone a.integrity

-- A word with all 64 bits set.
abbrev pub all_bits : ℕ
all_bits = 2 ^ 64 - 1

-- The word of a party has precisely the bits n with the party's bit set in n.
abbrev pub party_word : ℕ → ℕ
party_word p = word_of (λ n. bit n p) 64

-- Bit n of a party's word is the party's bit of n.
abbrev pub PartyWords : Type 0
PartyWords = (p n : ℕ) → n < 64 → bit (party_word p) n ≡ bit n p

-- The own label of a value from 0 to 5 has the word of that party twice, and that of every other value no secrecy bit and all integrity bits.
abbrev pub own : ℤ → Consent
own (pos v) = cond (nat_le v 5) (consent (party_word v) (party_word v)) (consent 0 all_bits)
own (negsuc v) = consent 0 all_bits

-- A label flows to another when every secrecy bit of the other is set in it and every integrity bit of it in the other. The join keeps the common secrecy bits and the integrity bits of either, the meet the reverse; the lowest has all secrecy bits and no integrity bit.
abbrev pub consents : Kind Consent
consents = record {
  lowest = consent all_bits 0;
  flows = λ a b. (bit_and b.secrecy a.secrecy == b.secrecy) && (bit_and a.integrity b.integrity == a.integrity);
  join = λ a b. consent (bit_and a.secrecy b.secrecy) (bit_or a.integrity b.integrity);
  meet = λ a b. consent (bit_or a.secrecy b.secrecy) (bit_and a.integrity b.integrity);
  own = own;
}

-- Making a label from two words keeps them where they are lawful, and refuses them otherwise.
abbrev pub Made : ℕ → ℕ → Result Consent UnlawfulLabel → Type 0
Made s i (Ok a) = (a ≡ consent s i) × Lawful (consent s i)
Made s i (Err e) = Lawful (consent s i) → ⊥

-- The consent of the parties of n suffices for a word's formula, and that of fewer of them does not.
abbrev pub Smallest : ℕ → ℕ → Type 0
Smallest w n = (bit w n ≡ 1) × ((m : ℕ) → m < n → Within m n → bit w m ≢ 1)
