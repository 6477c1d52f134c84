-- Words of bits. Assumes nothing.
use Rattle.std.specs.Prelude.{◌≡◌, ℕ, zero, suc, ◌+◌, ◌*◌, ◌/◌, ◌%◌, ◌^◌, bit_and}

-- Bit n of a word, 0 or 1.
abbrev pub bit : ℕ → ℕ → ℕ
bit w n = w / 2 ^ n % 2

-- Every bit of a is set in b.
abbrev pub Within : ℕ → ℕ → Type 0
Within a b = bit_and a b ≡ a

-- The word whose bit n is f n, for n below k, and which has no other bit.
abbrev pub word_of : (ℕ → ℕ) → ℕ → ℕ
word_of f zero = 0
word_of f (suc k) = word_of f k + f k * 2 ^ k
