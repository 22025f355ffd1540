-- A set of numbers kept in a word, a bit for each number; and how many numbers a set has, counted number by number. A set is a test of numbers.
use Rattle.std.specs.Prelude.{ℕ, zero, suc, ◌+◌, ◌*◌, Bool, true, false}

abbrev pub digit : Bool → ℕ
digit true = 1
digit false = 0

-- the word of so many bits: the number n at bit 0, the numbers after it at the bits above
unfoldable pub word_from : (ℕ → Bool) → ℕ → ℕ → ℕ
word_from set zero n = 0
word_from set (suc width) n = word_from set width (n + 1) * 2 + digit (set n)

-- how many of so many numbers, from n on, are in the set
unfoldable pub count_from : (ℕ → Bool) → ℕ → ℕ → ℕ
count_from set zero n = 0
count_from set (suc width) n = digit (set n) + count_from set width (n + 1)
