-- The words and numbers of a report, as the bytes of their text. Numbers are decimal without leading zeros; bits are 16 hexadecimal digits, a NaN's 7ff8000000000000.
use Rattle.std.specs.Prelude.{ℕ, cond, List, [], ◌∷◌, ◌++◌, ltb, Float}
use Rattle.std.specs.Float.{binary64}
use Rattle.std.specs.Float.Ieee.{to_bits}
use Rattle.io.specs.Digits.{last_digits}

-- ---- words
abbrev pub edit_word : List ℕ
edit_word = 101 ∷ (100 ∷ (105 ∷ (116 ∷ [])))

abbrev pub refused_word : List ℕ
refused_word = 114 ∷ (101 ∷ (102 ∷ (117 ∷ (115 ∷ (101 ∷ (100 ∷ []))))))

abbrev pub made_word : List ℕ
made_word = 109 ∷ (97 ∷ (100 ∷ (101 ∷ [])))

abbrev pub listed_word : List ℕ
listed_word = 108 ∷ (105 ∷ (115 ∷ (116 ∷ (101 ∷ (100 ∷ [])))))

abbrev pub links_word : List ℕ
links_word = 108 ∷ (105 ∷ (110 ∷ (107 ∷ (115 ∷ []))))

abbrev pub open_word : List ℕ
open_word = 111 ∷ (112 ∷ (101 ∷ (110 ∷ [])))

abbrev pub mid_word : List ℕ
mid_word = 109 ∷ (105 ∷ (100 ∷ []))

abbrev pub file_word : List ℕ
file_word = 102 ∷ (105 ∷ (108 ∷ (101 ∷ [])))

abbrev pub space : List ℕ
space = 32 ∷ []

abbrev pub newline : List ℕ
newline = 10 ∷ []

-- ---- numbers
-- what is printed is below
abbrev pub printed_below : ℕ
printed_below = 10000

-- decimal, without leading zeros
unfoldable pub decimal : ℕ → List ℕ
decimal n = last_digits 10 (cond (ltb n 10) 1 (cond (ltb n 100) 2 (cond (ltb n 1000) 3 4))) n

-- a space and a number
abbrev pub number_text : ℕ → List ℕ
number_text n = space ++ decimal n

-- a space and a float's bits
unfoldable pub bits_text : Float → List ℕ
bits_text x = space ++ last_digits 16 16 (to_bits binary64 x)

-- ` refused N`
abbrev pub refused_text : ℕ → List ℕ
refused_text n = space ++ (refused_word ++ number_text n)
