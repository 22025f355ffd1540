-- What a function that puts text into a lent buffer promises, and asks.
use Rattle.std.specs.Prelude.{ℕ, ◌+◌, ◌≤◌, ◌≡◌, List, length}
use Rattle.big_endian.specs.Written.{written}

-- A text stands in the buffer from a place on, as far as the buffer reaches, and nothing else is changed; the end is the place after it.
pub record Put (before : List ℕ) (at : ℕ) (text after : List ℕ) (end : ℕ) : Type 0 where
  pub wrote : after ≡ written before at text
  pub ends : end ≡ at + length text

-- the bytes that every report has room in
abbrev pub most_bytes : ℕ
most_bytes = 32768

-- a text put at a place ends within them
abbrev pub Fits : ℕ → List ℕ → Type 0
Fits at text = at + length text ≤ most_bytes
