-- Numbers as bytes, the most significant first, and floats as their bits. A byte past the end of the list counts as 0.
use Rattle.std.specs.Prelude.{ℕ, zero, suc, ◌+◌, ◌*◌, List, Float, get_or}
use Rattle.std.specs.Float.{binary64}
use Rattle.std.specs.Float.Ieee.{of_bits}

-- the byte at a place
abbrev pub byte_at : List ℕ → ℕ → ℕ
byte_at bytes at = get_or bytes at 0

-- the number that the bytes from `at` on stand for, as many as `width` says
unfoldable pub number_at : ℕ → List ℕ → ℕ → ℕ
number_at zero bytes at = 0
number_at (suc width) bytes at = number_at width bytes at * 256 + byte_at bytes (at + width)

-- the float whose bits stand at a place, in eight bytes
abbrev pub float_at : List ℕ → ℕ → Float
float_at bytes at = of_bits binary64 (number_at 8 bytes at)
