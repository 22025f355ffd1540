-- Bytes written into a buffer, and a number as bytes, the most significant first, a float by its bits. What has no room in the buffer is not written; its length never changes.
use Rattle.std.specs.Prelude.{ℕ, zero, suc, ◌+◌, ◌/◌, ◌%◌, List, [], ◌∷◌, ◌++◌, Float, set}
use Rattle.std.specs.Float.{binary64}
use Rattle.std.specs.Float.Ieee.{to_bits}

-- a buffer with bytes written from a place on, as far as it reaches
unfoldable pub written : List ℕ → ℕ → List ℕ → List ℕ
written buffer at [] = buffer
written buffer at (byte ∷ rest) = written (set buffer at byte) (at + 1) rest

-- the last bytes of a number, as many as `width` says
unfoldable pub bytes_of : ℕ → ℕ → List ℕ
bytes_of zero number = []
bytes_of (suc width) number = bytes_of width (number / 256) ++ (number % 256 ∷ [])

-- the eight bytes of a float's bits
abbrev pub bytes_of_float : Float → List ℕ
bytes_of_float x = bytes_of 8 (to_bits binary64 x)
