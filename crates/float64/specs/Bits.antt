-- What the bit patterns of f64 mean, beyond the IEEE library's `of_bits` and `to_bits`, which define it: bits 62 to 52 are the exponent's field, bits 51 to 0
-- the fraction's. There is one NaN, so every NaN pattern is read as it, and it is written 7ff8000000000000. Statements only. Assumes nothing.
use Rattle.std.specs.Prelude.{ℕ, ◌/◌, ◌%◌, ◌<◌, ◌≡◌, T, Float}
use Rattle.std.specs.Float.{nan, binary64}
use Rattle.std.specs.Float.Ieee.{of_bits, to_bits, fits}

-- the pattern of the sign bit alone
abbrev pub sign_bit : ℕ
sign_bit = 0x8000_0000_0000_0000

-- the pattern of the infinity
abbrev pub infinity_bits : ℕ
infinity_bits = 0x7ff0_0000_0000_0000

-- the exponent's field of a pattern
abbrev pub exponent_field : ℕ → ℕ
exponent_field bits = bits % sign_bit / 0x10_0000_0000_0000

-- the fraction's field of a pattern
abbrev pub fraction_field : ℕ → ℕ
fraction_field bits = bits % 0x10_0000_0000_0000

-- the NaN is written 7ff8000000000000
abbrev pub NanWritten : Type 0
NanWritten = to_bits binary64 nan ≡ 0x7ff8_0000_0000_0000

-- a pattern whose exponent's field is all ones and whose fraction is not 0 is the NaN
abbrev pub NanRead : Type 0
NanRead = (bits : ℕ) → exponent_field bits ≡ 0x7ff → 0 < fraction_field bits → of_bits binary64 bits ≡ nan

-- a value that is written is read back, the NaN and the signs of zeros too
abbrev pub ReadBack : Type 0
ReadBack = (x : Float) → T (fits binary64 x) → of_bits binary64 (to_bits binary64 x) ≡ x
