-- The draws of a load. A state is a number of 64 bits, and the draw after it, which is the state for the next one, is that number mixed three times: exclusive-or with itself shifted left 13,
-- of which 64 bits are kept, then right 7, then left 17. A draw gives a float from 0 to 1: its remainder by 1025, so many of 1,024 parts of 1.
use Rattle.std.specs.Prelude.{ℕ, zero, suc, ◌*◌, ◌/◌, ◌%◌, ◌^◌, pos, Float}
use Rattle.std.specs.Int.Bits.{bit_xor}
use Rattle.std.specs.Float.{binary64}
use Rattle.std.specs.Float.Ieee.{div, of_bits, of_int}

-- ---- draws
-- a number with itself shifted left, 64 bits kept
abbrev pub mixed_left : ℕ → ℕ → ℕ
mixed_left by x = bit_xor x (x * 2 ^ by % 2 ^ 64)

-- a number with itself shifted right
abbrev pub mixed_right : ℕ → ℕ → ℕ
mixed_right by x = bit_xor x (x / 2 ^ by)

-- the draw after a state
unfoldable pub next_draw : ℕ → ℕ
next_draw x = mixed_left 17 (mixed_right 7 (mixed_left 13 x))

-- the draw so many after a state
unfoldable pub later_draw : ℕ → ℕ → ℕ
later_draw zero x = x
later_draw (suc times) x = next_draw (later_draw times x)

-- ---- floats
-- the parts of 1
abbrev pub parts : ℕ
parts = 1024

-- 1024.0
abbrev pub parts_literal : Float
parts_literal = of_bits binary64 0x4090000000000000

-- so many parts of 1: count / 1024.0
unfoldable pub in_parts : ℕ → Float
in_parts count = div binary64 (of_int binary64 (pos count)) parts_literal

-- how many counts of parts there are, from none to all
abbrev pub part_counts : ℕ
part_counts = 1025

-- the float of a draw
abbrev pub drawn_float : ℕ → Float
drawn_float draw = in_parts (draw % part_counts)
