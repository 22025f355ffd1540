-- A value as bytes: position and weight, each float by its bits, big-endian, a NaN as 7ff8000000000000.
use Rattle.std.specs.Prelude.{ℕ, List, ◌++◌, Float}
use Rattle.std.specs.Float.{binary64}
use Rattle.std.specs.Float.Ieee.{to_bits}
use Rattle.big_endian.specs.Written.{bytes_of}
use Rattle.surface.specs.declared.evaluation.Evaluation.{Evaluation}

-- a position and its weight, as they are written
abbrev pub value_bytes : ℕ
value_bytes = 32

abbrev pub bits_of : Float → List ℕ
bits_of x = bytes_of 8 (to_bits binary64 x)

abbrev pub bytes_of_value : Evaluation → List ℕ
bytes_of_value value = bits_of value.x ++ (bits_of value.y ++ (bits_of value.z ++ bits_of value.weight))
