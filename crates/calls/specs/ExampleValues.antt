-- Numbers and positions for worked examples. A float is given by its bits, as code gives its literals.
use Rattle.std.specs.Prelude.{Float}
use Rattle.std.specs.Float.{binary64}
use Rattle.std.specs.Float.Ieee.{of_bits}
use Rattle.t_mesh.specs.declared.t_mesh.Position.{Position}

-- −0.0
abbrev pub minus_zero : Float
minus_zero = of_bits binary64 0x8000_0000_0000_0000

-- 0.5
abbrev pub half : Float
half = of_bits binary64 0x3fe0_0000_0000_0000

-- 2.0
abbrev pub two : Float
two = of_bits binary64 0x4000_0000_0000_0000

-- 3.0
abbrev pub three : Float
three = of_bits binary64 0x4008_0000_0000_0000

-- 7.0
abbrev pub seven : Float
seven = of_bits binary64 0x401c_0000_0000_0000

-- a position of three numbers
abbrev pub position_at : Float → Float → Float → Position
position_at x y z = record { x = x; y = y; z = z }
