-- The floats that code writes as literals, as the checker gives them: by their bits. Definitions of other crates name these. Assumes nothing.
use Rattle.std.specs.Prelude.{Float}
use Rattle.std.specs.Float.{binary64}
use Rattle.std.specs.Float.Ieee.{of_bits}

-- 0.0
abbrev pub zero_literal : Float
zero_literal = of_bits binary64 0

-- 1.0
abbrev pub one_literal : Float
one_literal = of_bits binary64 0x3ff0000000000000

-- 1000000.0
abbrev pub million_literal : Float
million_literal = of_bits binary64 0x412e848000000000
