-- The floats from 0 to 1, as a test: both ends are included, −0.0 is 0, and a NaN does not pass. Assumes nothing.
use Rattle.std.specs.Prelude.{Bool, ◌&&◌, Float}
use Rattle.std.specs.Float.Ieee.{le}
use Rattle.float64.specs.Literals.{zero_literal, one_literal}

unfoldable pub in_unit : Float → Bool
in_unit x = le zero_literal x && le x one_literal
