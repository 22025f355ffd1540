-- The signs of floats, as tests. A float is `nan`, an infinity `inf s`, or `fin s m e`, the number m * 2 ^ e; s is true where the sign bit is set.
-- Zero has either sign, and -0.0 is not below 0: it passes `nonneg`, and its sign bit is set. A NaN has no sign here; a test whose name ends in
-- `OrNan` lets it pass, since differences, products and quotients of values that are not negative can be NaN (inf - inf, 0 * inf, 0 / 0). Assumes nothing.
use Rattle.std.specs.Prelude.{Bool, true, false, not, pos, eqb, Float}
use Rattle.std.specs.Float.{nan, inf, fin}

-- +0.0
abbrev pub 0f : Float
0f = fin false 0 (pos 0)

-- 1.0
abbrev pub 1f : Float
1f = fin false 1 (pos 0)

-- 0 ≤ x, and no NaN: -0.0 and +infinity pass
abbrev pub nonneg : Float → Bool
nonneg nan = false
nonneg (inf s) = not s
nonneg (fin true m e) = eqb m 0
nonneg (fin false m e) = true

-- x is a NaN, or 0 ≤ x
abbrev pub nonneg_or_nan : Float → Bool
nonneg_or_nan nan = true
nonneg_or_nan (inf s) = nonneg (inf s)
nonneg_or_nan (fin s m e) = nonneg (fin s m e)

-- x is a NaN, or its sign bit is clear: what keeps a quotient from turning negative, as 1.0 / -0.0 is
abbrev pub clear_or_nan : Float → Bool
clear_or_nan nan = true
clear_or_nan (inf s) = not s
clear_or_nan (fin s m e) = not s
