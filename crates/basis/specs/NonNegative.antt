-- What f64's roundings leave of a basis function's sign.
--
-- Let c be a middle knot that binary64 holds, and let the other four be counted outward from it: one step down and one more, one step up and
-- one more, each a rounded difference or sum. If the first step on each side is NaN or not negative, then for every u the formula's value
-- is NaN or at least 0.0. The outer steps may be any floats: u is compared with the outer knots before they are used.
use Rattle.std.specs.Prelude.{List, [], ◌∷◌, T, Float}
use Rattle.std.specs.Float.{binary64}
use Rattle.std.specs.Float.Ieee.{add, sub, fits}
use Rattle.basis.specs.Binary64.{binary64_arithmetic, knots}
use Rattle.basis.specs.Formula.{formula}
use Rattle.float64.specs.Sign.{nonneg_or_nan}

-- Five knots counted outward from the middle one, by two steps each way.
abbrev pub outward : Float → Float → Float → Float → Float → List Float
outward centre down downAgain up upAgain =
    sub binary64 (sub binary64 centre down) downAgain
    ∷ sub binary64 centre down
    ∷ centre
    ∷ add binary64 centre up
    ∷ add binary64 (add binary64 centre up) upAgain
    ∷ []

-- On such knots the basis function is NaN or not negative, for every u.
abbrev pub NonNegative : Type 0
NonNegative = (u centre down downAgain up upAgain : Float) → T (fits binary64 centre) → T (nonneg_or_nan down) → T (nonneg_or_nan up)
    → T (nonneg_or_nan (formula binary64_arithmetic u (knots (outward centre down downAgain up upAgain))))
