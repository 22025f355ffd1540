-- The weighted mean as f64 arithmetic gives it, and what is claimed of it. An entry is a value with its weight. The products value * weight and the weights
-- are summed in the list's order, each sum from +0.0 and rounded at every step, and the mean is one quotient of the two sums.
-- The claim is exact: the float that results is ≥ 0.0 and ≤ 1.0, with no tolerance. A weight may be a NaN: then the sum of the weights is one too,
-- and the claim, which asks that this sum be positive and finite, says nothing. Definitions and the statement only. Assumes nothing.
use Rattle.std.specs.Prelude.{List, [], ◌∷◌, false, T, Float}
use Rattle.std.specs.Float.{inf, binary64}
use Rattle.std.specs.Float.Ieee.{add, mul, div, lt, le, fits}
use Rattle.float64.specs.Sign.{0f, 1f, nonneg_or_nan}

-- a value and its weight
abbrev pub Entry : Type 0
Entry = Float × Float

-- its value
abbrev pub value : Entry → Float
value x = x.0

-- its weight
abbrev pub weight : Entry → Float
weight x = x.1

-- `sum` with the products value * weight added, in order
unfoldable pub numerator_from : Float → List Entry → Float
numerator_from sum [] = sum
numerator_from sum (x ∷ l) = numerator_from (add binary64 sum (mul binary64 (value x) (weight x))) l

-- `sum` with the weights added, in order
unfoldable pub denominator_from : Float → List Entry → Float
denominator_from sum [] = sum
denominator_from sum (x ∷ l) = denominator_from (add binary64 sum (weight x)) l

-- the sum of the products
abbrev pub numerator : List Entry → Float
numerator l = numerator_from 0f l

-- the sum of the weights
abbrev pub denominator : List Entry → Float
denominator l = denominator_from 0f l

-- the weighted mean
abbrev pub mean : List Entry → Float
mean l = div binary64 (numerator l) (denominator l)

-- What is asked of an entry: the value lies in 0 to 1, and the weight is a NaN or not negative. That the weight is an f64 is a premise, since a Float
-- need not be one; every f64 in code is, and so is every result of an operation (the IEEE library's `mul-fits` and the like).
pub record Admitted (x : Entry) : Type 0 where
  pub value≥0 : T (le 0f (value x))
  pub value≤1 : T (le (value x) 1f)
  pub weight≥0 : T (nonneg_or_nan (weight x))
  pub weight_fits : T (fits binary64 (weight x))

-- every entry is admitted
abbrev pub AllAdmitted : List Entry → Type 0
AllAdmitted [] = Unit
AllAdmitted (x ∷ l) = Admitted x × AllAdmitted l

-- The weighted mean of values in 0 to 1 lies in 0 to 1, if the sum of the weights is positive and finite.
abbrev pub WeightedMean : Type 0
WeightedMean =
    (l : List Entry) → AllAdmitted l → T (lt 0f (denominator l)) → T (lt (denominator l) (inf false)) → T (le 0f (mean l)) × T (le (mean l) 1f)
