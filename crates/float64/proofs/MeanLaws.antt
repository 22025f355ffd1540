-- The weighted mean lies in 0 to 1: at every step 0 ≤ numerator ≤ denominator unless the denominator is not finite, since rounding is monotone, and
-- a finite sum has finite summands. `start`, `step` and `finish` serve a sum that is not written as a list; `numerator_more` and
-- `denominator_more` are a turn of a loop. Assumes nothing.
use Rattle.std.specs.Prelude.{◌≡◌, refl, List, [], ◌∷◌, ◌++◌, true, false, T, Float}
use Rattle.std.specs.Float.{nan, inf, fin, Format, binary64}
use Rattle.std.specs.Float.Ieee.{add, mul, div, lt, le}
use Rattle.std.specs.Float.Ieee.Scale.{finite}
use Rattle.float64.specs.Sign.{0f, 1f, nonneg}
use Rattle.float64.proofs.SignLaws.{nonneg→le, le→nonneg, nonneg_or_nan→nonneg, finite_number, add_nonneg}
use Rattle.float64.proofs.Monotone.{add_mono, mul_below, div_within}
use Rattle.float64.specs.Mean.{Entry, value, weight, numerator_from, denominator_from, numerator, denominator, Admitted, AllAdmitted, WeightedMean}

-- ---- finite values

-- a finite sum has finite summands
add_finite : (f : Format) (x y : Float) → T (finite (add f x y)) → T (finite x) × T (finite y)
unfolding add
add_finite f nan y h = absurd h
add_finite f (inf s) nan h = absurd h
add_finite f (inf true) (inf true) h = absurd h
add_finite f (inf true) (inf false) h = absurd h
add_finite f (inf false) (inf true) h = absurd h
add_finite f (inf false) (inf false) h = absurd h
add_finite f (inf s) (fin t n d) h = absurd h
add_finite f (fin s m e) nan h = absurd h
add_finite f (fin s m e) (inf t) h = absurd h
add_finite f (fin s m e) (fin t n d) h = (tt, tt)

between_finite : (x : Float) → T (lt 0f x) → T (lt x (inf false)) → T (finite x)
unfolding lt
between_finite nan h k = h
between_finite (inf true) h k = h
between_finite (inf false) h k = k
between_finite (fin s m e) h k = tt

-- ---- what holds of the two sums at every step

-- 0 ≤ num ≤ den
pub record Ordered (num den : Float) : Type 0 where
  pub num≥0 : T (nonneg num)
  pub den≥0 : T (nonneg den)
  pub num≤den : T (le num den)

-- the same, if den is finite
abbrev pub Bounded : Float → Float → Type 0
Bounded num den = T (finite den) → Ordered num den

pub start : Bounded 0f 0f
unfolding le
start h = record { num≥0 = tt; den≥0 = tt; num≤den = tt }

pub step : (num den : Float) (x : Entry) → Admitted x → Bounded num den → Bounded (add binary64 num (mul binary64 (value x) (weight x))) (add binary64 den (weight x))
step num den x a i h =
    let p = value x in
    let b = weight x in
    let summands = add_finite binary64 den b h in
    let before = i summands.0 in
    let b≥0 = nonneg_or_nan→nonneg b a.weight≥0 (finite_number b summands.1) in
    let product = mul_below binary64 p b (le→nonneg p a.value≥0) a.value≤1 b≥0 summands.1 a.weight_fits in
    record {
      num≥0 = add_nonneg binary64 num (mul binary64 p b) before.num≥0 product.0;
      den≥0 = add_nonneg binary64 den b before.den≥0 b≥0;
      num≤den = add_mono binary64 num den (mul binary64 p b) b before.num≥0 product.0 before.num≤den product.1;
    }

pub finish : (num den : Float) → Bounded num den → T (lt 0f den) → T (lt den (inf false)) → T (le 0f (div binary64 num den)) × T (le (div binary64 num den) 1f)
finish num den i h k =
    let finite-den = between_finite den h k in
    let sums = i finite-den in
    let quotient = div_within binary64 num den sums.num≥0 sums.num≤den h finite-den in
    (nonneg→le (div binary64 num den) quotient.0, quotient.1)

-- ---- lists

sums_bounded : (num den : Float) (l : List Entry) → AllAdmitted l → Bounded num den → Bounded (numerator_from num l) (denominator_from den l)
unfolding numerator_from denominator_from
sums_bounded num den [] a i = i
sums_bounded num den (x ∷ l) a i =
    sums_bounded (add binary64 num (mul binary64 (value x) (weight x))) (add binary64 den (weight x)) l a.1 (step num den x a.0 i)

pub weighted_mean : WeightedMean
weighted_mean l a h k = finish (numerator l) (denominator l) (sums_bounded 0f 0f l a start) h k

-- one entry more at the end is one addition more
pub numerator_more : (sum : Float) (l : List Entry) (x : Entry)
    → numerator_from sum (l ++ (x ∷ [])) ≡ add binary64 (numerator_from sum l) (mul binary64 (value x) (weight x))
unfolding numerator_from
numerator_more sum [] x = refl
numerator_more sum (y ∷ l) x = numerator_more (add binary64 sum (mul binary64 (value y) (weight y))) l x

pub denominator_more : (sum : Float) (l : List Entry) (x : Entry) → denominator_from sum (l ++ (x ∷ [])) ≡ add binary64 (denominator_from sum l) (weight x)
unfolding denominator_from
denominator_more sum [] x = refl
denominator_more sum (y ∷ l) x = denominator_more (add binary64 sum (weight y)) l x
