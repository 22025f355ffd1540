-- Monotone rounding, in any format, for values that are not negative: a sum is no smaller where its summands are no smaller (`add_mono`), a product with a
-- factor of 0 to 1 is no greater than the other factor (`mul_below`), and a quotient by what is no smaller lies within 0 to 1 (`div_within`).
-- Each holds exactly, of the rounded results, since rounding keeps the order (Rounding) and 0, 1 and the values themselves round to themselves. Assumes nothing.
use Rattle.std.specs.Prelude.{◌≡◌, refl, ℕ, ◌+◌, ◌*◌, ◌≤◌, ◌<◌, true, false, T, Float}
use Rattle.std.proofs.Common.{ap, add-mul, mul-le-mul_right, arith}
use Rattle.std.specs.Float.{nan, inf, fin, Format}
use Rattle.std.specs.Float.Ieee.{add, mul, div, lt, le, fits}
use Rattle.std.specs.Float.Ieee.Scale.{finite}
use Rattle.std.specs.Float.Ieee.Positive.{den}
use Rattle.float64.specs.Sign.{0f, 1f, nonneg}
use Rattle.float64.specs.Order.{positive_part, negative_part, le→cross, lt→cross, le_trans, top}
use Rattle.float64.specs.Rounding.{rounded_mono, rounded_zero, rounded_one, rounded_own, rounded_add, rounded_mul, rounded_div}
use Rattle.float64.proofs.SignLaws.{nonneg→le, le→nonneg, nonneg_number, nonneg_negative_part, add_nonneg}

-- what lies between 0 and a finite value is finite
pub finite_below : (x y : Float) → T (nonneg x) → T (le x y) → T (finite y) → T (finite x)
unfolding le
finite_below nan y h k l = h
finite_below (inf true) y h k l = h
finite_below (inf false) nan h k l = l
finite_below (inf false) (inf t) h k l = l
finite_below (inf false) (fin t n d) h k l = k
finite_below (fin s m e) y h k l = tt

-- ---- sums

-- (a - b) / c ≤ (a' - b') / c' and (p - q) / r ≤ (p' - q') / r', added
sum_cross : (a b c a' b' c' p q r p' q' r' : ℕ) → a * c' + b' * c ≤ a' * c + b * c' → p * r' + q' * r ≤ p' * r + q * r'
    → (a * r + p * c) * (c' * r') + (b' * r' + q' * c') * (c * r) ≤ (a' * r' + p' * c') * (c * r) + (b * r + q * c) * (c' * r')
sum_cross a b c a' b' c' p q r p' q' r' h k =
    rw (add-mul (a * r) (p * c) (c' * r'), add-mul (b' * r') (q' * c') (c * r), add-mul (a' * r') (p' * c') (c * r), add-mul (b * r) (q * c) (c' * r'))
    (omega (arith, scaled a b c a' b' c' r r' h, swapped p q r p' q' r' c c' k))
  where
    scaled : (a b c a' b' c' r r' : ℕ) → a * c' + b' * c ≤ a' * c + b * c' → a * r * (c' * r') + b' * r' * (c * r) ≤ a' * r' * (c * r) + b * r * (c' * r')
    scaled a b c a' b' c' r r' h = omega (arith, mul-le-mul_right (r * r') h)

    swapped : (p q r p' q' r' c c' : ℕ) → p * r' + q' * r ≤ p' * r + q * r' → p * c * (c' * r') + q' * c' * (c * r) ≤ p' * c' * (c * r) + q * c * (c' * r')
    swapped p q r p' q' r' c c' k = omega (arith, scaled p q r p' q' r' c c' k)

-- of finite values, of any signs
pub add_mono_finite : (f : Format) (x x' y y' : Float) → T (finite x) → T (finite x') → T (finite y) → T (finite y') → T (le x x') → T (le y y')
    → T (le (add f x y) (add f x' y'))
add_mono_finite f x x' y y' p p' q q' h k =
    rounded_mono (rounded_add f x y p q) (rounded_add f x' y' p' q')
    (sum_cross (positive_part x) (negative_part x) (den x) (positive_part x') (negative_part x') (den x') (positive_part y) (negative_part y) (den y) (positive_part y') (negative_part y') (den y')
    (le→cross x x' p p' h) (le→cross y y' q q' k))

add_infinity_left : (f : Format) (y : Float) → T (nonneg y) → add f (inf false) y ≡ inf false
unfolding add
add_infinity_left f nan h = absurd h
add_infinity_left f (inf true) h = absurd h
add_infinity_left f (inf false) h = refl
add_infinity_left f (fin s m e) h = refl

pub add_mono : (f : Format) (x x' y y' : Float) → T (nonneg x) → T (nonneg y) → T (le x x') → T (le y y') → T (le (add f x y) (add f x' y'))
unfolding add
add_mono f x x' y y' p q h k =
    let p' = le→nonneg x' (le_trans 0f x x' (nonneg→le x p) h) in
    let q' = le→nonneg y' (le_trans 0f y y' (nonneg→le y q) k) in
    go x' y' p' q' h k
  where
    big : T (le (add f x y) (inf false))
    big = top (add f x y) (nonneg_number (add f x y) (add_nonneg f x y p q))

    go : (x' y' : Float) → T (nonneg x') → T (nonneg y') → T (le x x') → T (le y y') → T (le (add f x y) (add f x' y'))
    go nan y' a b h k = absurd a
    go (inf true) y' a b h k = absurd a
    go (inf false) y' a b h k = rw (add_infinity_left f y' b) big
    go (fin s m e) nan a b h k = absurd b
    go (fin s m e) (inf true) a b h k = absurd b
    go (fin s m e) (inf false) a b h k = big
    go (fin s m e) (fin t n d) a b h k =
        add_mono_finite f x (fin s m e) y (fin t n d) (finite_below x (fin s m e) p h tt) tt (finite_below y (fin t n d) q k tt) tt h k

-- ---- products and quotients

pub mul_below : (f : Format) (p b : Float) → T (nonneg p) → T (le p 1f) → T (nonneg b) → T (finite b) → T (fits f b) → T (nonneg (mul f p b)) × T (le (mul f p b) b)
mul_below f p b h k l m g =
    let finite-p = finite_below p 1f h k tt in
    let product = rounded_mul f p b finite-p m in
    let p-positive = nonneg_negative_part p h in
    let b-positive = nonneg_negative_part b l in
    let p-below : positive_part p ≤ den p = let c = le→cross p 1f finite-p tt k in omega arith in (
      le→nonneg (mul f p b) (rounded_mono (rounded_zero f) product (rw (p-positive, b-positive) (omega arith))),
      rounded_mono product (rounded_own f b g m) (rw (p-positive, b-positive) (omega (arith, mul-le-mul_right (positive_part b * den b) p-below))),
    )

pub positive_part_above : (d : Float) → T (finite d) → T (lt 0f d) → 0 < positive_part d
positive_part_above d h k = let c = lt→cross 0f d tt h k in omega arith

pub div_within : (f : Format) (n d : Float) → T (nonneg n) → T (le n d) → T (lt 0f d) → T (finite d) → T (nonneg (div f n d)) × T (le (div f n d) 1f)
div_within f n d h k l m =
    let finite-n = finite_below n d h k m in
    let quotient = rounded_div f n d finite-n m (positive_part_above d m l) in
    let nonneg-d = le→nonneg d (le_trans 0f n d (nonneg→le n h) k) in
    let below = le→cross n d finite-n m k in
    let left = ap (λ (z : ℕ). z * den d) (nonneg_negative_part n h) in
    let right = ap (λ (z : ℕ). z * den n) (nonneg_negative_part d nonneg-d) in
    (le→nonneg (div f n d) (rounded_mono (rounded_zero f) quotient (omega arith)), rounded_mono quotient (rounded_one f) (omega arith))
