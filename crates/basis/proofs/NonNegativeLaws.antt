-- Every factor above a line is the distance from u to a knot on the side that the tests put it on, so NaN or not negative; every factor below a line
-- is a span from a knot that u has reached to one ahead of it, so NaN or of clear sign; and sums, products and quotients of these keep that.
use Rattle.std.specs.Prelude.{◌≡◌, refl, Bool, true, false, not, cond, ◌||◌, ℕ, T, Float}
use Rattle.std.specs.Float.{nan, inf, fin}
use Rattle.std.specs.Float.Ieee.{binary64, add, sub, mul, div, lt, le, fits, is_nan}
use Rattle.std.specs.Float.Ieee.Bits.{is_true}
use Rattle.basis.specs.Binary64.{binary64_arithmetic}
use Rattle.basis.specs.Formula.{formula, first_segment, second_segment, third_segment, last_segment, sum_of_terms}
use Rattle.basis.proofs.FormulaLaws.{below_knots, above_knots, in_first, in_second, in_third, in_last}
use Rattle.basis.specs.NonNegative.{NonNegative}
use Rattle.float64.specs.Nan.{is_nan_lem, add_nan_right, sub_nan_left, sub_nan_right}
use Rattle.float64.specs.Order.{nlt→le, le_lt_trans, lt_le_trans, lt_num_r}
use Rattle.float64.specs.Sign.{0f, 1f, nonneg_or_nan, clear_or_nan}
use Rattle.float64.proofs.SignLaws.{clear_or_nan→nonneg_or_nan, nonneg_or_nan_add, nonneg_or_nan_mul, nonneg_or_nan_div, clear_or_nan_mul, sub_nonneg_or_nan, sub_clear_or_nan, add_up, sub_down}

-- x is NaN or not negative; x is NaN or its sign is clear.
record Value (x : Float) : Type 0 where
  holds : T (nonneg_or_nan x)

record Divisor (x : Float) : Type 0 where
  holds : T (clear_or_nan x)

-- u is not below the knot; the knot is NaN or above u.
record Reached (u x : Float) : Type 0 where
  holds : T (not (lt u x))

record Ahead (u x : Float) : Type 0 where
  holds : T (is_nan x || lt u x)

sum_value : {x y : Float} → Value x → Value y → Value (add binary64 x y)
sum_value {x} {y} v w = record { holds = nonneg_or_nan_add binary64 x y v.holds w.holds }

product_value : {x y : Float} → Value x → Value y → Value (mul binary64 x y)
product_value {x} {y} v w = record { holds = nonneg_or_nan_mul binary64 x y v.holds w.holds }

quotient_value : {x y : Float} → Value x → Divisor y → Value (div binary64 x y)
quotient_value {x} {y} v w = record { holds = nonneg_or_nan_div binary64 x y v.holds w.holds }

product_divisor : {x y : Float} → Divisor x → Divisor y → Divisor (mul binary64 x y)
product_divisor {x} {y} v w = record { holds = clear_or_nan_mul binary64 x y v.holds w.holds }

zero_value : Value 0f
zero_value = record { holds = tt }

one_value : Value 1f
one_value = record { holds = tt }

-- The distance from a reached knot up to u.
above_value : {u x : Float} → Reached u x → Value (sub binary64 u x)
above_value {u} {x} reached = record { holds = sub_nonneg_or_nan binary64 u x reached.holds }

-- The distance from u up to a knot ahead.
below_value : {u x : Float} → Ahead u x → Value (sub binary64 x u)
below_value {u} {x} ahead = record { holds = go (is_nan x) (is_nan_lem x) ahead.holds }
  where
    go : (b : Bool) → (T b → x ≡ nan) → T (b || lt u x) → T (nonneg_or_nan (sub binary64 x u))
    go true is_nan_lem h = rw (is_nan_lem tt, sub_nan_left binary64 u) tt
    go false is_nan_lem h = clear_or_nan→nonneg_or_nan (sub binary64 x u) (sub_clear_or_nan binary64 x u h)

module _ {u : Float} (number : T (not (is_nan u))) where
  -- The span from a reached knot to one ahead.
  span_divisor : {x y : Float} → Ahead u y → Reached u x → Divisor (sub binary64 y x)
  span_divisor {x} {y} ahead reached = record { holds = go (is_nan x) (is_nan y) (is_nan_lem x) (is_nan_lem y) (λ (z : T (not (is_nan x))). nlt→le u x number z reached.holds) ahead.holds }
    where
      go : (b c : Bool) → (T b → x ≡ nan) → (T c → y ≡ nan) → (T (not b) → T (le x u)) → T (c || lt u y) → T (clear_or_nan (sub binary64 y x))
      go true c p q g h = rw (p tt, sub_nan_right binary64 y) tt
      go false true p q g h = rw (q tt, sub_nan_left binary64 x) tt
      go false false p q g h = sub_clear_or_nan binary64 y x (le_lt_trans x u y (g tt) h)

  term_value : {x y z p q r s : Float} → Value x → Value y → Value z → Ahead u p → Reached u q → Ahead u r → Reached u s
      → Value (div binary64 (mul binary64 (mul binary64 x y) z) (mul binary64 (sub binary64 p q) (sub binary64 r s)))
  term_value x y z p q r s = quotient_value (product_value (product_value x y) z) (product_divisor (span_divisor p q) (span_divisor r s))

  cube_value : {x p q r s t v : Float} → Value x → Ahead u p → Reached u q → Ahead u r → Reached u s → Ahead u t → Reached u v
      → Value (div binary64 (mul binary64 (mul binary64 x x) x) (mul binary64 (mul binary64 (sub binary64 p q) (sub binary64 r s)) (sub binary64 t v)))
  cube_value x p q r s t v = quotient_value (product_value (product_value x x) x) (product_divisor (product_divisor (span_divisor p q) (span_divisor r s)) (span_divisor t v))

  module _ (a : ℕ → Float) where
    first_value : Reached u (a 0) → Ahead u (a 1) → Ahead u (a 2) → Ahead u (a 3) → Value (first_segment binary64_arithmetic u a)
    first_value zeroth first second third = cube_value (above_value zeroth) third zeroth second zeroth first zeroth

    second_value : Reached u (a 0) → Reached u (a 1) → Ahead u (a 2) → Ahead u (a 3) → Ahead u (a 4) → Value (second_segment binary64_arithmetic u a)
    unfolding sum_of_terms
    second_value zeroth first second third fourth =
        product_value (quotient_value one_value (span_divisor second first))
        (sum_value (sum_value (sum_value zero_value
        (term_value (above_value zeroth) (above_value zeroth) (below_value second) third zeroth second zeroth))
        (term_value (above_value zeroth) (above_value first) (below_value third) third zeroth third first))
        (term_value (above_value first) (above_value first) (below_value fourth) fourth first third first))

    third_value : Reached u (a 0) → Reached u (a 1) → Reached u (a 2) → Ahead u (a 3) → Ahead u (a 4) → Value (third_segment binary64_arithmetic u a)
    unfolding sum_of_terms
    third_value zeroth first second third fourth =
        product_value (quotient_value one_value (span_divisor third second))
        (sum_value (sum_value (sum_value zero_value
        (term_value (above_value zeroth) (below_value third) (below_value third) third zeroth third first))
        (term_value (above_value first) (below_value fourth) (below_value third) fourth first third first))
        (term_value (above_value second) (below_value fourth) (below_value fourth) fourth first fourth second))

    last_value : Reached u (a 1) → Reached u (a 2) → Reached u (a 3) → Ahead u (a 4) → Value (last_segment binary64_arithmetic u a)
    last_value first second third fourth = cube_value (below_value fourth) fourth first fourth second fourth third

-- ---- where u lies, by the outcomes of the tests

reached : {u x : Float} → lt u x ≡ false → Reached u x
reached e = record { holds = rw e tt }

-- u is below x.
ahead : {u x : Float} → lt u x ≡ true → Ahead u x
ahead {u} {x} e = record { holds = go (is_nan x) }
  where
    go : (b : Bool) → T (b || lt u x)
    go true = tt
    go false = rw e tt

-- u is below x, and x is NaN or at most y: then u is below y.
below_next : (u x y : Float) → lt u x ≡ true → T (is_nan x || le x y) → lt u y ≡ true
below_next u x y e k = is_true (lt u y) (go (is_nan x) (lt_num_r u x (rw e tt)) k)
  where
    go : (b : Bool) → T (not b) → T (b || le x y) → T (lt u y)
    go true number k = absurd number
    go false number k = lt_le_trans u x y (rw e tt) k

-- u is below x, and y is NaN or x is at most y.
ahead_next : (u x y : Float) → lt u x ≡ true → T (is_nan y || le x y) → Ahead u y
ahead_next u x y e k = record { holds = go (is_nan y) k }
  where
    go : (b : Bool) → T (b || le x y) → T (b || lt u y)
    go true k = tt
    go false k = lt_le_trans u x y (rw e tt) k

-- y is not at most u.
ahead_end : {u y : Float} → T (not (is_nan u)) → le y u ≡ false → Ahead u y
ahead_end {u} {y} number e = record { holds = go (is_nan y) (lt u y) (nlt→le u y number) }
  where
    go : (b c : Bool) → (T (not b) → T (not c) → T (le y u)) → T (b || c)
    go true c k = tt
    go false true k = tt
    go false false k = rw e at (k tt tt)

-- ---- the value

module _ (u : Float) (number : T (not (is_nan u))) (a : ℕ → Float) (down : T (is_nan (a 1) || le (a 1) (a 2))) (up : T (is_nan (a 3) || le (a 2) (a 3))) where
  at_number : T (nonneg_or_nan (formula binary64_arithmetic u a))
  at_number = go (lt u (a 0)) (le (a 4) u) (lt u (a 1)) (lt u (a 2)) (lt u (a 3)) refl refl refl refl refl
    where
      go : (b c d e f : Bool) → lt u (a 0) ≡ b → le (a 4) u ≡ c → lt u (a 1) ≡ d → lt u (a 2) ≡ e → lt u (a 3) ≡ f → T (nonneg_or_nan (formula binary64_arithmetic u a))
      go true c d e f start end second third fourth = rw (below_knots binary64_arithmetic u a start) tt
      go false true d e f start end second third fourth = rw (above_knots binary64_arithmetic u a start end) tt
      go false false true e f start end second third fourth =
          let beyond = below_next u (a 1) (a 2) second down in
          rw (in_first binary64_arithmetic u a start end second)
          (first_value number a (reached start) (ahead second) (ahead beyond) (ahead_next u (a 2) (a 3) beyond up)).holds
      go false false false true f start end second third fourth =
          rw (in_second binary64_arithmetic u a start end second third)
          (second_value number a (reached start) (reached second) (ahead third) (ahead_next u (a 2) (a 3) third up) (ahead_end number end)).holds
      go false false false false true start end second third fourth =
          rw (in_third binary64_arithmetic u a start end second third fourth)
          (third_value number a (reached start) (reached second) (reached third) (ahead fourth) (ahead_end number end)).holds
      go false false false false false start end second third fourth =
          rw (in_last binary64_arithmetic u a start end second third fourth)
          (last_value number a (reached second) (reached third) (reached fourth) (ahead_end number end)).holds

-- A NaN u passes every test and gives NaN.
at_nan : (a : ℕ → Float) → T (nonneg_or_nan (formula binary64_arithmetic nan a))
unfolding formula lt
at_nan a = go (le (a 4) nan)
  where
    go : (b : Bool) → T (nonneg_or_nan (cond b 0f (last_segment binary64_arithmetic nan a)))
    go true = tt
    go false = unfold mul div in (rw (sub_nan_right binary64 (a 4)) tt)

-- Knots of which the second is NaN or at most the third, and the fourth NaN or at least the third.
pub formula_nonneg_or_nan : (u : Float) (a : ℕ → Float) → T (is_nan (a 1) || le (a 1) (a 2)) → T (is_nan (a 3) || le (a 2) (a 3)) → T (nonneg_or_nan (formula binary64_arithmetic u a))
unfolding is_nan
formula_nonneg_or_nan nan a down up = at_nan a
formula_nonneg_or_nan (inf s) a down up = at_number (inf s) tt a down up
formula_nonneg_or_nan (fin s m e) a down up = at_number (fin s m e) tt a down up

or_number : (b c : Bool) → (T (not b) → T c) → T (b || c)
or_number true c h = tt
or_number false c h = h tt

-- counted from a float that fits by a step that is NaN or not negative: a sum that is a number is not below it, a difference not above
pub sum_at_least : (c x : Float) → T (fits binary64 c) → T (nonneg_or_nan x) → T (not (is_nan (add binary64 c x))) → T (le c (add binary64 c x))
unfolding is_nan
sum_at_least c nan h k number = absurd (rw (add_nan_right binary64 c) at number)
sum_at_least c (inf s) h k number = add_up binary64 c (inf s) h k number
sum_at_least c (fin s m e) h k number = add_up binary64 c (fin s m e) h k number

pub difference_at_most : (c x : Float) → T (fits binary64 c) → T (nonneg_or_nan x) → T (not (is_nan (sub binary64 c x))) → T (le (sub binary64 c x) c)
unfolding is_nan
difference_at_most c nan h k number = absurd (rw (sub_nan_right binary64 c) at number)
difference_at_most c (inf s) h k number = sub_down binary64 c (inf s) h k number
difference_at_most c (fin s m e) h k number = sub_down binary64 c (fin s m e) h k number

pub non_negative : NonNegative
non_negative u centre down downAgain up upAgain h k l =
    formula_nonneg_or_nan u _
    (or_number (is_nan (sub binary64 centre down)) (le (sub binary64 centre down) centre) (difference_at_most centre down h k))
    (or_number (is_nan (add binary64 centre up)) (le centre (add binary64 centre up)) (sum_at_least centre up h l))
