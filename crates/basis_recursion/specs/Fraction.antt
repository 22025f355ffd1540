-- Fractions: a whole number over a positive one, not reduced, with the arithmetic taught at school. Two fractions are the same number
-- where their cross products are equal. A quotient by zero is zero; the formula meets none on knots that never fall (see Exact).
use Rattle.std.specs.Prelude.{Bool, false, ◌≡◌, ℕ, zero, suc, ◌*◌, ◌<◌, eqb, ℤ, pos, negsuc, neg_ℤ, ◌+ℤ◌, ◌-ℤ◌, ◌*ℤ◌}
use Rattle.std.proofs.Common.{mul-pos, zero-lt-suc}
use Rattle.std.specs.Int.Signed.{lt_z, le_z}
use Rattle.basis.specs.Formula.{Arithmetic}

-- numerator / denominator.
pub record Fraction : Type 0 where
  pub numerator : ℤ
  pub denominator : ℕ
  pub positive : 0 < denominator

-- The denominator, as an integer.
abbrev pub bottom : Fraction → ℤ
bottom x = pos x.denominator

infix 4 ◌≈◌
-- The same number: the cross products are equal.
abbrev pub ◌≈◌ : Fraction → Fraction → Type 0
x ≈ y = x.numerator *ℤ bottom y ≡ y.numerator *ℤ bottom x

-- A whole number n, as n / 1.
abbrev pub whole : ℤ → Fraction
whole n = record { numerator = n; denominator = 1; positive = zero-lt-suc 0 }

-- x + y.
unfoldable pub plus : Fraction → Fraction → Fraction
plus x y = record {
  numerator = x.numerator *ℤ bottom y +ℤ y.numerator *ℤ bottom x;
  denominator = x.denominator * y.denominator;
  positive = mul-pos x.positive y.positive;
}

-- x - y.
unfoldable pub minus : Fraction → Fraction → Fraction
minus x y = record {
  numerator = x.numerator *ℤ bottom y -ℤ y.numerator *ℤ bottom x;
  denominator = x.denominator * y.denominator;
  positive = mul-pos x.positive y.positive;
}

-- x * y.
unfoldable pub times : Fraction → Fraction → Fraction
times x y = record {
  numerator = x.numerator *ℤ y.numerator;
  denominator = x.denominator * y.denominator;
  positive = mul-pos x.positive y.positive;
}

-- d / n, where n is an integer and d a natural number: n's sign goes above the line. It is 0 where n is 0.
unfoldable pub turned : ℤ → ℕ → Fraction
turned (pos zero) d = whole (pos 0)
turned (pos (suc n)) d = record { numerator = pos d; denominator = suc n; positive = zero-lt-suc n }
turned (negsuc n) d = record { numerator = neg_ℤ (pos d); denominator = suc n; positive = zero-lt-suc n }

-- x / y, and 0 where y is 0.
unfoldable pub over : Fraction → Fraction → Fraction
unfolding times turned
over x y = times x (turned y.numerator y.denominator)

-- Whether two integers are equal.
abbrev pub eq_z : ℤ → ℤ → Bool
eq_z (pos m) (pos n) = eqb m n
eq_z (pos m) (negsuc n) = false
eq_z (negsuc m) (pos n) = false
eq_z (negsuc m) (negsuc n) = eqb m n

-- The operations above, and comparison by cross products.
abbrev pub fraction_arithmetic : Arithmetic Fraction
fraction_arithmetic = record {
  zero = whole (pos 0);
  one = whole (pos 1);
  add = plus;
  sub = minus;
  mul = times;
  div = over;
  lt = λ x y. lt_z (x.numerator *ℤ bottom y) (y.numerator *ℤ bottom x);
  le = λ x y. le_z (x.numerator *ℤ bottom y) (y.numerator *ℤ bottom x);
  eq = λ x y. eq_z (x.numerator *ℤ bottom y) (y.numerator *ℤ bottom x);
}
