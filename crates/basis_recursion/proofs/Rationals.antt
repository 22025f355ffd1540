-- The rational numbers, fractions up to being the same number, are a field with an order, since the fractions' laws hold up to that.
use mathlib.Core.Path.{◌≡◌, refl}
use mathlib.Core.Bool.{Bool, true, false, not, Bool-set}
use mathlib.Core.HLevel.{Π_prop}
use mathlib.Core.Quot.Quotient
use mathlib.Core.Quot.{Setoid, Quotient, Quotient-set}
use lib.IntN.{pos, ℤ_set}
use Rattle.basis.specs.Formula.{Arithmetic}
use Rattle.basis_recursion.specs.Fraction.{Fraction, ◌≈◌, whole, plus, minus, times, turned, over, fraction_arithmetic}
use Rattle.basis_recursion.proofs.Field.{Field, Order}
use Rattle.basis_recursion.proofs.FractionLaws.{≈_refl, ≈_sym, ≈_trans, plus_≈, minus_≈, times_≈, turned_≈, over_≈, lt_≈, le_≈, eq_≈, eq→≈, ≈→eq, le_not, zero_plus, plus_comm, plus_assoc, times_assoc, times_comm, one_times, zero_times, times_plus, times_turned, lt_le_lt}
use Rattle.basis_recursion.proofs.Homomorphism.{Homomorphism}

abbrev pub same : Setoid {0, 0} Fraction
same = record { r = ◌≈◌; iseqv = record { refl = ≈_refl; symm = ≈_sym; trans = ≈_trans } }

-- The rational numbers.
abbrev pub ℚ : Type 0
ℚ = Quotient same

-- The number that a fraction is.
abbrev pub number : Fraction → ℚ
number x = Quotient.mk same x

pub glue : {x y : Fraction} → x ≈ y → number x ≡ number y
glue h = Quotient.sound same h

pub same_number : (x y : Fraction) → number x ≡ number y → x ≈ y
same_number x y e = Quotient.exact same (λ x y. ℤ_set _ _) e

abbrev pub operation : (f : Fraction → Fraction → Fraction) → ((x y x' y' : Fraction) → x ≈ x' → y ≈ y' → f x y ≈ f x' y') → ℚ → ℚ → ℚ
unfolding Quotient.lift₂
operation f kept = Quotient.lift₂ same same (Quotient-set same) (λ x y. number (f x y)) (λ x y x' y' h k. glue (kept x y x' y' h k))

abbrev pub test : (f : Fraction → Fraction → Bool) → ((x y x' y' : Fraction) → x ≈ x' → y ≈ y' → f x y ≡ f x' y') → ℚ → ℚ → Bool
unfolding Quotient.lift₂
test f kept = Quotient.lift₂ same same Bool-set f kept

unfoldable pub rationals : Arithmetic ℚ
rationals = record {
  zero = number (whole (pos 0));
  one = number (whole (pos 1));
  add = operation plus plus_≈;
  sub = operation minus minus_≈;
  mul = operation times times_≈;
  div = operation over over_≈;
  lt = test fraction_arithmetic.lt lt_≈;
  le = test fraction_arithmetic.le le_≈;
  eq = test fraction_arithmetic.eq eq_≈;
}

reciprocal : ℚ → ℚ
unfolding Quotient.lift
reciprocal = Quotient.lift same (Quotient-set same) (λ x. number (turned x.numerator x.denominator))
    (λ x y h. glue (turned_≈ x.numerator y.numerator x.denominator y.denominator x.positive y.positive h))

-- An equation of one, two or three rationals holds where it holds of fractions.
module _ (f g : ℚ → ℚ) (h : (x : Fraction) → f (number x) ≡ g (number x)) where
  of_one : (p : ℚ) → f p ≡ g p
  of_one = Quotient.ind same {motive = λ p. f p ≡ g p} (λ p. Quotient-set same (f p) (g p)) h

module _ (f g : ℚ → ℚ → ℚ) (h : (x y : Fraction) → f (number x) (number y) ≡ g (number x) (number y)) where
  of_two : (p q : ℚ) → f p q ≡ g p q
  of_two = Quotient.ind₂ same same {motive = λ p q. f p q ≡ g p q} (λ p q. Quotient-set same (f p q) (g p q)) h

module _ (f g : ℚ → ℚ → ℚ → ℚ) (h : (x y z : Fraction) → f (number x) (number y) (number z) ≡ g (number x) (number y) (number z)) where
  of_three : (p q r : ℚ) → f p q r ≡ g p q r
  of_three p q r = Quotient.induction_on₃ same same same {motive = λ p q r. f p q r ≡ g p q r} (λ p q r. Quotient-set same (f p q r) (g p q r)) p q r h

pub rational_field : Field rationals
unfolding rationals reciprocal Quotient.lift Quotient.lift₂ over
rational_field = record {
  inverse = reciprocal;
  zero_add = of_one (λ p. rationals.add rationals.zero p) (λ p. p) (λ x. glue (zero_plus x));
  add_comm = of_two (λ p q. rationals.add p q) (λ p q. rationals.add q p) (λ x y. glue (plus_comm x y));
  add_assoc = of_three (λ p q r. rationals.add (rationals.add p q) r) (λ p q r. rationals.add p (rationals.add q r)) (λ x y z. glue (plus_assoc x y z));
  mul_assoc = of_three (λ p q r. rationals.mul (rationals.mul p q) r) (λ p q r. rationals.mul p (rationals.mul q r)) (λ x y z. glue (times_assoc x y z));
  mul_comm = of_two (λ p q. rationals.mul p q) (λ p q. rationals.mul q p) (λ x y. glue (times_comm x y));
  one_mul = of_one (λ p. rationals.mul rationals.one p) (λ p. p) (λ x. glue (one_times x));
  zero_mul = of_one (λ p. rationals.mul rationals.zero p) (λ p. rationals.zero) (λ x. glue (zero_times x));
  mul_add = of_three (λ p q r. rationals.mul p (rationals.add q r)) (λ p q r. rationals.add (rationals.mul p q) (rationals.mul p r)) (λ x y z. glue (times_plus x y z));
  div_is = of_two (λ p q. rationals.div p q) (λ p q. rationals.mul p (reciprocal q)) (λ x y. refl);
  mul_inverse = Quotient.ind same {motive = λ p. rationals.eq p rationals.zero ≡ false → rationals.mul p (reciprocal p) ≡ rationals.one}
      (λ p. Π_prop (λ e. Quotient-set same _ _)) (λ x e. glue (times_turned x e));
  inverse_zero = refl;
  eq_is = Quotient.ind₂ same same {motive = λ p q. rationals.eq p q ≡ true → p ≡ q} (λ p q. Π_prop (λ e. Quotient-set same p q)) (λ x y e. glue (eq→≈ x y e));
  eq_self = Quotient.ind same {motive = λ p. rationals.eq p p ≡ true} (λ p. Bool-set _ _) (λ x. ≈→eq x x refl);
}

pub rational_order : Order rationals
unfolding rationals Quotient.lift₂
rational_order = record {
  le_is = Quotient.ind₂ same same {motive = λ p q. rationals.le p q ≡ not (rationals.lt q p)} (λ p q. Bool-set _ _) le_not;
  lt_le = λ p q r. Quotient.induction_on₃ same same same {motive = λ p q r. rationals.lt p q ≡ true → rationals.le q r ≡ true → rationals.lt p r ≡ true}
      (λ p q r. Π_prop (λ h. Π_prop (λ k. Bool-set _ _))) p q r lt_le_lt;
}

pub number_keeps : Homomorphism fraction_arithmetic rationals number
unfolding rationals Quotient.lift₂
number_keeps = record {
  zero = refl;
  one = refl;
  add = λ x y. refl;
  sub = λ x y. refl;
  mul = λ x y. refl;
  div = λ x y. refl;
  lt = λ x y. refl;
  le = λ x y. refl;
  eq = λ x y. refl;
}
