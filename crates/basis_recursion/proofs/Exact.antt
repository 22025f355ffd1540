-- Formula and recursion are equal in the field of rational numbers, so they are the same number at fractions; and the tests for zero are the same in both.
use mathlib.Core.Path.{◌≡◌, sym, ◌∙◌}
use mathlib.Core.Bool.{true, ◌||◌}
use mathlib.Core.Quot.Quotient
use Prim.Native.Nat.{ℕ}
use native.Mathlib.Nat.{zero-lt-suc}
use lib.Ieee.Bits.{is_true}
use lib.IntN.{ℤ, pos, ◌*ℤ◌}
use lib.Signed.{le_z, ◌≤ℤ◌}
use Rattle.basis_recursion.specs.Exact.{NeverFall, FormulaIsRecursion, NoQuotientByZero}
use Rattle.basis_recursion.specs.Fraction.{Fraction, whole, times, fraction_arithmetic}
use Rattle.basis_recursion.proofs.Field.{Order, eq_mul}
use Rattle.basis_recursion.proofs.FormulaIsRecursion.{formula_in_field}
use Rattle.basis_recursion.proofs.FractionLaws.{le_not, lt_le_lt, lt_minus}
use Rattle.basis_recursion.proofs.Homomorphism.{map_basis, map_formula}
use Rattle.basis_recursion.proofs.IntegerOrder.{scale_le_z}
use Rattle.basis_recursion.proofs.NoQuotientByZero.{quotients_defined}
use Rattle.basis_recursion.proofs.Place.{Ascending}
use Rattle.basis_recursion.proofs.Rationals.{rationals, rational_field, rational_order, number, number_keeps, same_number}

ascending : (k : ℕ → ℤ) → NeverFall k → Ascending fraction_arithmetic (λ i. whole (k i))
ascending k n = record {
  first = whole_le (k 0) (k 1) n.first;
  second = whole_le (k 1) (k 2) n.second;
  third = whole_le (k 2) (k 3) n.third;
  fourth = whole_le (k 3) (k 4) n.fourth;
}
  where
    whole_le : (m n : ℤ) → m ≤ℤ n → le_z (m *ℤ pos 1) (n *ℤ pos 1) ≡ true
    whole_le m n h = scale_le_z m n 1 (zero-lt-suc 0) ∙ is_true (le_z m n) h.le

numbers_ascend : (k : ℕ → ℤ) → NeverFall k → Ascending rationals (λ i. number (whole (k i)))
unfolding rationals Quotient.lift₂
numbers_ascend k n = let h = ascending k n in record { first = h.first; second = h.second; third = h.third; fourth = h.fourth }

pub formula_is_recursion : FormulaIsRecursion
formula_is_recursion u k n =
    same_number _ _
    (map_formula number number_keeps u (λ i. whole (k i))
    ∙ formula_in_field rationals rational_field (number u) (λ i. number (whole (k i))) rational_order (numbers_ascend k n)
    ∙ sym (map_basis number number_keeps u (λ i. whole (k i)) 3 0))

fraction_order : Order fraction_arithmetic
fraction_order = record { le_is = le_not; lt_le = lt_le_lt }

fraction_mul : (x y : Fraction) → fraction_arithmetic.eq (times x y) (whole (pos 0)) ≡ (fraction_arithmetic.eq x (whole (pos 0)) || fraction_arithmetic.eq y (whole (pos 0)))
unfolding rationals Quotient.lift₂
fraction_mul x y = eq_mul rationals rational_field (number x) (number y)

pub no_quotient_by_zero : NoQuotientByZero
no_quotient_by_zero u k n =
    quotients_defined fraction_arithmetic fraction_order (record { eq_mul = fraction_mul; lt_sub = lt_minus }) u (λ i. whole (k i)) (ascending k n)
