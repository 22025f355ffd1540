-- In a field the formula is the recursion: the recursion is linear in the four functions of order 0, and its coefficients multiply out to the
-- formula's segments by distributivity, commutativity and 1 / (x y) = 1 / x * 1 / y. Of the four at most one is not 0, where u lies.
use mathlib.Core.Path.{◌≡◌, sym, ◌∙◌}
use mathlib.Core.Bool.{Bool, not, cond, ◌||◌, ◌&&◌}
use Prim.Native.Nat.{ℕ}
use Rattle.basis.specs.Formula.{Arithmetic, above, below, span, formula, sum_of_terms}
use Rattle.basis_recursion.specs.Recursion.{blend, basis, recursion}
use Rattle.basis_recursion.proofs.Field.{Field, Order, mul_left, add_zero, add_left, inverse_mul, blend_is}
use Rattle.basis_recursion.proofs.Place.{Place, before_all, first_gap, second_gap, third_gap, fourth_gap, after_all, Ascending, place}

-- The identity, in the distances from u up and down to the knots and in the gaps between them, for any names h, i, j, k, l of the five knots.
module _ {F : Type 0} (arithmetic : Arithmetic F) (field : Field arithmetic) (up down : ℕ → F) (gap : ℕ → ℕ → F) (h i j k l : ℕ) where
  abbrev add : F → F → F
  add = arithmetic.add

  abbrev mul : F → F → F
  mul = arithmetic.mul

  abbrev zero : F
  zero = arithmetic.zero

  abbrev one : F
  one = arithmetic.one

  -- The recursion's orders 1, 2 and 3, from values of order 0, at knots that follow one another.
  abbrev linear : (ℕ → F) → ℕ → ℕ → ℕ → F
  linear w p q r = add (blend arithmetic (up p) (gap q p) (w p)) (blend arithmetic (down r) (gap r q) (w q))

  abbrev quadratic : (ℕ → F) → ℕ → ℕ → ℕ → ℕ → F
  quadratic w p q r s = add (blend arithmetic (up p) (gap r p) (linear w p q r)) (blend arithmetic (down s) (gap s q) (linear w q r s))

  abbrev cubic : (ℕ → F) → F
  cubic w = add (blend arithmetic (up h) (gap k h) (quadratic w h i j k)) (blend arithmetic (down l) (gap l i) (quadratic w i j k l))

  -- The formula's segments, written out.
  abbrev fraction : F → F → F → F → F → F
  fraction x y z s t = arithmetic.div (mul (mul x y) z) (mul s t)

  abbrev segment_first : F
  segment_first = arithmetic.div (mul (mul (up h) (up h)) (up h)) (mul (mul (gap k h) (gap j h)) (gap i h))

  abbrev segment_second : F
  segment_second =
      mul (arithmetic.div one (gap j i))
      (add (add (add zero (fraction (up h) (up h) (down j) (gap k h) (gap j h))) (fraction (up h) (up i) (down k) (gap k h) (gap k i))) (fraction (up i) (up i) (down l) (gap l i) (gap k i)))

  abbrev segment_third : F
  segment_third =
      mul (arithmetic.div one (gap k j))
      (add (add (add zero (fraction (up h) (down k) (down k) (gap k h) (gap k i))) (fraction (up i) (down l) (down k) (gap l i) (gap k i))) (fraction (up j) (down l) (down l) (gap l i) (gap l j)))

  abbrev segment_last : F
  segment_last = arithmetic.div (mul (mul (down l) (down l)) (down l)) (mul (mul (gap l i) (gap l j)) (gap l k))

  -- The segments, each times a value.
  abbrev weighted : F → F → F → F → F
  weighted w x y z = add (mul w segment_first) (add (mul x segment_second) (add (mul y segment_third) (mul z segment_last)))

  cubic_is : (w : ℕ → F) → cubic w ≡ weighted (w h) (w i) (w j) (w k)
  cubic_is w =
      simp (add, mul, cubic, quadratic, linear, weighted, fraction, blend_is arithmetic field, field.div_is, inverse_mul arithmetic field, field.zero_add, field.one_mul, field.mul_add, field.mul_assoc, field.mul_comm, mul_left arithmetic field, field.add_assoc, add_left arithmetic field)

  -- The formula and the functions of order 0, by the outcomes of the five tests.
  abbrev chosen : Bool → Bool → Bool → Bool → Bool → F
  chosen b c d e f = cond (b || not f) zero (cond c segment_first (cond d segment_second (cond e segment_third segment_last)))

  abbrev on : Bool → Bool → F
  on b c = cond (not b && c) one zero

  by_place : {b c d e f : Bool} → Place b c d e f → chosen b c d e f ≡ weighted (on b c) (on c d) (on d e) (on e f)
  by_place before_all = simp (weighted, on, field.zero_mul, field.zero_add)
  by_place first_gap = simp (weighted, on, field.zero_mul, field.one_mul, field.zero_add, add_zero arithmetic field)
  by_place second_gap = simp (weighted, on, field.zero_mul, field.one_mul, field.zero_add, add_zero arithmetic field)
  by_place third_gap = simp (weighted, on, field.zero_mul, field.one_mul, field.zero_add, add_zero arithmetic field)
  by_place fourth_gap = simp (weighted, on, field.zero_mul, field.one_mul, field.zero_add)
  by_place after_all = simp (weighted, on, field.zero_mul, field.zero_add)

module _ {F : Type 0} (arithmetic : Arithmetic F) (field : Field arithmetic) (u : F) (a : ℕ → F) where
  -- The functions of order 0.
  abbrev lowest : ℕ → F
  lowest i = basis arithmetic u a 0 i

  pub formula_in_field : Order arithmetic → Ascending arithmetic a → formula arithmetic u a ≡ recursion arithmetic u a
  unfolding formula basis sum_of_terms
  formula_in_field order k =
      simp order.le_is (by_place arithmetic field (above arithmetic u a) (below arithmetic u a) (span arithmetic u a) 0 1 2 3 4 (place arithmetic order u a k))
      ∙ sym (cubic_is arithmetic field (above arithmetic u a) (below arithmetic u a) (span arithmetic u a) 0 1 2 3 4 lowest)
