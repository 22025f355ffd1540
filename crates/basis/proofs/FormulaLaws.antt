-- What the formula comes to by the outcome of its tests: each law follows the tests down to its case; and that it reads only the five knots.
use Rattle.std.specs.Prelude.{◌≡◌, refl, true, false, [], ◌∷◌, ℕ, get_or}
use Rattle.basis.specs.Formula.{Arithmetic, sum_of_terms, formula, first_segment, second_segment, third_segment, last_segment}

module _ {F : Type 0} (arithmetic : Arithmetic F) (u : F) (a : ℕ → F) where
  pub below_knots : arithmetic.lt u (a 0) ≡ true → formula arithmetic u a ≡ arithmetic.zero
  unfolding formula
  below_knots outside = rw (outside, formula)

  pub above_knots : arithmetic.lt u (a 0) ≡ false → arithmetic.le (a 4) u ≡ true → formula arithmetic u a ≡ arithmetic.zero
  unfolding formula
  above_knots start outside = rw (start, outside, formula)

  module _ (start : arithmetic.lt u (a 0) ≡ false) (end : arithmetic.le (a 4) u ≡ false) where
    pub in_first : arithmetic.lt u (a 1) ≡ true → formula arithmetic u a ≡ first_segment arithmetic u a
    unfolding formula
    in_first second = rw (start, end, second, formula)

    pub in_second : arithmetic.lt u (a 1) ≡ false → arithmetic.lt u (a 2) ≡ true → formula arithmetic u a ≡ second_segment arithmetic u a
    unfolding formula
    in_second second third = rw (start, end, second, third, formula)

    pub in_third : arithmetic.lt u (a 1) ≡ false → arithmetic.lt u (a 2) ≡ false → arithmetic.lt u (a 3) ≡ true → formula arithmetic u a ≡ third_segment arithmetic u a
    unfolding formula
    in_third second third fourth = rw (start, end, second, third, fourth, formula)

    pub in_last : arithmetic.lt u (a 1) ≡ false → arithmetic.lt u (a 2) ≡ false → arithmetic.lt u (a 3) ≡ false → formula arithmetic u a ≡ last_segment arithmetic u a
    unfolding formula
    in_last second third fourth = rw (start, end, second, third, fourth, formula)

-- The formula reads only the five knots.
pub five_knots_lem : {F : Type 0} (arithmetic : Arithmetic F) (u : F) (a : ℕ → F) (past : F)
    → formula arithmetic u (λ i. get_or (a 0 ∷ a 1 ∷ a 2 ∷ a 3 ∷ a 4 ∷ []) i past) ≡ formula arithmetic u a
unfolding formula sum_of_terms
five_knots_lem arithmetic u a past = refl
