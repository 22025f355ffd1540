-- The formula divides only by products of spans between a knot that u has reached and one that it has not, and such knots differ.
use mathlib.Core.Path.{◌≡◌, refl, sym, ap, ◌∙◌}
use mathlib.Core.Bool.{Bool, true, false, not, ◌||◌}
use mathlib.Core.Option.{Option, some}
use Prim.Native.Nat.{ℕ}
use Rattle.basis_recursion.specs.Exact.{strict}
use Rattle.basis.specs.Formula.{Arithmetic, formula, sum_of_terms}
use Rattle.basis.proofs.FormulaLaws.{below_knots, above_knots, in_first, in_second, in_third, in_last}
use Rattle.basis_recursion.proofs.Field.{Order}
use Rattle.basis_recursion.proofs.Place.{Place, before_all, first_gap, second_gap, third_gap, fourth_gap, after_all, Ascending, place}

-- When a product and a difference are not zero.
pub record NonZero {F : Type 0} (arithmetic : Arithmetic F) : Type 0 where
  pub eq_mul : (x y : F) → arithmetic.eq (arithmetic.mul x y) arithmetic.zero ≡ (arithmetic.eq x arithmetic.zero || arithmetic.eq y arithmetic.zero)
  pub lt_sub : (x y : F) → arithmetic.lt x y ≡ true → arithmetic.eq (arithmetic.sub y x) arithmetic.zero ≡ false

-- Knots, each defined.
abbrev defined : {F : Type 0} → (ℕ → F) → ℕ → Option F
defined a i = some (a i)

module _ {F : Type 0} (arithmetic : Arithmetic F) (order : Order arithmetic) (nonzero : NonZero arithmetic) (u : F) where
  -- A knot that u has not reached differs from one that it has.
  apart : (x y : F) → arithmetic.lt u x ≡ false → arithmetic.lt u y ≡ true → arithmetic.eq (arithmetic.sub y x) arithmetic.zero ≡ false
  apart x y reached ahead = nonzero.lt_sub x y (go (arithmetic.lt x y) refl)
    where
      go : (b : Bool) → arithmetic.lt x y ≡ b → b ≡ true
      go true e = refl
      go false e = let w : arithmetic.lt u x ≡ true = order.lt_le u y x ahead (order.le_is y x ∙ ap not e) in cc

  pub quotients_defined : (a : ℕ → F) → Ascending arithmetic a → formula (strict arithmetic) (some u) (λ i. some (a i)) ≡ some (formula arithmetic u a)
  unfolding sum_of_terms
  quotients_defined a k = go (place arithmetic order u a k) refl refl refl refl refl
    where
      past : (b : Bool) → arithmetic.lt u (a 4) ≡ b → arithmetic.le (a 4) u ≡ not b
      past b e = order.le_is (a 4) u ∙ ap not e

      go : {b c d e f : Bool} → Place b c d e f → arithmetic.lt u (a 0) ≡ b → arithmetic.lt u (a 1) ≡ c → arithmetic.lt u (a 2) ≡ d
          → arithmetic.lt u (a 3) ≡ e → arithmetic.lt u (a 4) ≡ f → formula (strict arithmetic) (some u) (λ i. some (a i)) ≡ some (formula arithmetic u a)
      go before_all start second third fourth end = below_knots (strict arithmetic) (some u) (defined a) start ∙ ap some (sym (below_knots arithmetic u a start))
      go after_all start second third fourth end =
          above_knots (strict arithmetic) (some u) (defined a) start (past false end) ∙ ap some (sym (above_knots arithmetic u a start (past false end)))
      go first_gap start second third fourth end =
          in_first (strict arithmetic) (some u) (defined a) start (past true end) second
          ∙ (simp (nonzero.eq_mul, apart (a 0) (a 1) start second, apart (a 0) (a 2) start third, apart (a 0) (a 3) start fourth))
          ∙ ap some (sym (in_first arithmetic u a start (past true end) second))
      go second_gap start second third fourth end =
          in_second (strict arithmetic) (some u) (defined a) start (past true end) second third
          ∙ (simp (nonzero.eq_mul, apart (a 1) (a 2) second third, apart (a 0) (a 3) start fourth, apart (a 0) (a 2) start third, apart (a 1) (a 3) second fourth, apart (a 1) (a 4) second end))
          ∙ ap some (sym (in_second arithmetic u a start (past true end) second third))
      go third_gap start second third fourth end =
          in_third (strict arithmetic) (some u) (defined a) start (past true end) second third fourth
          ∙ (simp (nonzero.eq_mul, apart (a 2) (a 3) third fourth, apart (a 0) (a 3) start fourth, apart (a 1) (a 3) second fourth, apart (a 1) (a 4) second end, apart (a 2) (a 4) third end))
          ∙ ap some (sym (in_third arithmetic u a start (past true end) second third fourth))
      go fourth_gap start second third fourth end =
          in_last (strict arithmetic) (some u) (defined a) start (past true end) second third fourth
          ∙ (simp (nonzero.eq_mul, apart (a 1) (a 4) second end, apart (a 2) (a 4) third end, apart (a 3) (a 4) fourth end))
          ∙ ap some (sym (in_last arithmetic u a start (past true end) second third fourth))
