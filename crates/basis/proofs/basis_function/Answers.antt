-- Each way out of the tests is a case of the formula, and each part has its contract.
use mathlib.Core.Path.{sym, ap, ◌∙◌}
use lib.Ieee.{binary64, mul, of_bits}
use Rattle.basis.specs.Binary64.{binary64_arithmetic}
use Rattle.basis.proofs.FormulaLaws.{below_knots, above_knots, in_first, in_second, in_third, in_last}
use Rattle.basis.proofs.basis_function.Goals as goal
use Rattle.basis.proofs.basis_function.Goals.{then-u-a-via-then-u-a, then-u-a-via-else-u-a+then-a-u}

pub returns-then-u-a : goal.returns-then-u-a
unfolding of_bits
returns-then-u-a c =
    elim c.then-u-a.branch [
      | then-u-a-via-then-u-a w ↦ sym (below_knots binary64_arithmetic _ _ (search))
      | then-u-a-via-else-u-a+then-a-u w ↦ sym (above_knots binary64_arithmetic _ _ (search) (search))
    ]

pub returns-then-u-a-2 : goal.returns-then-u-a-2
returns-then-u-a-2 c = c.first_segment.ensures ∙ sym (in_first binary64_arithmetic _ _ (search) (search) (search))

pub returns-then-u-a-3 : goal.returns-then-u-a-3
unfolding of_bits
returns-then-u-a-3 c = ap (mul binary64 _) c.rising_sum.ensures ∙ sym (in_second binary64_arithmetic _ _ (search) (search) (search) (search))

pub returns-then-u-a-4 : goal.returns-then-u-a-4
unfolding of_bits
returns-then-u-a-4 c = ap (mul binary64 _) c.falling_sum.ensures ∙ sym (in_third binary64_arithmetic _ _ (search) (search) (search) (search) (search))

pub returns-else-u-a-4 : goal.returns-else-u-a-4
returns-else-u-a-4 c = c.last_segment.ensures ∙ sym (in_last binary64_arithmetic _ _ (search) (search) (search) (search) (search))
