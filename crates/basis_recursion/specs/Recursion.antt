-- The recursion of Cox and de Boor for B-spline basis functions, over any arithmetic: order 0 is 1 on one half-open interval between
-- neighbouring knots and 0 elsewhere, and each next order blends two of the order below.
-- A term whose denominator is 0 is 0: repeated knots make such terms.
use Rattle.std.proofs.Math.Bool.{cond}
use Rattle.std.specs.Prelude.{◌&&◌}
use Prim.Native.Nat.{ℕ, zero, suc, ◌+◌}
use Rattle.basis.specs.Formula.{Arithmetic}

-- numerator / denominator × value, and 0 where the denominator is 0.
unfoldable pub blend : {F : Type 0} → Arithmetic F → F → F → F → F
blend arithmetic numerator denominator value =
    cond (arithmetic.eq denominator arithmetic.zero) arithmetic.zero (arithmetic.mul (arithmetic.div numerator denominator) value)

module _ {F : Type 0} (arithmetic : Arithmetic F) (u : F) (a : ℕ → F) where
  -- The basis function of an order that starts at knot i: order 0 is the lowest, and order 3 is cubic.
  unfoldable pub basis : ℕ → ℕ → F
  unfolding blend
  basis zero i = cond (arithmetic.le (a i) u && arithmetic.lt u (a (i + 1))) arithmetic.one arithmetic.zero
  basis (suc order) i =
      arithmetic.add
      (blend arithmetic (arithmetic.sub u (a i)) (arithmetic.sub (a (i + suc order)) (a i)) (basis order i))
      (blend arithmetic (arithmetic.sub (a (i + suc order + 1)) u) (arithmetic.sub (a (i + suc order + 1)) (a (i + 1))) (basis order (i + 1)))

  -- The cubic one of the knots a 0 to a 4.
  abbrev pub recursion : F
  recursion = basis 3 0
