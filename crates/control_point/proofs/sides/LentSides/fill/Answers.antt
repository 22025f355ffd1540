-- `fill` meets its contract: at the loop's end the sides of all points are right.
use native.Mathlib.Omega.{arith}
use mathlib.Core.Path.{subst}
use Prim.Native.Nat.{ℕ}
use Rattle.control_point.specs.Sides.{lent_sides}
use Rattle.control_point.proofs.SidesLaws.{RightTo, right_all}
use Rattle.control_point.proofs.sides.LentSides.fill.Goals as goal

pub returns : goal.returns
returns c =
    let l = c.loop-n in
    (l.invariant.0, right_all _ _ _ _ (subst (λ (n : ℕ). RightTo n (lent_sides l.self) c.args.points) (omega arith) l.invariant.1))
