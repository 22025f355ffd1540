-- `store_is_right` meets its contract: the loop has compared the first n points.
use Prim.Native.Nat.{◌-◌}
use mathlib.Core.Path.{◌≡◌}
use Rattle.stored_calls.specs.Points.{points_are_right}
use Rattle.stored_calls.proofs.points.store_is_right.Given as goal

abbrev pub invariant-loop-n : goal.invariant-loop-n
invariant-loop-n l = l.right ≡ points_are_right l.n l.store.points l.bytes
