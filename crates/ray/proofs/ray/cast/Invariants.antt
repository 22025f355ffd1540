-- `cast` meets its contract: the entries that stand, and the rest of the ray behind them, are the whole ray at each turn of the loop.
use Prim.Native.Nat.{◌-◌}
use mathlib.Core.Path.{◌≡◌}
use lib.ListN.{length, take}
use Rattle.control_point.specs.Sides.{lent_sides}
use Rattle.ray.specs.Ray.{ray_from, ray_of}
use Rattle.ray.proofs.RayLaws.{behind}
use Rattle.ray.proofs.ray.cast.Given as goal

abbrev pub invariant-loop-i : goal.invariant-loop-i
invariant-loop-i l =
    let sides = lent_sides l.sides in
    (length l.buffer ≡ length l.initial.buffer)
    × (ray_of l.closeness sides l.made l.start l.direction (length l.initial.buffer) ≡ behind (take l.i l.buffer) (ray_from l.closeness sides l.made l.direction (length l.initial.buffer - l.i) l.front))
