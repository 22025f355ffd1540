-- `approach_ray` meets its contract: what is left of the approach at each turn of the loop gives the whole.
use Prim.Native.Nat.{◌-◌}
use mathlib.Core.Path.{◌≡◌}
use Rattle.control_point.specs.Sides.{lent_sides}
use Rattle.ray_approach.specs.Approach.{approach_in, approach_of}
use Rattle.ray_approach.proofs.approach.approach_ray.Given as goal

abbrev pub invariant-loop-rounds : goal.invariant-loop-rounds
invariant-loop-rounds l =
    let sides = lent_sides l.sides in
    approach_of l.closeness sides l.made l.direction l.start l.distance ≡ approach_in l.closeness sides l.made l.direction (l.made - l.rounds) l.at l.left
