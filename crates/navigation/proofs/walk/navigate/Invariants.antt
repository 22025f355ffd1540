-- The walk over lent sides meets its contract: what is left of the walk at each turn of the loop gives the whole.
use Prim.Native.Nat.{◌≤◌, ◌-◌}
use mathlib.Core.Path.{◌≡◌}
use Rattle.control_point.specs.Sides.{lent_sides}
use Rattle.navigation.specs.Walk.{walk_of, onward}
use Rattle.navigation.proofs.walk.navigate.Given as goal

abbrev pub invariant-loop-travel : goal.invariant-loop-travel
invariant-loop-travel l =
    let f = lent_sides l.sides in
    (l.moves ≤ l.made) × (walk_of f l.made l.start l.travel l.watch ≡ onward (l.made - l.moves) f l.made l.travel l.watch l.at l.sum l.moves)

abbrev pub decreases-loop-travel : goal.decreases-loop-travel
decreases-loop-travel l = l.made - l.moves
