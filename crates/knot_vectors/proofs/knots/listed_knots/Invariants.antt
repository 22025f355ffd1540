-- `listed_knots` meets its contract: at each turn the rows of the numbers below n are filled, and those left give the whole.
use Prim.Native.Nat.{◌-◌}
use mathlib.Core.Path.{◌≡◌}
use Rattle.knot_vectors.specs.Knots.{all_knots, rows_from}
use Rattle.knot_vectors.proofs.knots.listed_knots.Given as goal

abbrev pub invariant-loop-n : goal.invariant-loop-n
invariant-loop-n l =
    all_knots l.closeness l.map ≡ rows_from l.closeness l.map (128 - l.n) l.n l.knots
