-- THE KNOTS OF A POINT PASS `KnotVector::from`. Take any closeness, any border weight ≥ 0.0 (−0.0 and infinity are, a NaN is not), any four
-- corners, any list of insertions, evaluations, set-points, questions and settings of pulls on the map made from them, and any number. The five s knots and the five t knots of that
-- point, built with any closeness, never fall if none of them is a NaN, so sorting leaves them as they are, bit for bit.
-- `T b` says that the test b is true.
use Rattle.std.specs.Prelude.{ℕ, List, ◌≡◌, T, Float}
use Rattle.std.specs.Float.Ieee.{le}
use Rattle.float64.specs.Sign.{0f}
use Rattle.ray.specs.Knots.{point_knot_vectors}
use Rattle.knot_sorting.specs.KnotVector.{sorted, never_falls, all_numbers}
use Rattle.ray.specs.declared.knots.PointKnots.{PointKnots}
use Rattle.t_mesh.specs.Tmesh.{store_of, new_tmesh}
use Rattle.t_mesh.specs.declared.t_mesh.Position.{Position}
use Rattle.calls.specs.Calls.{Call}
use Rattle.soundness.specs.MapCalls.{map_after_all, entries}

-- five knots that hold no NaN never fall, and pass
pub record Passes (five : List Float) : Type 0 where
  pub never_fall : T (all_numbers five) → T (never_falls five)
  pub unchanged : T (all_numbers five) → sorted five ≡ five

pub record BothPass (own : PointKnots) : Type 0 where
  pub in_s : Passes own.s
  pub in_t : Passes own.t

abbrev pub KnotsPass : Type 0
KnotsPass =
    (e w : Float) (at_bottom_left at_bottom_right at_top_right at_top_left : Position) (calls : List Call)
    → T (le 0f w)
    → (closeness : Float) (n : ℕ)
    → BothPass (point_knot_vectors closeness (store_of (map_after_all e (new_tmesh w at_bottom_left at_bottom_right at_top_right at_top_left) (entries calls))) n).knots
