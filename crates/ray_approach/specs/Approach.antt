-- The approach in a ray's march, from a point at the distance r from the ray: walk clockwise(d) watching d; r less its sum is small:
-- leave the march without moving; negative: end the approach; else move, keep the difference as r, repeat. In one approach, a round
-- beyond as many as points made is not walked: 9. The answer is the last point before the ray, which is where the march is left
-- (aligned), or where the approach ends with its r (crossed). e is the closeness, d the direction of the ray.
use Rattle.std.specs.Prelude.{ℕ, zero, suc, cond, Float, Err, Ok, Result}
use Rattle.std.specs.Float.{binary64}
use Rattle.std.specs.Float.Ieee.{sub, lt}
use Rattle.float64.specs.Literals.{zero_literal}
use Rattle.control_point.specs.Direction.{clockwise_of}
use Rattle.control_point.specs.Sides.{Sides}
use Rattle.control_point.specs.Small.{small}
use Rattle.navigation.specs.Walk.{walk_of}
use Rattle.control_point.specs.declared.refusal.Refusal.TheVariants.{Ring}
use Rattle.control_point.specs.declared.t_mesh_direction.TmeshDirection.{TmeshDirection}
use Rattle.ray_approach.specs.declared.approach.Approach.TheVariants.{Aligned, Crossed}
use Rattle.control_point.specs.declared.refusal.Refusal.{Refusal}
use Rattle.navigation.specs.declared.walk.Walk.{Walk}
use Rattle.ray_approach.specs.declared.approach.Approach.{Approach}

-- one round, by its walk: r less its sum is small, negative, or kept
abbrev pub approach_round : Float → Result Walk Refusal → ℕ → Float → (ℕ → Float → Result Approach Refusal) → Result Approach Refusal
approach_round e (Ok walk) at r again =
    cond (small e (sub binary64 r walk.sum))
    (Ok (Aligned at))
    (cond (lt (sub binary64 r walk.sum) zero_literal) (Ok (Crossed at r)) (again walk.at (sub binary64 r walk.sum)))
approach_round e (Err refusal) at r again = Err refusal

module _ (e : Float) (sides : Sides) (made : ℕ) (d : TmeshDirection) where
  -- with so many rounds left
  unfoldable pub approach_in : ℕ → ℕ → Float → Result Approach Refusal
  approach_in zero at r = Err Ring
  approach_in (suc left) at r = approach_round e (walk_of sides made at (clockwise_of d) d) at r (λ n rest. approach_in left n rest)

  -- as many rounds as points made
  unfoldable pub approach_of : ℕ → Float → Result Approach Refusal
  approach_of at r = approach_in made at r
