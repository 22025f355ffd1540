-- What the else of a `let Side::Link(..) = side else` says of the side: a step over it is refused.
use Prim.Native.Nat.{ℕ, zero, suc}
use mathlib.Core.Path.{◌≡◌, refl, ◌∙◌}
use mathlib.Core.Bool.{true, false}
use lib.Ieee.{Float}
use Rattle.control_point.specs.Point.{is_made, is_link, side_refusal}
use Rattle.control_point.specs.Sides.{Sides}
use Rattle.navigation.specs.Walk.{step_over, onward}
use Rattle.navigation.proofs.WalkLaws.{onward_ring, onward_step}
use Rattle.control_point.specs.declared.t_mesh_direction.TmeshDirection.{TmeshDirection}
use Rattle.control_point.specs.declared.t_mesh_control_point.Side.{Side}
use Rattle.control_point.specs.declared.t_mesh_control_point.Side.TheVariants.{Link, Border, Opening}
use Rattle.std.specs.Prelude.{Err, Result}
use Rattle.control_point.specs.declared.refusal.Refusal.{Refusal}
use Rattle.navigation.specs.declared.walk.Walk.{Walk}

pub step_refused : (side : Side) (next : ℕ → Float → Result Walk Refusal) → ((n : ℕ) (k : Float) → side ≡ Link n k → ⊥) → step_over side next ≡ Err (side_refusal side)
step_refused (Link n k) next h = absurd (h n k refl)
step_refused (Border w) next h = refl
step_refused Opening next h = refl

-- whatever number of moves is left
module _ (sides : Sides) (made : ℕ) (travel watch : TmeshDirection) (at : ℕ) (sum : Float) (moves : ℕ) (h : is_made made at ≡ true) (w : is_link (sides at watch) ≡ false) where
  pub onward_refused : (left : ℕ) (side : Side) → sides at travel ≡ side → ((n : ℕ) (k : Float) → side ≡ Link n k → ⊥)
      → onward left sides made travel watch at sum moves ≡ Err (side_refusal side)
  onward_refused zero side e o = onward_ring sides made travel watch at sum moves h w 0 refl ∙ rw e (step_refused side _ o)
  onward_refused (suc left) side e o = onward_step sides made travel watch at sum moves h w (suc left) left refl ∙ rw e (step_refused side _ o)
