-- Setting a border's weight: any other side is refused by what it is.
use Prim.Native.Nat.{ℕ}
use mathlib.Core.Path.{◌≡◌, refl}
use mathlib.Core.Bool.{cond}
use lib.Ieee.{Float}
use Rattle.control_point.specs.Point.{is_border, side_refusal}
use Rattle.control_point.specs.declared.t_mesh_direction.TmeshDirection.{TmeshDirection}
use Rattle.control_point.specs.declared.t_mesh_control_point.Side.{Side}
use Rattle.control_point.specs.declared.t_mesh_control_point.Side.TheVariants.{Link, Border, Opening}
use Rattle.store.specs.Store.{with_side_at, done, refused, weighted}
use Rattle.store.specs.declared.store.Store.{Store}

pub weighted_border : (store : Store) (n : ℕ) (d : TmeshDirection) (weight : Float) (side : Side)
    → weighted store n d weight side ≡ cond (is_border side) (done (with_side_at store n d (Border weight))) (refused store (side_refusal side))
weighted_border store n d weight (Link m interval) = refl
weighted_border store n d weight (Border old) = refl
weighted_border store n d weight Opening = refl
