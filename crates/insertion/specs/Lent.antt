-- Insertion into lent points: each change of the store by which p is placed and gets its sides, as a change of points.
use Rattle.std.specs.Prelude.{ℕ, Bool, List, ◌≡◌, Float, Result}
use Rattle.std.specs.Float.{binary64}
use Rattle.std.specs.Float.Ieee.{mul, sub}
use Rattle.float64.specs.Literals.{one_literal}
use Rattle.control_point.specs.Direction.{flip_of}
use Rattle.control_point.specs.declared.t_mesh_control_point.Side.TheVariants.{Border, Opening}
use Rattle.control_point.specs.declared.t_mesh_control_point.TmeshControlPoint.{TmeshControlPoint}
use Rattle.control_point.specs.declared.t_mesh_direction.TmeshDirection.{TmeshDirection}
use Rattle.lent_points.specs.Lent.{Points, points_with, points_with_side, points_linked, Held}
use Rattle.store.specs.declared.store.Store.{Store}
use Rattle.insertion.specs.Insert.{point_in_line, insert_point}
use Rattle.insertion.specs.declared.insertion.NewSide.{NewSide}
use Rattle.insertion.specs.declared.insertion.NewSide.TheVariants.{Takes, Joins, Opens, Tears, Stays}
use Rattle.control_point.specs.declared.refusal.Refusal.{Refusal}
use Rattle.insertion.specs.declared.insertion.Insertion.{Insertion}

-- the link is cut and p is made
abbrev pub points_parted : Points → ℕ → ℕ → ℕ → TmeshDirection → Points
points_parted points con other p d = points_with (points_with_side (points_with_side points con d Opening) other (flip_of d) Opening) p (point_in_line d)

-- con joins p at interval × ratio, and p joins the other at interval × (1.0 − ratio)
unfoldable pub points_placed : Points → ℕ → ℕ → ℕ → TmeshDirection → Float → Float → Points
points_placed points con other p d interval ratio =
    points_linked (points_linked (points_parted points con other p d) con p d (mul binary64 interval ratio))
    p other d (mul binary64 interval (sub binary64 one_literal ratio))

-- with a new side of p
abbrev pub points_with_new : Points → ℕ → TmeshDirection → NewSide → Points
points_with_new points p f (Takes weight) = points_with_side points p f (Border weight)
points_with_new points p f (Joins n interval) = points_linked (points_with_side points p f Opening) p n f interval
points_with_new points p f Opens = points_with_side points p f Opening
points_with_new points p f Tears = points_with_side points p f Opening
points_with_new points p f Stays = points

-- whatever store's points they were, of which so many are made, they are after it those of the store after the insertion, and the answer is its
abbrev pub Inserts : Float → Points → ℕ → Bool → ℕ → TmeshDirection → Float → Result Insertion Refusal → Points → Type 0
Inserts e points made listed con d ratio answer after =
    (rest : List TmeshControlPoint) (store : Store) → Held points rest store → store.made ≡ made
    → (answer ≡ (insert_point e store listed con d ratio).answer) × Held after rest (insert_point e store listed con d ratio).store
