-- Laws of a store: its sides after each change.
use Rattle.std.specs.Prelude.{ℕ, ◌<◌, ◌≡◌, refl, Bool, true, false, cond, ◌&&◌, eqb, Float, length}
use Rattle.std.proofs.Common.{sym, ap, ◌∙◌, arith, lt-ltb, eqb-true, length-set, get_or-set_other}
use Rattle.control_point.specs.Direction.{flip_of, same_direction}
use Rattle.control_point.specs.Point.{side_of, with_side, moved_from, blank}
use Rattle.control_point.proofs.PointLaws.{side_with, side_moved}
use Rattle.control_point.specs.Sides.{Sides, sides_of, sides_with, sides_with_point}
use Rattle.control_point.proofs.SidesLaws.{sides_set}
use Rattle.control_point.specs.declared.t_mesh_direction.TmeshDirection.{TmeshDirection}
use Rattle.control_point.specs.declared.t_mesh_control_point.Side.{Side}
use Rattle.control_point.specs.declared.t_mesh_control_point.Side.TheVariants.{Link, Opening}
use Rattle.control_point.specs.declared.t_mesh_control_point.TmeshControlPoint.{TmeshControlPoint}
use Rattle.store.specs.Store.{store_sides, store_point, with_point, with_side_at, with_new, linked}
use Rattle.store.specs.declared.store.Store.{Store}

-- a number with room has the sides of its point
pub side_read : (store : Store) (n : ℕ) (d : TmeshDirection) → n < 128 → store_sides store n d ≡ side_of (store_point store n) d
unfolding sides_of
side_read store n d h = simp (lt-ltb n 128 h)

-- ---- a store's sides after a change
module _ (store : Store) (room : length store.points ≡ 128) where
  pub room_kept : (n : ℕ) (p : TmeshControlPoint) → length (with_point store n p).points ≡ 128
  room_kept n p = length-set store.points n p ∙ room

  pub sides_new : (p : TmeshControlPoint) → store.made < 128 → store_sides (with_new store p) ≡ sides_with_point (store_sides store) store.made p
  sides_new p h = sides_set store.points store.made p h (omega arith)

  module _ (n : ℕ) (h : n < 128) where
    pub sides_point : (p : TmeshControlPoint) → store_sides (with_point store n p) ≡ sides_with_point (store_sides store) n p
    sides_point p = sides_set store.points n p h (omega arith)

    -- the side that stands there
    there : (m : ℕ) (e : TmeshDirection) → eqb m n ≡ true → side_of (store_point store n) e ≡ store_sides store m e
    there m e x = sym (side_read store n e h) ∙ ap (λ (k : ℕ). store_sides store k e) (sym (eqb-true m n x))

    -- with a point that differs from the one there in one side
    module _ (p : TmeshControlPoint) (d : TmeshDirection) (side : Side) (differs : (e : TmeshDirection) → side_of p e ≡ cond (same_direction e d) side (side_of (store_point store n) e)) where
      one_by : (m : ℕ) (e : TmeshDirection) (b : Bool) → eqb m n ≡ b → cond b (side_of p e) (store_sides store m e) ≡ cond (b && same_direction e d) side (store_sides store m e)
      one_by m e true x = differs e ∙ ap (cond (same_direction e d) side) (there m e x)
      one_by m e false x = refl

      sides_one : store_sides (with_point store n p) ≡ sides_with (store_sides store) n d side
      sides_one = sides_point p ∙ (λ i m e. one_by m e (eqb m n) refl i)

    pub sides_side : (d : TmeshDirection) (side : Side) → store_sides (with_side_at store n d side) ≡ sides_with (store_sides store) n d side
    sides_side d side = sides_one (with_side (store_point store n) d side) d side (λ e. side_with (store_point store n) d e side)

-- a link opened at both ends
pub sides_opened_lem : (store : Store) (room : length store.points ≡ 128) (n m : ℕ) (d : TmeshDirection) → n < 128 → m < 128
    → store_sides (with_side_at (with_side_at store n d Opening) m (flip_of d) Opening) ≡ sides_with (sides_with (store_sides store) n d Opening) m (flip_of d) Opening
sides_opened_lem store room n m d h k =
    sides_side (with_side_at store n d Opening) (room_kept store room n (with_side (store_point store n) d Opening)) m k (flip_of d) Opening
    ∙ ap (λ (sides : Sides). sides_with sides m (flip_of d) Opening) (sides_side store room n h d Opening)

-- two points linked: two facing sides
module _ (store : Store) (room : length store.points ≡ 128) (first other : ℕ) (d : TmeshDirection) (interval : Float) where
  abbrev near : TmeshControlPoint
  near = with_side (store_point store first) d (Link other interval)

  abbrev far : TmeshControlPoint
  far = with_side (store_point store other) (flip_of d) (Link first interval)

  pub sides_linked : first < 128 → other < 128 → (other ≡ first → ⊥)
      → store_sides (linked store first other d interval) ≡ sides_with (sides_with (store_sides store) first d (Link other interval)) other (flip_of d) (Link first interval)
  sides_linked h k apart =
      sides_one (with_point store first near) (room_kept store room first near) other k (moved_from far (store_point store first) d interval) (flip_of d) (Link first interval)
      (λ e. side_moved far (store_point store first) d e interval
      ∙ side_with (store_point store other) (flip_of d) e (Link first interval)
      ∙ ap (λ (p : TmeshControlPoint). cond (same_direction e (flip_of d)) (Link first interval) (side_of p e)) (sym (get_or-set_other store.points first other near blank apart)))
      ∙ ap (λ (sides : Sides). sides_with sides other (flip_of d) (Link first interval)) (sides_side store room first h d (Link other interval))
