-- What the else of a `let Side::Link(..) = side else` says of removing a connection there: a border is opened, an opening refused.
use Prim.Native.Nat.{ℕ}
use mathlib.Core.Path.{◌≡◌, refl, sym, ap, ◌∙◌}
use mathlib.Core.Bool.{Bool, true, cond}
use lib.Ieee.{Float}
use Rattle.control_point.specs.Point.{is_border, is_made, side_of, with_side}
use Rattle.control_point.specs.declared.refusal.Refusal.TheVariants.{OpenSide}
use Rattle.control_point.specs.declared.t_mesh_direction.TmeshDirection.{TmeshDirection}
use Rattle.control_point.specs.declared.t_mesh_control_point.Side.{Side}
use Rattle.control_point.specs.declared.t_mesh_control_point.Side.TheVariants.{Link, Border, Opening}
use Rattle.control_point.specs.declared.t_mesh_control_point.TmeshControlPoint.{TmeshControlPoint}
use Rattle.store.specs.Store.{store_point, with_point, with_side_at, done, refused, opened, remove_connection}
use Rattle.store.specs.declared.store.Changed.{Changed}
use Rattle.store.specs.declared.store.Store.{Store}

opened_unlinked : (store : Store) (n : ℕ) (d : TmeshDirection) (side : Side) → ((m : ℕ) (interval : Float) → side ≡ Link m interval → ⊥)
    → opened store n d side ≡ cond (is_border side) (done (with_side_at store n d Opening)) (refused store OpenSide)
opened_unlinked store n d (Link m interval) h = absurd (h m interval refl)
opened_unlinked store n d (Border weight) h = refl
opened_unlinked store n d Opening h = refl

-- what is settled there
pub opened_settled : (store : Store) (n : ℕ) (d : TmeshDirection) (side : Side) (point near : TmeshControlPoint) (border : Bool) (after : Changed)
    → ((m : ℕ) (interval : Float) → side ≡ Link m interval → ⊥)
    → point ≡ store_point store n
    → near ≡ with_side point d Opening
    → border ≡ is_border side
    → after ≡ cond border (done (with_point store n near)) (refused store OpenSide)
    → after ≡ opened store n d side
opened_settled store n d side point near border after h p o b x = x ∙ rw (b, o, p) (sym (opened_unlinked store n d side h))

-- the side of a made point decides
pub decided : (store : Store) (n : ℕ) (d : TmeshDirection) (point : TmeshControlPoint) (side : Side) → is_made store.made n ≡ true
    → point ≡ store_point store n
    → side ≡ side_of point d
    → opened store n d side ≡ remove_connection store n d
unfolding remove_connection
decided store n d point side made p e = simp made (ap (opened store n d) (e ∙ ap (λ (q : TmeshControlPoint). side_of q d) p))
