-- What the test of the first side says of the second, and what a point placed with its two sides inserts.
use Prim.Native.Nat.{ℕ, ◌+◌}
use mathlib.Core.Bool.{Bool}
use mathlib.Core.Path.{◌≡◌, refl, sym, ap, subst, ◌∙◌}
use lib.Ieee.{Float}
use Rattle.control_point.specs.Direction.{clockwise_of, anti_clockwise_of}
use Rattle.control_point.specs.Sides.{lent_sides}
use Rattle.control_point.specs.declared.t_mesh_direction.TmeshDirection.{TmeshDirection}
use Rattle.lent_points.specs.Lent.{Points, lent_points}
use Rattle.lent_points.specs.declared.LentPoints.{LentPoints}
use Rattle.insertion.specs.Insert.{new_side, unless_torn, answer_of, checked_link}
use Rattle.insertion.specs.Lent.{points_placed, points_with_new, Inserts}
use Rattle.insertion.proofs.LentLaws.{inserts_passed}
use Rattle.insertion.specs.declared.insertion.NewSide.{NewSide}
use Rattle.insertion.specs.declared.insertion.NewSide.TheVariants.{Takes, Joins, Opens, Tears, Stays}
use Rattle.std.specs.Prelude.{Ok, Result}
use Rattle.control_point.specs.declared.refusal.Refusal.{Refusal}
use Rattle.control_point.specs.declared.t_mesh_control_point.LinkEnd.{LinkEnd}
use Rattle.insertion.specs.declared.insertion.Insertion.{Insertion}

-- ---- the first side is torn, or it is not
pub torn : (first second : NewSide) → first ≡ Tears → Stays ≡ unless_torn first second
torn first second h = rw h

pub untorn : (first second : NewSide) → (first ≡ Tears → ⊥) → unless_torn first second ≡ second
untorn (Takes weight) second h = refl
untorn (Joins n interval) second h = refl
untorn Opens second h = refl
untorn Tears second h = absurd (h refl)
untorn Stays second h = refl

-- ---- p placed, and its two sides
module _ (e ratio : Float) (before placed crossed : LentPoints) (made con : ℕ) (end : LinkEnd) (d f : TmeshDirection) (first second : NewSide) (after : Points) where
  pub inserts_sided : lent_points placed ≡ points_placed (lent_points before) con end.point made d end.interval ratio
      → f ≡ clockwise_of d
      → first ≡ new_side e (lent_sides placed.sides) (made + 1) con made f
      → lent_points crossed ≡ points_with_new (lent_points placed) made f first
      → second ≡ unless_torn first (new_side e (lent_sides crossed.sides) (made + 1) con made (anti_clockwise_of d))
      → after ≡ points_with_new (lent_points crossed) made (anti_clockwise_of d) second
      → (answer : Result Insertion Refusal) → answer ≡ answer_of first second
      → (listed : Bool) → checked_link e ratio listed (lent_sides before.sides) made con d ≡ Ok end
      → Inserts e (lent_points before) made listed con d ratio answer after
  unfolding lent_points
  inserts_sided is_placed turned first_is is_crossed second_is after_is answer answered listed passes =
      subst (λ (r : Result Insertion Refusal). Inserts e (lent_points before) made listed con d ratio r after) (sym answered)
      (inserts_passed e ratio listed con end d (lent_sides before.sides) before.coordinates made first second after passes
      (record {
        placed_sides = lent_sides placed.sides;
        placed_coordinates = placed.coordinates;
        is_placed = is_placed;
        first_is = first_is ∙ ap (new_side e (lent_sides placed.sides) (made + 1) con made) turned;
        crossed_sides = lent_sides crossed.sides;
        crossed_coordinates = crossed.coordinates;
        is_crossed = is_crossed ∙ ap (λ (g : TmeshDirection). points_with_new (lent_points placed) made g first) turned;
        second_is = second_is;
        after_is = after_is;
      }))
