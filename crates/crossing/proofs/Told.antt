-- What the test of con's side says of it, and what is known of a point that is found.
use Prim.Native.Nat.{ℕ, ◌<◌}
use mathlib.Core.Path.{◌≡◌, refl, sym, ap, ◌∙◌, subst}
use borrow.Author.Tests.{eqb-false}
use lib.Ieee.{Float}
use Rattle.control_point.proofs.PointLaws.{is_made_room}
use Rattle.control_point.specs.Sides.{Sides, sides_with}
use Rattle.control_point.specs.declared.t_mesh_control_point.Side.{Side}
use Rattle.control_point.specs.declared.t_mesh_control_point.Side.TheVariants.{Link, Border, Opening}
use Rattle.control_point.specs.declared.t_mesh_direction.TmeshDirection.{TmeshDirection}
use Rattle.search.specs.Search.{find_inferred_connection}
use Rattle.search.proofs.SearchLaws.{MayConnect, found_connects}
use Rattle.insertion.specs.Insert.{border_or, sought_side, new_side}
use Rattle.insertion.proofs.InsertLaws.{connectable_other}
use Rattle.insertion.specs.declared.insertion.NewSide.{NewSide}
use Rattle.insertion.specs.declared.insertion.NewSide.TheVariants.{Takes}
use Rattle.std.specs.Prelude.{Ok, Option, Result, Some}
use Rattle.control_point.specs.declared.refusal.Refusal.{Refusal}
use Rattle.control_point.specs.declared.t_mesh_control_point.LinkEnd.{LinkEnd}

-- ---- con's side is a border, or it is none
module _ (e : Float) (sides : Sides) (made con p : ℕ) (f : TmeshDirection) where
  pub new_border : (weight : Float) → sides con f ≡ Border weight → new_side e sides made con p f ≡ Takes weight
  unfolding new_side
  new_border weight h = rw h

  no_border : (side : Side) (new : NewSide) → ((weight : Float) → side ≡ Border weight → ⊥) → border_or side new ≡ new
  no_border (Link n interval) new h = refl
  no_border (Border weight) new h = absurd (h weight refl)
  no_border Opening new h = refl

  pub new_sought : (side : Side) → sides con f ≡ side → ((weight : Float) → side ≡ Border weight → ⊥) → new_side e sides made con p f ≡ sought_side (find_inferred_connection e (sides_with sides p f Opening) made p f)
  unfolding new_side
  new_sought side h told = rw h (no_border side _ told)

  -- p's side is opened, and it becomes what the search finds
  pub new_found : (side : Side) → side ≡ sides con f → ((weight : Float) → side ≡ Border weight → ⊥)
      → (after : Sides) → after ≡ sides_with sides p f Opening
      → (found : Result (Option LinkEnd) Refusal) → found ≡ find_inferred_connection e after made p f → sought_side found ≡ new_side e sides made con p f
  new_found side read told after opened found searched =
      ap sought_side searched
      ∙ ap (λ (x : Sides). sought_side (find_inferred_connection e x made p f)) opened
      ∙ sym (new_sought side (sym read) told)

-- a point that is found has room, and is not the point itself
pub found_other : (e : Float) (sides : Sides) (made p : ℕ) (f : TmeshDirection) (end : LinkEnd) → Ok (Some end) ≡ find_inferred_connection e sides made p f → (end.point < 128) × (end.point ≡ p → ⊥)
found_other e sides made p f end found =
    let other = connectable_other sides made p end.point f (subst (MayConnect sides made p f) (sym found) (found_connects e sides made p f)) in
    (is_made_room made end.point other.0, λ is. eqb-false p end.point other.1 (sym is))
