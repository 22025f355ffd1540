-- Laws of a new point's side across its link, in a sound store: its search meets made points only, and a point that it finds may be connected,
-- so that the store stays sound.
use Rattle.std.specs.Prelude.{ℕ, ◌<◌, ◌≡◌, refl, false, Float}
use Rattle.std.proofs.Common.{sym, ap, ◌∙◌, subst, arith}
use Rattle.control_point.specs.Connect.{connectable}
use Rattle.control_point.specs.Direction.{same_direction}
use Rattle.control_point.specs.Point.{is_link}
use Rattle.control_point.specs.Sides.{Sides, sides_with}
use Rattle.control_point.specs.declared.t_mesh_direction.TmeshDirection.{TmeshDirection}
use Rattle.control_point.specs.declared.t_mesh_control_point.Side.{Side}
use Rattle.control_point.specs.declared.t_mesh_control_point.Side.TheVariants.{Border, Opening}
use Rattle.store.specs.Store.{store_sides, with_side_at, linked}
use Rattle.store.specs.declared.store.Changed.{Changed}
use Rattle.store.specs.declared.store.Store.{Store}
use Rattle.mirror.specs.Mirror.{Sound, Joining}
use Rattle.mirror.proofs.MirrorLaws.{mirrored_side, done_joining, sound_side, sound_linked}
use Rattle.store.proofs.StoreLaws.{sides_side}
use Rattle.insertion.specs.Insert.{sought, with_new_side}
use Rattle.insertion.proofs.InsertLaws.{MayJoin, joined_linked}
use Rattle.insertion.specs.declared.insertion.NewSide.{NewSide}
use Rattle.insertion.specs.declared.insertion.NewSide.TheVariants.{Takes, Joins, Opens, Tears, Stays}
use Rattle.soundness.proofs.KnownLaws.{KnownFound, known_search}
use Rattle.soundness.proofs.LinkLaws.{with_turned, linked_first}
use Rattle.soundness.specs.Theorems.{Connects}

-- a sound store after a change of the side f of p: as many points, and p's other sides as they were
pub record Sided (store : Store) (p : ℕ) (f : TmeshDirection) (after : Store) : Type 0 where
  pub sound : Sound after
  pub made_is : after.made ≡ store.made
  pub turned : (g : TmeshDirection) → same_direction g f ≡ false → store_sides after p g ≡ store_sides store p g

module _ (store : Store) (sound : Sound store) (p : ℕ) (f : TmeshDirection) (p-made : p < store.made) where
  p_room : p < 128
  p_room = let fits = sound.fits in omega arith

  pub joins_connects : (new : NewSide) → MayJoin (store_sides store) store.made p f new → Connects store p f new
  joins_connects (Takes weight) joins = tt
  joins_connects (Joins n interval) joins =
      ap (λ (changed : Changed). changed.outcome) (joined_linked store sound.room p p_room f n interval joins)
  joins_connects Opens joins = tt
  joins_connects Tears joins = tt
  joins_connects Stays joins = tt

  -- a side that is no link
  module _ (free : is_link (store_sides store p f) ≡ false) where
    -- the search there does not meet 11
    pub known_sought : (e : Float) → KnownFound (sought e (store_sides store) store.made p f)
    known_sought e =
        known_search (sides_with (store_sides store) p f Opening) store.made sound.fits
        (mirrored_side store.made (store_sides store) p f Opening sound.mirrored free refl)
        e
        p
        f
        p-made

    abbrev opened : Store
    opened = with_side_at store p f Opening

    sided_side : (side : Side) → is_link side ≡ false → Sided store p f (with_side_at store p f side)
    sided_side side none =
        record {
          sound = sound_side store sound p f side p-made free none;
          made_is = refl;
          turned = λ g turned.
              ap (λ (sides : Sides). sides p g) (sides_side store sound.room p p_room f side) ∙ with_turned (store_sides store) p f side p g turned;
        }

    sided_linked : (n : ℕ) (interval : Float) → Joining store.made (store_sides opened) p n f → Sided store p f (linked opened p n f interval)
    sided_linked n interval joining =
        record {
          sound = sound_linked opened (sided_side Opening refl).sound p n f interval joining;
          made_is = refl;
          turned = λ g turned.
              linked_first opened (sided_side Opening refl).sound p n f interval joining g turned ∙ (sided_side Opening refl).turned g turned;
        }

    pub sided_new : (new : NewSide) → MayJoin (store_sides store) store.made p f new → Sided store p f (with_new_side store p f new)
    sided_new (Takes weight) joins = sided_side (Border weight) refl
    sided_new (Joins n interval) joins =
        subst (λ (changed : Changed). Sided store p f changed.store) (sym (joined_linked store sound.room p p_room f n interval joins))
        (sided_linked n interval
        (done_joining store.made (store_sides opened) p n f
        (ap (λ (sides : Sides). connectable sides store.made p n f) (sides_side store sound.room p p_room f Opening) ∙ joins)))
    sided_new Opens joins = sided_side Opening refl
    sided_new Tears joins = sided_side Opening refl
    sided_new Stays joins = record { sound = sound; made_is = refl; turned = λ g turned. refl }
