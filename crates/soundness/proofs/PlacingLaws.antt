-- Laws of placing a point in a link of a sound store: both connects are done, so each is a linking of open sides; the store stays sound, and
-- the point's sides across the link are borders of 0.0.
use Rattle.std.specs.Prelude.{ℕ, ◌<◌, ◌+◌, ◌≡◌, refl, Bool, true, false, cond, Float, Ok}
use Rattle.std.proofs.Common.{sym, ap, ◌∙◌, eq-eqb}
use Rattle.std.proofs.Math.Path.{subst}
use Rattle.std.specs.Float.{binary64}
use Rattle.std.specs.Float.Ieee.{mul, sub}
use Rattle.float64.specs.Literals.{zero_literal, one_literal}
use Rattle.control_point.specs.Direction.{clockwise_of, anti_clockwise_of, flip_of, same_direction}
use Rattle.control_point.specs.Point.{side_of, with_side, loose_point, is_link, is_made}
use Rattle.control_point.proofs.PointLaws.{made_is_made, side_with}
use Rattle.control_point.specs.Sides.{Sides}
use Rattle.control_point.specs.declared.t_mesh_direction.TmeshDirection.{TmeshDirection}
use Rattle.control_point.specs.declared.t_mesh_direction.TmeshDirection.TheVariants.{Up, Right, Down, Left}
use Rattle.control_point.specs.declared.t_mesh_control_point.Side.TheVariants.{Link, Border, Opening}
use Rattle.store.specs.Store.{store_sides, linked, done, connect_points}
use Rattle.store.specs.declared.store.Changed.{Changed}
use Rattle.store.specs.declared.store.Store.{Store}
use Rattle.mirror.specs.Mirror.{Sound, Joining}
use Rattle.mirror.proofs.MirrorLaws.{done_joining, sound_new, sound_linked, sound_cut}
use Rattle.store.proofs.StoreLaws.{sides_new}
use Rattle.insertion.specs.Insert.{cut, point_in_line, parted, near_joined, far_joined, placed}
use Rattle.insertion.proofs.InsertLaws.{near_done, far_done}
use Rattle.soundness.proofs.LinkLaws.{connect_outcome, linked_first, linked_other}

-- ---- the directions across another, and the new point's sides
pub record Across (d f : TmeshDirection) : Type 0 where
  pub ahead : same_direction f d ≡ false
  pub back : same_direction f (flip_of d) ≡ false

pub across_clockwise : (d : TmeshDirection) → Across d (clockwise_of d)
across_clockwise Up = record { ahead = refl; back = refl }
across_clockwise Right = record { ahead = refl; back = refl }
across_clockwise Down = record { ahead = refl; back = refl }
across_clockwise Left = record { ahead = refl; back = refl }

pub across_anti : (d : TmeshDirection) → Across d (anti_clockwise_of d)
across_anti Up = record { ahead = refl; back = refl }
across_anti Right = record { ahead = refl; back = refl }
across_anti Down = record { ahead = refl; back = refl }
across_anti Left = record { ahead = refl; back = refl }

loose_side : (f : TmeshDirection) → side_of (loose_point zero_literal) f ≡ Border zero_literal
loose_side Up = refl
loose_side Right = refl
loose_side Down = refl
loose_side Left = refl

line_side : (d f : TmeshDirection)
    → side_of (point_in_line d) f ≡ cond (same_direction f (flip_of d)) Opening (cond (same_direction f d) Opening (Border zero_literal))
line_side d f =
    side_with (with_side (loose_point zero_literal) d Opening) (flip_of d) f Opening
    ∙ ap (cond (same_direction f (flip_of d)) Opening)
    (side_with (loose_point zero_literal) d f Opening ∙ ap (cond (same_direction f d) Opening) (loose_side f))

line_none : (d f : TmeshDirection) → is_link (side_of (point_in_line d) f) ≡ false
line_none d f = ap is_link (line_side d f) ∙ by_test (same_direction f (flip_of d)) (same_direction f d)
  where
    by_test : (a b : Bool) → is_link (cond a Opening (cond b Opening (Border zero_literal))) ≡ false
    by_test true b = refl
    by_test false true = refl
    by_test false false = refl

line_across : (d f : TmeshDirection) → Across d f → side_of (point_in_line d) f ≡ Border zero_literal
line_across d f across = line_side d f ∙ rw (across.back, across.ahead)

-- ---- a point that stands in a link
-- the intervals on its two sides
abbrev pub near_interval : Float → Float → Float
near_interval interval ratio = mul binary64 interval ratio

abbrev pub far_interval : Float → Float → Float
far_interval interval ratio = mul binary64 interval (sub binary64 one_literal ratio)

pub record Placed (store : Store) (d : TmeshDirection) (after : Store) : Type 0 where
  pub sound : Sound after
  pub made_is : after.made ≡ store.made + 1
  pub across : (f : TmeshDirection) → Across d f → store_sides after store.made f ≡ Border zero_literal

module _ (store : Store) (sound : Sound store) (con other : ℕ) (d : TmeshDirection) (interval : Float) (con_made : con < store.made)
    (link : store_sides store con d ≡ Link other interval) (roomy : store.made < 128) where
  -- ---- the link cut, and the point made
  abbrev stood : Store
  stood = parted store con other d

  pub cut_sound : Sound (cut store con other d)
  cut_sound = sound_cut store sound con d other interval Opening Opening con_made link refl refl

  pub stood_sound : Sound stood
  stood_sound = sound_new (cut store con other d) cut_sound (point_in_line d) roomy (line_none d)

  stood_new : (f : TmeshDirection) → store_sides stood store.made f ≡ side_of (point_in_line d) f
  stood_new f =
      ap (λ (sides : Sides). sides store.made f) (sides_new (cut store con other d) cut_sound.room (point_in_line d) roomy)
      ∙ rw (eq-eqb store.made store.made refl)

  -- ---- joined to con, then to the other
  was_made : (n : ℕ) → n < store.made → is_made store.made n ≡ true
  was_made n = made_is_made store.made n sound.fits

  other_made : other < store.made
  other_made = (sound.mirrored con d other interval con_made link).leads

  module _ (ratio : Float) where
    abbrev pub near_linked : Store
    near_linked = linked stood con store.made d (near_interval interval ratio)

    near_joined_lem : near_joined store con other d interval ratio ≡ done near_linked
    near_joined_lem = near_done store sound.room roomy con other (was_made con con_made) (was_made other other_made) d interval ratio

    pub far_joined_lem : far_joined store con other d interval ratio ≡ done (linked near_linked store.made other d (far_interval interval ratio))
    far_joined_lem = far_done store sound.room roomy con other (was_made con con_made) (was_made other other_made) d interval ratio

    pub near_succeeds : (near_joined store con other d interval ratio).outcome ≡ Ok tt
    near_succeeds = ap (λ (changed : Changed). changed.outcome) near_joined_lem

    pub far_succeeds : (far_joined store con other d interval ratio).outcome ≡ Ok tt
    far_succeeds = ap (λ (changed : Changed). changed.outcome) far_joined_lem

    pub near_joining : Joining (store.made + 1) (store_sides stood) con store.made d
    near_joining =
        done_joining (store.made + 1) (store_sides stood) con store.made d
        (connect_outcome stood con store.made d (near_interval interval ratio) ∙ near_succeeds)

    pub near_sound : Sound near_linked
    near_sound = sound_linked stood stood_sound con store.made d (near_interval interval ratio) near_joining

    pub far_joining : Joining (store.made + 1) (store_sides near_linked) store.made other d
    far_joining =
        done_joining (store.made + 1) (store_sides near_linked) store.made other d
        (connect_outcome near_linked store.made other d (far_interval interval ratio)
        ∙ ap (λ (changed : Changed). (connect_points changed.store store.made other d (far_interval interval ratio)).outcome) (sym near_joined_lem)
        ∙ far_succeeds)

    pub placed_sound : Placed store d (placed store con other d interval ratio)
    unfolding placed
    placed_sound =
        subst (λ (changed : Changed). Placed store d changed.store) (sym far_joined_lem)
        (record {
          sound = sound_linked near_linked near_sound store.made other d (far_interval interval ratio) far_joining;
          made_is = refl;
          across = λ f across.
              linked_first near_linked near_sound store.made other d (far_interval interval ratio) far_joining f across.ahead
              ∙ linked_other stood stood_sound con store.made d (near_interval interval ratio) near_joining f across.back
              ∙ stood_new f
              ∙ line_across d f across;
        })
