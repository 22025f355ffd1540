-- Laws of linking two points of a sound store: that a connect says what its test said, and which sides a linking leaves alone.
use Rattle.std.specs.Prelude.{ℕ, ◌≡◌, refl, Bool, true, false, cond, ◌&&◌, eqb, Float, Err, Ok, Result, ⊤}
use Rattle.std.proofs.Common.{sym, ap, ◌∙◌, arith, ne_eqb}
use Rattle.control_point.specs.Connect.{connectable}
use Rattle.control_point.specs.Direction.{flip_of, same_direction}
use Rattle.control_point.specs.Sides.{Sides, sides_with}
use Rattle.control_point.specs.declared.t_mesh_direction.TmeshDirection.{TmeshDirection}
use Rattle.control_point.specs.declared.t_mesh_control_point.Side.{Side}
use Rattle.control_point.specs.declared.t_mesh_control_point.Side.TheVariants.{Link}
use Rattle.store.specs.Store.{store_sides, linked, settled, connect_points}
use Rattle.store.specs.declared.store.Store.{Store}
use Rattle.mirror.specs.Mirror.{Sound, Joining}
use Rattle.store.proofs.StoreLaws.{sides_linked}
use Rattle.control_point.specs.declared.refusal.Refusal.{Refusal}

-- sides with another one: those of another point, and those in another direction
module _ (sides : Sides) (n : ℕ) (d : TmeshDirection) (side : Side) (m : ℕ) (f : TmeshDirection) where
  pub with_apart : (m ≡ n → ⊥) → sides_with sides n d side m f ≡ sides m f
  with_apart unlike = rw (ne_eqb m n unlike)

  pub with_turned : same_direction f d ≡ false → sides_with sides n d side m f ≡ sides m f
  with_turned turned = rw turned (by_test (eqb m n))
    where
      by_test : (b : Bool) → cond (b && false) side (sides m f) ≡ sides m f
      by_test true = refl
      by_test false = refl

-- a connect's outcome is what its test said
pub connect_outcome : (store : Store) (first other : ℕ) (d : TmeshDirection) (interval : Float)
    → connectable (store_sides store) store.made first other d ≡ (connect_points store first other d interval).outcome
unfolding connect_points
connect_outcome store first other d interval = by_outcome (connectable (store_sides store) store.made first other d)
  where
    by_outcome : (outcome : Result ⊤ Refusal) → outcome ≡ (settled outcome (linked store first other d interval) store).outcome
    by_outcome (Ok tt) = refl
    by_outcome (Err refusal) = refl

module _ (store : Store) (sound : Sound store) (first other : ℕ) (d : TmeshDirection) (interval : Float)
    (joining : Joining store.made (store_sides store) first other d) where
  abbrev first_linked : Sides
  first_linked = sides_with (store_sides store) first d (Link other interval)

  pub linked_sides : store_sides (linked store first other d interval) ≡ sides_with first_linked other (flip_of d) (Link first interval)
  linked_sides =
      let fits = sound.fits in
      let first_made = joining.first_made in
      let other_made = joining.other_made in
      sides_linked store sound.room first other d interval (omega arith) (omega arith) (λ x. joining.apart (sym x))

  -- the other sides of the first point, and of the other
  pub linked_first : (f : TmeshDirection) → same_direction f d ≡ false → store_sides (linked store first other d interval) first f ≡ store_sides store first f
  linked_first f turned =
      ap (λ (sides : Sides). sides first f) linked_sides
      ∙ with_apart first_linked other (flip_of d) (Link first interval) first f joining.apart
      ∙ with_turned (store_sides store) first d (Link other interval) first f turned

  pub linked_other : (f : TmeshDirection) → same_direction f (flip_of d) ≡ false
      → store_sides (linked store first other d interval) other f ≡ store_sides store other f
  linked_other f turned =
      ap (λ (sides : Sides). sides other f) linked_sides
      ∙ with_turned first_linked other (flip_of d) (Link first interval) other f turned
      ∙ with_apart (store_sides store) first d (Link other interval) other f (λ x. joining.apart (sym x))
