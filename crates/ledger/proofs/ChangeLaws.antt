-- What the sides of a sound store come to after a change: of one side, of a point more, of a link cut and of two points linked. For the last two the price must be the same
-- for every border, for every opening, and for the two sides of a link together (`Prices`).
use Rattle.std.specs.Prelude.{ℕ, ◌+◌, ◌<◌, ◌≡◌, true, Float}
use Rattle.std.proofs.Common.{sym, ap, ◌∙◌, subst, arith, ne_eqb}
use Rattle.control_point.specs.Direction.{flip_of}
use Rattle.control_point.specs.Point.{side_of, is_made}
use Rattle.control_point.proofs.PointLaws.{made_is_made}
use Rattle.control_point.specs.Sides.{Sides, sides_with}
use Rattle.control_point.specs.declared.t_mesh_control_point.Side.{Side}
use Rattle.control_point.specs.declared.t_mesh_control_point.Side.TheVariants.{Link, Border, Opening}
use Rattle.control_point.specs.declared.t_mesh_control_point.TmeshControlPoint.{TmeshControlPoint}
use Rattle.control_point.specs.declared.t_mesh_direction.TmeshDirection.{TmeshDirection}
use Rattle.store.specs.Store.{store_sides, with_side_at, with_new, linked}
use Rattle.store.proofs.StoreLaws.{sides_side, sides_new, sides_opened_lem}
use Rattle.store.specs.declared.store.Store.{Store}
use Rattle.mirror.specs.Mirror.{MirrorOf, Sound, Joining}
use Rattle.soundness.proofs.LinkLaws.{linked_sides}
use Rattle.ledger.proofs.PriceLaws.{Price, around, worth, worth_with, worth_more}

abbrev pub worth_of : Price → Store → ℕ
worth_of price store = worth price (store_sides store) store.made

-- what the two sides of a link, a border and an opening count
pub record Prices (price : Price) (link border opening : ℕ) : Type 0 where
  pub links : (d : TmeshDirection) (n m : ℕ) (near far : Float) → price d (Link n near) + price (flip_of d) (Link m far) ≡ link
  pub borders : (d : TmeshDirection) (weight : Float) → price d (Border weight) ≡ border
  pub openings : (d : TmeshDirection) → price d Opening ≡ opening

-- two facing sides for two others
module _ (price : Price) (sides : Sides) (made first other : ℕ) (d : TmeshDirection) (side facing : Side) where
  worth_two : is_made made first ≡ true → is_made made other ≡ true → (other ≡ first → ⊥)
      → worth price (sides_with (sides_with sides first d side) other (flip_of d) facing) made + (price d (sides first d) + price (flip_of d) (sides other (flip_of d)))
      ≡ worth price sides made + (price d side + price (flip_of d) facing)
  worth_two h k apart =
      let one = worth_with price sides made first d side h in
      let two = rw (ne_eqb other first apart) at (worth_with price (sides_with sides first d side) made other (flip_of d) facing k) in
      omega arith

pub has_room : (store : Store) → Sound store → (n : ℕ) → n < store.made → n < 128
has_room store sound n h = let fits = sound.fits in omega arith

module _ (store : Store) (sound : Sound store) (price : Price) where
  was_made : (n : ℕ) → n < store.made → is_made store.made n ≡ true
  was_made n h = made_is_made store.made n sound.fits h

  pub worth_side : (n : ℕ) (d : TmeshDirection) (side : Side) → n < store.made
      → worth_of price (with_side_at store n d side) + price d (store_sides store n d) ≡ worth_of price store + price d side
  worth_side n d side h =
      subst (λ (sides : Sides). worth price sides store.made + price d (store_sides store n d) ≡ worth_of price store + price d side)
      (sym (sides_side store sound.room n (has_room store sound n h) d side))
      (worth_with price (store_sides store) store.made n d side (was_made n h))

  pub worth_new : (p : TmeshControlPoint) → store.made < 128 → worth_of price (with_new store p) ≡ worth_of price store + around price (side_of p)
  worth_new p roomy =
      ap (λ (sides : Sides). worth price sides (store.made + 1)) (sides_new store sound.room p roomy)
      ∙ worth_more price (store_sides store) store.made p roomy

  module _ (link border opening : ℕ) (prices : Prices price link border opening) where
    pub worth_cut : (n : ℕ) (d : TmeshDirection) (m : ℕ) (interval : Float) → n < store.made → store_sides store n d ≡ Link m interval
        → worth_of price (with_side_at (with_side_at store n d Opening) m (flip_of d) Opening) + link ≡ worth_of price store + (opening + opening)
    worth_cut n d m interval h is =
        let mirror : MirrorOf store.made (store_sides store) n d m interval = sound.mirrored n d m interval h is in
        let same = ap (λ (sides : Sides). worth price sides store.made) (sides_opened_lem store sound.room n m d (has_room store sound n h) (has_room store sound m mirror.leads)) in
        let two = worth_two price (store_sides store) store.made n m d Opening Opening (was_made n h) (was_made m mirror.leads) mirror.apart in
        omega (arith, ap (price d) is, ap (price (flip_of d)) mirror.faces, prices.links d m n interval interval, prices.openings d, prices.openings (flip_of d))

    pub worth_linked : (first other : ℕ) (d : TmeshDirection) (interval : Float) → Joining store.made (store_sides store) first other d
        → worth_of price (linked store first other d interval) + (opening + opening) ≡ worth_of price store + link
    worth_linked first other d interval joining =
        let same = ap (λ (sides : Sides). worth price sides store.made) (linked_sides store sound first other d interval joining) in
        let two = worth_two price (store_sides store) store.made first other d (Link other interval) (Link first interval)
        (was_made first joining.first_made) (was_made other joining.other_made) (λ x. joining.apart (sym x)) in
        omega (arith, ap (price d) joining.first_open, ap (price (flip_of d)) joining.other_open, prices.links d other first interval interval, prices.openings d, prices.openings (flip_of d))
