-- Sides by their places: a side's place is four times its point's number and its direction's. Each place has one side, and the sides of the points
-- below n are those of the places below 4 × n, in the order of the places.
use Rattle.std.specs.Prelude.{ℕ, zero, suc, ◌+◌, ◌*◌, ◌/◌, ◌%◌, ◌<◌, ◌≡◌, refl, Bool, true, false, cond, List, [], ◌∷◌, ◌++◌, eqb, length}
use Rattle.std.proofs.Common.{sym, ap, ◌∙◌, add-one, arith, eqb-true, length-append}
use Rattle.std.proofs.lemmas.Bool.{eqb-false}
use Rattle.std.proofs.Math.Seq.{append_snoc}
use Rattle.control_point.specs.Direction.{direction_number, direction_numbered}
use Rattle.control_point.proofs.DirectionLaws.{number_small, numbered_number}
use Rattle.control_point.specs.Sides.{place}
use Rattle.control_point.specs.declared.t_mesh_direction.TmeshDirection.{TmeshDirection}
use Rattle.control_point.specs.declared.t_mesh_direction.TmeshDirection.TheVariants.{Up, Right, Down, Left}
use Rattle.openings.specs.Openings.{PointSide, point_side, sides_below}

abbrev pub place_of : PointSide → ℕ
place_of side = place side.point side.direction

-- the side that stands at a place
abbrev pub standing : ℕ → PointSide
standing i = point_side (i / 4) (direction_numbered (i % 4))

-- ---- a side and its place
pub number_numbered : (k : ℕ) → k < 4 → direction_number (direction_numbered k) ≡ k
number_numbered k few = by_tests (eqb k 0) (eqb k 1) (eqb k 2) refl refl refl
  where
    by_tests : (a b c : Bool) → eqb k 0 ≡ a → eqb k 1 ≡ b → eqb k 2 ≡ c → direction_number (cond a Up (cond b Right (cond c Down Left))) ≡ k
    by_tests true b c p q r = sym (eqb-true k 0 p)
    by_tests false true c p q r = sym (eqb-true k 1 q)
    by_tests false false true p q r = sym (eqb-true k 2 r)
    by_tests false false false p q r = omega (arith, eqb-false k 0 p, eqb-false k 1 q, eqb-false k 2 r)

pub place_back : (i : ℕ) → place_of (standing i) ≡ i
place_back i = omega (arith, number_numbered (i % 4) (omega arith))

pub standing_back : (side : PointSide) → standing (place_of side) ≡ side
standing_back side =
    let n : place_of side / 4 ≡ side.point = omega (arith, number_small side.direction) in
    let k : place_of side % 4 ≡ direction_number side.direction = omega (arith, number_small side.direction) in
    ap (λ (m : ℕ). point_side m (direction_numbered (place_of side % 4))) n
    ∙ ap (λ (j : ℕ). point_side side.point (direction_numbered j)) k
    ∙ ap (λ (d : TmeshDirection). point_side side.point d) (numbered_number side.direction)

-- ---- the sides of all places below one
unfoldable pub places_below : ℕ → List PointSide
places_below zero = []
places_below (suc i) = places_below i ++ (standing i ∷ [])

pub places_none : places_below 0 ≡ []
unfolding places_below
places_none = refl

pub places_next : (i : ℕ) → places_below (i + 1) ≡ places_below i ++ (standing i ∷ [])
unfolding places_below
places_next i = ap places_below (add-one i)

pub places_length : (i : ℕ) → length (places_below i) ≡ i
unfolding places_below
places_length zero = refl
places_length (suc i) = omega (arith, length-append (places_below i) (standing i ∷ []), places_length i, add-one i)

-- four places more
places_four : (i : ℕ) → places_below (i + 1 + 1 + 1 + 1) ≡ places_below i ++ (standing i ∷ (standing (i + 1) ∷ (standing (i + 1 + 1) ∷ (standing (i + 1 + 1 + 1) ∷ []))))
places_four i =
    let up = standing i in
    let right = standing (i + 1) in
    let down = standing (i + 1 + 1) in
    let left = standing (i + 1 + 1 + 1) in
    let before = places_below i in
    places_next (i + 1 + 1 + 1)
    ∙ ap (λ (sides : List PointSide). sides ++ (left ∷ [])) (places_next (i + 1 + 1))
    ∙ ap (λ (sides : List PointSide). (sides ++ (down ∷ [])) ++ (left ∷ [])) (places_next (i + 1))
    ∙ ap (λ (sides : List PointSide). ((sides ++ (right ∷ [])) ++ (down ∷ [])) ++ (left ∷ [])) (places_next i)
    ∙ append_snoc ((before ++ (up ∷ [])) ++ (right ∷ [])) down (left ∷ [])
    ∙ append_snoc (before ++ (up ∷ [])) right (down ∷ (left ∷ []))
    ∙ append_snoc before up (right ∷ (down ∷ (left ∷ [])))

-- which side stands at a place
at_point : (i n : ℕ) (d : TmeshDirection) → i ≡ place n d → standing i ≡ point_side n d
at_point i n d e = ap standing e ∙ standing_back (point_side n d)

pub places_are_sides : (n : ℕ) → places_below (n * 4) ≡ sides_below n
unfolding places_below sides_below
places_are_sides zero = refl
places_are_sides (suc n) =
    let i = n * 4 in
    let more : suc n * 4 ≡ i + 1 + 1 + 1 + 1 = omega (arith, add-one n) in
    ap places_below more
    ∙ places_four i
    ∙ rw (places_are_sides n, at_point i n Up (omega arith), at_point (i + 1) n Right (omega arith), at_point (i + 1 + 1) n Down (omega arith), at_point (i + 1 + 1 + 1) n Left (omega arith)) refl
