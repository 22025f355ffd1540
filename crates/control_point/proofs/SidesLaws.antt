-- Laws of the sides of a mesh: what the lent arrays hold after a store to them, and that filling them from points changes nothing.
use Rattle.std.specs.Prelude.{ℕ, ◌<◌, ◌+◌, ◌≡◌, refl, List, Bool, cond, ◌&&◌, ltb, eqb, Float, length, get_or, set}
use Rattle.std.proofs.Common.{sym, ap, ◌∙◌, arith, length-set}
use Rattle.std.proofs.Math.Bool.{true, false}
use borrow.Author.Tests.{ltb-true, lt-ltb, eqb-true, eqb-false, ne_eqb}
use Rattle.std.specs.Float.Ieee.{nan}
use Rattle.std.proofs.Math.Seq.{get_or-set_same, get_or-set_other}
use Rattle.control_point.specs.Direction.{direction_number, same_direction}
use Rattle.control_point.proofs.DirectionLaws.{number_small}
use Rattle.control_point.specs.Point.{side_of, point_at, is_made, blank}
use Rattle.control_point.specs.Sides.{Sides, sides_of, sides_in, side_from, place, FullIn, kind_of, linked_of, interval_of, sides_with, sides_with_point}
use Rattle.control_point.specs.declared.t_mesh_direction.TmeshDirection.{TmeshDirection}
use Rattle.control_point.specs.declared.t_mesh_direction.TmeshDirection.TheVariants.{Up, Right, Down, Left}
use Rattle.control_point.specs.declared.t_mesh_control_point.Side.{Side}
use Rattle.control_point.specs.declared.t_mesh_control_point.Side.TheVariants.{Link, Border, Opening}
use Rattle.control_point.specs.declared.t_mesh_control_point.TmeshControlPoint.{TmeshControlPoint}

-- ---- reading: the side is the one of the kind that stands at the place
module _ (kinds numbers : List ℕ) (intervals : List Float) (n : ℕ) (d : TmeshDirection) (i : ℕ) (e : i ≡ place n d) (h : n < 128) where
  pub reads_link : get_or kinds i 0 ≡ 0 → Link (get_or numbers i 0) (get_or intervals i nan) ≡ sides_in kinds numbers intervals n d
  unfolding sides_in
  reads_link k = rw (sym e) (simp (lt-ltb n 128 h, k))

  pub reads_border : (get_or kinds i 0 ≡ 0 → ⊥) → get_or kinds i 0 ≡ 1 → Border (get_or intervals i nan) ≡ sides_in kinds numbers intervals n d
  unfolding sides_in
  reads_border z k = rw (sym e) (simp (lt-ltb n 128 h, k))

  pub reads_opening : (get_or kinds i 0 ≡ 0 → ⊥) → (get_or kinds i 0 ≡ 1 → ⊥) → Opening ≡ sides_in kinds numbers intervals n d
  unfolding sides_in
  reads_opening z k = rw (sym e) (simp (lt-ltb n 128 h, ne_eqb _ 0 z, ne_eqb _ 1 k))

-- a side is read back as it was
side_back : (side : Side) → side_from (kind_of side) (linked_of side) (interval_of side) ≡ side
side_back (Link n interval) = refl
side_back (Border weight) = refl
side_back Opening = refl

place_room : (n : ℕ) (d : TmeshDirection) → n < 128 → place n d < 512
place_room n d h = omega (arith, number_small d)

-- ---- a store at one place
module _ (kinds numbers : List ℕ) (intervals : List Float) (n : ℕ) (d : TmeshDirection) (side : Side) where
  abbrev stored : Sides
  stored = sides_in (set kinds (place n d) (kind_of side)) (set numbers (place n d) (linked_of side)) (set intervals (place n d) (interval_of side))

  module _ (h : n < 128) (full : FullIn kinds numbers intervals) where
    same : (m : ℕ) (e : TmeshDirection) → m ≡ n → place m e ≡ place n d → stored m e ≡ side
    unfolding sides_in
    same m e p q =
        simp (lt-ltb m 128 (omega arith), q)
        (rw (get_or-set_same kinds (place n d) (kind_of side) 0 (omega (arith, place_room n d h)), get_or-set_same numbers (place n d) (linked_of side) 0 (omega (arith, place_room n d h)), get_or-set_same intervals (place n d) (interval_of side) nan (omega (arith, place_room n d h)))
        (side_back side))

    other : (m : ℕ) (e : TmeshDirection) → (place m e ≡ place n d → ⊥) → stored m e ≡ sides_in kinds numbers intervals m e
    unfolding sides_in
    other m e x =
        rw (get_or-set_other kinds (place n d) (place m e) (kind_of side) 0 x, get_or-set_other numbers (place n d) (place m e) (linked_of side) 0 x, get_or-set_other intervals (place n d) (place m e) (interval_of side) nan x)

    by_test : (m : ℕ) (e : TmeshDirection) (a b : Bool) → eqb m n ≡ a → eqb (direction_number e) (direction_number d) ≡ b → stored m e ≡ cond (a && b) side (sides_in kinds numbers intervals m e)
    by_test m e true true p q = same m e (eqb-true m n p) (omega (arith, eqb-true m n p, eqb-true (direction_number e) (direction_number d) q))
    by_test m e true false p q = other m e (λ (x : place m e ≡ place n d). eqb-false (direction_number e) (direction_number d) q (omega (arith, x, eqb-true m n p)))
    by_test m e false true p q = other m e (λ (x : place m e ≡ place n d). eqb-false m n p (omega (arith, x, eqb-true (direction_number e) (direction_number d) q)))
    by_test m e false false p q = other m e (λ (x : place m e ≡ place n d). eqb-false m n p (omega (arith, x, number_small e, number_small d)))

    pub put_full : FullIn (set kinds (place n d) (kind_of side)) (set numbers (place n d) (linked_of side)) (set intervals (place n d) (interval_of side))
    put_full = (length-set kinds _ _ ∙ full.0, (length-set numbers _ _ ∙ full.1.0, length-set intervals _ _ ∙ full.1.1))

    pub put_law : stored ≡ sides_with (sides_in kinds numbers intervals) n d side
    put_law = λ i m e. by_test m e (eqb m n) (eqb (direction_number e) (direction_number d)) refl refl i

-- ---- four stores are a point's
module _ (sides : Sides) (n : ℕ) (p : TmeshControlPoint) where
  abbrev four : Sides
  four = sides_with (sides_with (sides_with (sides_with sides n Up p.up) n Right p.right) n Down p.down) n Left p.left

  four_by : (m : ℕ) (e : TmeshDirection) (b : Bool) → eqb m n ≡ b → four m e ≡ sides_with_point sides n p m e
  four_by m Up true h = simp h
  four_by m Right true h = simp h
  four_by m Down true h = simp h
  four_by m Left true h = simp h
  four_by m e false h = simp h

  pub put_four : four ≡ sides_with_point sides n p
  put_four = λ i m e. four_by m e (eqb m n) refl i

-- ---- filling: the sides of the first so many points are right
abbrev pub RightTo : ℕ → Sides → List TmeshControlPoint → Type 0
RightTo n sides points = (m : ℕ) (d : TmeshDirection) → m < n → sides m d ≡ side_of (point_at points m) d

pub right_none : (sides : Sides) (points : List TmeshControlPoint) → RightTo 0 sides points
right_none sides points m d h = absurd (omega (arith, h))

pub right_more : (n : ℕ) (before after : Sides) (points : List TmeshControlPoint) → after ≡ sides_with_point before n (point_at points n) → RightTo n before points → RightTo (n + 1) after points
right_more n before after points e r m d h = ap (λ (x : Sides). x m d) e ∙ by_test (eqb m n) refl
  where
    by_test : (b : Bool) → eqb m n ≡ b → cond b (side_of (point_at points n) d) (before m d) ≡ side_of (point_at points m) d
    by_test true x = rw (eqb-true m n x)
    by_test false x = r m d (omega (arith, h, eqb-false m n x))

module _ (kinds numbers : List ℕ) (intervals : List Float) (points : List TmeshControlPoint) (r : RightTo 128 (sides_in kinds numbers intervals) points) where
  all_by : (m : ℕ) (d : TmeshDirection) (b : Bool) → ltb m 128 ≡ b → sides_in kinds numbers intervals m d ≡ sides_of points m d
  unfolding sides_of sides_in
  all_by m d true h = r m d (ltb-true m 128 h) ∙ simp h
  all_by m d false h = simp h

  pub right_all : sides_in kinds numbers intervals ≡ sides_of points
  right_all = λ i m d. all_by m d (ltb m 128) refl i

-- ---- a point stored in the list, and its sides stored in the arrays
module _ (points : List TmeshControlPoint) (n : ℕ) (p : TmeshControlPoint) (h : n < 128) (l : n < length points) where
  in_by : (m : ℕ) (d : TmeshDirection) (b : Bool) → eqb m n ≡ b → sides_of (set points n p) m d ≡ sides_with_point (sides_of points) n p m d
  unfolding sides_of
  in_by m d true e = simp (e, lt-ltb m 128 (omega (arith, eqb-true m n e))) (rw (eqb-true m n e, get_or-set_same points n p blank l))
  in_by m d false e = simp e (rw (get_or-set_other points n m p blank (eqb-false m n e)))

  pub sides_set : sides_of (set points n p) ≡ sides_with_point (sides_of points) n p
  sides_set = λ i m d. in_by m d (eqb m n) refl i

-- ---- sides that agree on all made numbers
abbrev pub Agree : ℕ → Sides → Sides → Type 0
Agree made sides others = (n : ℕ) (d : TmeshDirection) → is_made made n ≡ true → sides n d ≡ others n d

-- with another side
pub agree_with : (made : ℕ) (sides others : Sides) (n : ℕ) (d : TmeshDirection) (side : Side) → Agree made sides others → Agree made (sides_with sides n d side) (sides_with others n d side)
agree_with made sides others n d side agree m e h = ap (cond (eqb m n && same_direction e d) side) (agree m e h)
