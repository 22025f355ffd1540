-- Sides at a price: what the sides of the made points come to, and how another side and one point more move the sum. The counts of links,
-- borders and openings are such sums.
use Rattle.std.specs.Prelude.{ℕ, ◌+◌, ◌<◌, ◌≡◌, Bool, cond, ◌&&◌}
use Rattle.std.proofs.Math.Path.{refl}
use Rattle.std.proofs.Math.Bool.{true, false}
use Rattle.std.proofs.Common.{arith}
use borrow.Author.Tests.{eq-eqb, ne_eqb, ltb-true, ltb-false, lt-ltb, le-ltb}
use Rattle.std.proofs.Math.Dec.{ltb}
use Rattle.counting.specs.Counting.{sum_below}
use Rattle.counting.proofs.SumLaws.{sum_but}
use Rattle.control_point.specs.Point.{side_of, is_made}
use Rattle.control_point.proofs.PointLaws.{is_made_room, made_is_made}
use Rattle.control_point.specs.Sides.{Sides, sides_with, sides_with_point}
use Rattle.control_point.specs.declared.t_mesh_control_point.Side.{Side}
use Rattle.control_point.specs.declared.t_mesh_control_point.TmeshControlPoint.{TmeshControlPoint}
use Rattle.control_point.specs.declared.t_mesh_direction.TmeshDirection.{TmeshDirection}
use Rattle.control_point.specs.declared.t_mesh_direction.TmeshDirection.TheVariants.{Up, Right, Down, Left}

-- what a side in a direction counts
abbrev pub Price : Type 0
Price = TmeshDirection → Side → ℕ

-- the four sides of a point
abbrev pub around : Price → (TmeshDirection → Side) → ℕ
around price sides = price Up (sides Up) + (price Right (sides Right) + (price Down (sides Down) + price Left (sides Left)))

-- of one number, and of all, where so many are made
abbrev pub worth_at : Price → Sides → ℕ → ℕ → ℕ
worth_at price sides made n = cond (is_made made n) (around price (sides n)) 0

unfoldable pub worth : Price → Sides → ℕ → ℕ
worth price sides made = sum_below 128 (worth_at price sides made)

module _ (price : Price) (sides : Sides) (made : ℕ) where
  -- ---- another side
  module _ (n : ℕ) (d : TmeshDirection) (side : Side) where
    abbrev changed : Sides
    changed = sides_with sides n d side

    around_with : (d : TmeshDirection) → around price (sides_with sides n d side n) + price d (sides n d) ≡ around price (sides n) + price d side
    around_with Up = rw (eq-eqb n n refl) (omega arith)
    around_with Right = rw (eq-eqb n n refl) (omega arith)
    around_with Down = rw (eq-eqb n n refl) (omega arith)
    around_with Left = rw (eq-eqb n n refl) (omega arith)

    elsewhere : (m : ℕ) → (m ≡ n → ⊥) → worth_at price changed made m ≡ worth_at price sides made m
    elsewhere m apart = rw (ne_eqb m n apart)

    pub worth_with : is_made made n ≡ true → worth price changed made + price d (sides n d) ≡ worth price sides made + price d side
    unfolding worth
    worth_with here =
        let moved : around price (changed n) + price d (sides n d) ≡ around price (sides n) + price d side = around_with d in
        let before : worth_at price sides made n ≡ around price (sides n) = rw here in
        let after : worth_at price changed made n ≡ around price (changed n) = rw here in
        omega (arith, sum_but (worth_at price changed made) (worth_at price sides made) n elsewhere 128 (is_made_room made n here))

  -- ---- one point more
  module _ (p : TmeshControlPoint) (roomy : made < 128) where
    abbrev grown : Sides
    grown = sides_with_point sides made p

    made_more : (m : ℕ) → (m ≡ made → ⊥) → is_made (made + 1) m ≡ is_made made m
    unfolding is_made
    made_more m apart = by_test (ltb m made) refl
      where
        by_test : (b : Bool) → ltb m made ≡ b → (ltb m (made + 1) && ltb m 128) ≡ (b && ltb m 128)
        by_test true h = rw (lt-ltb m (made + 1) (omega (arith, ltb-true m made h)))
        by_test false h = rw (le-ltb m (made + 1) (let k = ltb-false m made h in omega arith))

    made_last : is_made (made + 1) made ≡ true
    made_last = made_is_made (made + 1) made (omega arith) (omega arith)

    made_not : is_made made made ≡ false
    unfolding is_made
    made_not = rw (le-ltb made made (omega arith))

    older : (m : ℕ) → (m ≡ made → ⊥) → worth_at price grown (made + 1) m ≡ worth_at price sides made m
    older m apart = rw (made_more m apart, ne_eqb m made apart)

    pub worth_more : worth price grown (made + 1) ≡ worth price sides made + around price (side_of p)
    unfolding worth
    worth_more =
        let before : worth_at price sides made made ≡ 0 = rw made_not in
        let after : worth_at price grown (made + 1) made ≡ around price (side_of p) = rw (made_last, eq-eqb made made refl) in
        omega (arith, sum_but (worth_at price grown (made + 1)) (worth_at price sides made) made older 128 roomy)
