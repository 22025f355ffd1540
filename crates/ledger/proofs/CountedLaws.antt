-- What `counts` and `openings` count are sums of sides at a price: 1 for each side that passes a test, in all four directions or in two.
use Prim.Native.Nat.{ℕ, zero, suc, ◌+◌}
use Rattle.std.specs.Prelude.{◌≡◌, Bool}
use Rattle.std.proofs.Math.Path.{refl, ap}
use Rattle.std.proofs.Common.{◌∙◌}
use Rattle.std.proofs.Math.Bool.{true, false, cond}
use mathlib.Core.List.{List, [], ◌∷◌}
use native.Mathlib.Omega.{arith}
use Rattle.std.proofs.Math.ListN.{length, length-append}
use Rattle.counting.specs.Counting.{sum_below}
use Rattle.counting.proofs.CountLaws.{one_both, plus_where}
use Rattle.counting.proofs.SumLaws.{sum_same, sum_nothing, sum_both, count_is_sum}
use Rattle.control_point.specs.Point.{is_made, is_opening}
use Rattle.control_point.specs.declared.t_mesh_control_point.Side.{Side}
use Rattle.control_point.specs.declared.t_mesh_direction.TmeshDirection.{TmeshDirection}
use Rattle.control_point.specs.declared.t_mesh_direction.TmeshDirection.TheVariants.{Up, Right, Down, Left}
use Rattle.store.specs.Store.{store_sides}
use Rattle.store.specs.declared.store.Store.{Store}
use Rattle.census.specs.Census.{has_side, sides_towards, sides_that}
use Rattle.openings.specs.Openings.{PointSide, point_side, four_sides, sides_below, is_open, open_among, openings_of}
use Rattle.openings.proofs.OpeningsLaws.{open_append}
use Rattle.ledger.proofs.PriceLaws.{Price, worth_at, worth}
use Rattle.ledger.proofs.ChangeLaws.{worth_of}

-- 1 for a side that passes a test; and only if it is Up or Right
abbrev pub passing : (Side → Bool) → Price
passing test d side = cond (test side) 1 0

abbrev pub ahead : (Side → Bool) → Price
ahead test Up side = cond (test side) 1 0
ahead test Right side = cond (test side) 1 0
ahead test Down side = 0
ahead test Left side = 0

-- ---- direction by direction
module _ (price : Price) (store : Store) where
  abbrev worth_towards : TmeshDirection → ℕ → ℕ
  worth_towards d n = cond (is_made store.made n) (price d (store_sides store n d)) 0

  abbrev in_direction : TmeshDirection → ℕ
  in_direction d = sum_below 128 (worth_towards d)

  at_point : (n : ℕ)
      → worth_at price (store_sides store) store.made n ≡ worth_towards Up n + (worth_towards Right n + (worth_towards Down n + worth_towards Left n))
  at_point n =
      let made = is_made store.made n in
      let up = price Up (store_sides store n Up) in
      let right = price Right (store_sides store n Right) in
      let down = price Down (store_sides store n Down) in
      let left = price Left (store_sides store n Left) in
      omega (arith, plus_where made up (right + (down + left)), plus_where made right (down + left), plus_where made down left)

  by_direction : worth_of price store ≡ in_direction Up + (in_direction Right + (in_direction Down + in_direction Left))
  unfolding worth
  by_direction =
      omega (
        arith,
        sum_same 128 (worth_at price (store_sides store) store.made) (λ n. worth_towards Up n + (worth_towards Right n + (worth_towards Down n + worth_towards Left n))) (λ n below. at_point n),
        sum_both 128 (worth_towards Up) (λ n. worth_towards Right n + (worth_towards Down n + worth_towards Left n)),
        sum_both 128 (worth_towards Right) (λ n. worth_towards Down n + worth_towards Left n),
        sum_both 128 (worth_towards Down) (worth_towards Left),
      )

-- ---- the sides that pass a test
module _ (test : Side → Bool) (store : Store) where
  towards_sum : (d : TmeshDirection) → sides_towards test store d ≡ sum_below 128 (λ n. cond (is_made store.made n) (cond (test (store_sides store n d)) 1 0) 0)
  towards_sum d = count_is_sum 128 (has_side test store d) ∙ sum_same 128 _ _ (λ n below. one_both (is_made store.made n) (test (store_sides store n d)))

  nothing_at : (b : Bool) → cond {A = ℕ} b 0 0 ≡ 0
  nothing_at true = refl
  nothing_at false = refl

  nothing : sum_below 128 (λ n. cond (is_made store.made n) 0 0) ≡ 0
  nothing = sum_same 128 _ (λ n. 0) (λ n below. nothing_at (is_made store.made n)) ∙ sum_nothing 128

  pub worth_passing : worth_of (passing test) store ≡ sides_that test store
  worth_passing = omega (arith, by_direction (passing test) store, towards_sum Up, towards_sum Right, towards_sum Down, towards_sum Left)

  pub worth_ahead : worth_of (ahead test) store ≡ sides_towards test store Up + sides_towards test store Right
  worth_ahead = omega (arith, by_direction (ahead test) store, towards_sum Up, towards_sum Right, nothing)

-- ---- the openings listed
module _ (store : Store) where
  one_open : PointSide → ℕ
  one_open side = cond (is_open store side) 1 0

  open_length : (side : PointSide) (rest : List PointSide) → length (open_among store (side ∷ rest)) ≡ one_open side + length (open_among store rest)
  unfolding open_among one_open
  open_length side rest = by_test (is_open store side) (open_among store rest)
    where
      by_test : (b : Bool) (chosen : List PointSide) → length (cond b (side ∷ chosen) chosen) ≡ cond b 1 0 + length chosen
      by_test true chosen = omega arith
      by_test false chosen = omega arith

  open_none : length (open_among store []) ≡ 0
  unfolding open_among
  open_none = refl

  one_open_is : (n : ℕ) (d : TmeshDirection) → one_open (point_side n d) ≡ cond (is_made store.made n) (passing is_opening d (store_sides store n d)) 0
  unfolding one_open
  one_open_is n d = one_both (is_made store.made n) (is_opening (store_sides store n d))

  open_four : (n : ℕ) → length (open_among store (four_sides n)) ≡ worth_at (passing is_opening) (store_sides store) store.made n
  open_four n =
      let left = point_side n Left ∷ [] in
      let down = point_side n Down ∷ left in
      let right = point_side n Right ∷ down in
      omega (
        arith,
        open_length (point_side n Up) right,
        open_length (point_side n Right) down,
        open_length (point_side n Down) left,
        open_length (point_side n Left) [],
        open_none,
        one_open_is n Up,
        one_open_is n Right,
        one_open_is n Down,
        one_open_is n Left,
        at_point (passing is_opening) store n,
      )

  open_below_lem : (n : ℕ) → length (open_among store (sides_below n)) ≡ sum_below n (worth_at (passing is_opening) (store_sides store) store.made)
  unfolding sides_below sum_below
  open_below_lem zero = open_none
  open_below_lem (suc n) =
      ap length (open_append store (sides_below n) (four_sides n))
      ∙ omega (arith, length-append (open_among store (sides_below n)) (open_among store (four_sides n)), open_below_lem n, open_four n)

  pub worth_openings : worth_of (passing is_opening) store ≡ length (openings_of store)
  unfolding worth
  worth_openings = omega (arith, open_below_lem 128)
