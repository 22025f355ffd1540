-- All sides of the made points add up: at the price 1 for each, they come to four for each point, and each is a link, a border or an opening.
use Prim.Native.Nat.{ℕ, zero, suc, ◌+◌, ◌*◌, ◌<◌, ◌≤◌}
use Rattle.std.specs.Prelude.{◌≡◌, refl, Bool}
use Rattle.std.proofs.Math.Bool.{true, false, cond}
use Rattle.std.proofs.Math.Numerals.{add-one}
use native.Mathlib.Omega.{arith}
use borrow.Author.Tests.{ltb-true, ltb-false, le-ltb}
use Rattle.std.proofs.Math.Dec.{ltb}
use Rattle.counting.specs.Counting.{sum_below}
use Rattle.counting.proofs.SumLaws.{sum_same, sum_both}
use Rattle.control_point.specs.Point.{is_made, is_link, is_border, is_opening}
use Rattle.control_point.proofs.PointLaws.{made_is_made}
use Rattle.control_point.specs.declared.t_mesh_control_point.Side.{Side}
use Rattle.control_point.specs.declared.t_mesh_control_point.Side.TheVariants.{Link, Border, Opening}
use Rattle.control_point.specs.declared.t_mesh_direction.TmeshDirection.TheVariants.{Up, Right, Down, Left}
use Rattle.store.specs.Store.{store_sides}
use Rattle.store.specs.declared.store.Store.{Store}
use Rattle.t_mesh.specs.Tmesh.{store_of, new_tmesh}
use Rattle.census.specs.Census.{counts_of}
use Rattle.openings.specs.Openings.{openings_of}
use Rattle.openings.proofs.OpeningsLaws.{answer_count}
use Rattle.soundness.proofs.EveryMapProof.{every_map_mirrored}
use Rattle.soundness.proofs.LinkSidesAreTwiceProof.{link_sides_are_twice}
use Rattle.soundness.specs.MapCalls.{map_after_all}
use Rattle.ledger.proofs.PriceLaws.{around, worth_at, worth}
use Rattle.ledger.proofs.ChangeLaws.{worth_of}
use Rattle.ledger.proofs.CountedLaws.{passing, worth_passing, worth_openings}
use Rattle.ledger.specs.Theorem.{SidesAddUp}

-- ---- four for each point
module _ (made : ℕ) (fits : made ≤ 128) where
  abbrev sides_at : ℕ → ℕ
  sides_at n = cond (is_made made n) 4 0

  of_made : (n : ℕ) → n < made → sides_at n ≡ 4
  of_made n h = rw (made_is_made made n fits h)

  of_unmade : (n : ℕ) → made ≤ n → sides_at n ≡ 0
  unfolding is_made
  of_unmade n h = rw (le-ltb n made h)

  -- below the count each has four, and from there on none
  summed : (n : ℕ) → (n ≤ made → sum_below n sides_at ≡ 4 * n) × (made ≤ n → sum_below n sides_at ≡ 4 * made)
  unfolding sum_below
  summed zero = ((λ h. refl), (λ h. omega (arith, h)))
  summed (suc n) = (
    (λ h. omega (arith, add-one n, (summed n).0 (omega (arith, add-one n, h)), of_made n (omega (arith, add-one n, h)))),
    (λ h. by_test (summed n) h (ltb n made) refl),
  )
    where
      by_test : (n ≤ made → sum_below n sides_at ≡ 4 * n) × (made ≤ n → sum_below n sides_at ≡ 4 * made) → made ≤ suc n → (b : Bool) → ltb n made ≡ b
          → sum_below n sides_at + sides_at n ≡ 4 * made
      by_test below h true l = let here = ltb-true n made l in omega (arith, add-one n, h, below.0 (omega arith), of_made n here)
      by_test below h false l = let past = ltb-false n made l in omega (arith, below.1 past, of_unmade n past)

  four_each : sum_below 128 sides_at ≡ 4 * made
  four_each = (summed 128).1 fits

-- ---- each is one of three
one_of_three : (side : Side) → cond {A = ℕ} (is_link side) 1 0 + cond (is_border side) 1 0 + cond (is_opening side) 1 0 ≡ 1
one_of_three (Link n interval) = refl
one_of_three (Border weight) = refl
one_of_three Opening = refl

module _ (store : Store) where
  abbrev passing_at : (Side → Bool) → ℕ → ℕ
  passing_at test = worth_at (passing test) (store_sides store) store.made

  each_side : (n : ℕ) → passing_at is_link n + (passing_at is_border n + passing_at is_opening n) ≡ cond (is_made store.made n) 4 0
  each_side n = by_made (is_made store.made n)
    where
      by_made : (b : Bool)
          → cond b (around (passing is_link) (store_sides store n)) 0 + (cond b (around (passing is_border) (store_sides store n)) 0 + cond b (around (passing is_opening) (store_sides store n)) 0)
          ≡ cond b 4 0
      by_made true =
          omega (
            arith,
            one_of_three (store_sides store n Up),
            one_of_three (store_sides store n Right),
            one_of_three (store_sides store n Down),
            one_of_three (store_sides store n Left),
          )
      by_made false = refl

  all_sides : store.made ≤ 128 → worth_of (passing is_link) store + (worth_of (passing is_border) store + worth_of (passing is_opening) store) ≡ 4 * store.made
  unfolding worth
  all_sides fits =
      omega (
        arith,
        sum_both 128 (passing_at is_link) (λ n. passing_at is_border n + passing_at is_opening n),
        sum_both 128 (passing_at is_border) (passing_at is_opening),
        sum_same 128 (λ n. passing_at is_link n + (passing_at is_border n + passing_at is_opening n)) (λ n. cond (is_made store.made n) 4 0) (λ n below. each_side n),
        four_each store.made fits,
      )

pub sides_add_up : SidesAddUp
unfolding counts_of
sides_add_up e weight at_bottom_left at_bottom_right at_top_right at_top_left calls =
    let store = store_of (map_after_all e (new_tmesh weight at_bottom_left at_bottom_right at_top_right at_top_left) calls) in
    omega (
      arith,
      all_sides store (every_map_mirrored e weight at_bottom_left at_bottom_right at_top_right at_top_left calls).fits,
      worth_passing is_link store,
      worth_passing is_border store,
      worth_openings store,
      answer_count (openings_of store),
      link_sides_are_twice e weight at_bottom_left at_bottom_right at_top_right at_top_left calls,
    )
