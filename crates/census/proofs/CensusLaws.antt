-- Laws of counting: the true tests of a list, number by number, and the sides of a store, point by point.
use Rattle.std.specs.Prelude.{ℕ, ◌+◌, ◌*◌, ◌<◌, ◌≤◌, ◌≡◌, refl, Bool, cond, ◌&&◌}
use Rattle.std.proofs.Common.{ap, ◌∙◌, arith}
use Rattle.counting.specs.Counting.{count_below}
use Rattle.counting.proofs.CountLaws.{one_both, plus_where, count_none, count_next, count_few}
use Rattle.control_point.specs.Point.{is_made, is_link, is_border, side_of}
use Rattle.control_point.specs.declared.t_mesh_control_point.Side.{Side}
use Rattle.control_point.specs.declared.t_mesh_direction.TmeshDirection.{TmeshDirection}
use Rattle.control_point.specs.declared.t_mesh_direction.TmeshDirection.TheVariants.{Up, Right, Down, Left}
use Rattle.store.specs.Store.{store_point}
use Rattle.store.proofs.StoreLaws.{side_read}
use Rattle.store.specs.declared.store.Store.{Store}
use Rattle.census.specs.Census.{has_side, links_ahead, borders_around}
use Rattle.census.specs.declared.census.Counts.{Counts}

-- ---- the points listed
-- what a loop over a list of tests says of its sum
pub ruleset listed_below = (count_none, count_next, count_few)

-- ---- a point more
-- 1 for a side of a point that passes a test
abbrev one_side : (Side → Bool) → Store → ℕ → TmeshDirection → ℕ
one_side test store n d = cond (test (side_of (store_point store n) d)) 1 0

-- one point more, read of the store's points
side_next : (test : Side → Bool) (store : Store) (d : TmeshDirection) (n : ℕ) → n < 128
    → count_below (n + 1) (has_side test store d) ≡ count_below n (has_side test store d) + cond (is_made store.made n) (one_side test store n d) 0
side_next test store d n h =
    count_next n (has_side test store d)
    ∙ ap (λ (side : Side). count_below n (has_side test store d) + cond (is_made store.made n && test side) 1 0) (side_read store n d h)
    ∙ ap (λ (more : ℕ). count_below n (has_side test store d) + more) (one_both (is_made store.made n) (test (side_of (store_point store n) d)))

-- ---- the links that are counted at the points below one
abbrev pub links_below : Store → ℕ → ℕ
links_below store n = count_below n (has_side is_link store Up) + count_below n (has_side is_link store Right)

pub links_none : (store : Store) → links_below store 0 ≡ 0
links_none store = omega (arith, count_none (has_side is_link store Up), count_none (has_side is_link store Right))

pub links_few : (store : Store) (n : ℕ) → links_below store n ≤ 2 * n
links_few store n = omega (arith, count_few n (has_side is_link store Up), count_few n (has_side is_link store Right))

pub links_next : (store : Store) (n : ℕ) → n < 128 → links_below store (n + 1) ≡ links_below store n + cond (is_made store.made n) (links_ahead (store_point store n)) 0
links_next store n h =
    omega (
      arith,
      side_next is_link store Up n h,
      side_next is_link store Right n h,
      plus_where (is_made store.made n) (one_side is_link store n Up) (one_side is_link store n Right),
    )

-- ---- their borders
abbrev pub borders_below : Store → ℕ → ℕ
borders_below store n =
    count_below n (has_side is_border store Up)
    + (count_below n (has_side is_border store Right) + (count_below n (has_side is_border store Down) + count_below n (has_side is_border store Left)))

pub borders_none : (store : Store) → borders_below store 0 ≡ 0
borders_none store =
    omega (
      arith,
      count_none (has_side is_border store Up),
      count_none (has_side is_border store Right),
      count_none (has_side is_border store Down),
      count_none (has_side is_border store Left),
    )

pub borders_few : (store : Store) (n : ℕ) → borders_below store n ≤ 4 * n
borders_few store n =
    omega (
      arith,
      count_few n (has_side is_border store Up),
      count_few n (has_side is_border store Right),
      count_few n (has_side is_border store Down),
      count_few n (has_side is_border store Left),
    )

pub borders_next : (store : Store) (n : ℕ) → n < 128 → borders_below store (n + 1) ≡ borders_below store n + cond (is_made store.made n) (borders_around (store_point store n)) 0
borders_next store n h =
    omega (
      arith,
      side_next is_border store Up n h,
      side_next is_border store Right n h,
      side_next is_border store Down n h,
      side_next is_border store Left n h,
      plus_where (is_made store.made n) (one_side is_border store n Up) (one_side is_border store n Right + (one_side is_border store n Down + one_side is_border store n Left)),
      plus_where (is_made store.made n) (one_side is_border store n Right) (one_side is_border store n Down + one_side is_border store n Left),
      plus_where (is_made store.made n) (one_side is_border store n Down) (one_side is_border store n Left),
    )

-- what a loop over the points says of its sums
pub ruleset sums_below = (links_none, links_few, links_next, borders_none, borders_few, borders_next)

-- ---- counts that are equal number by number
abbrev counts_with : ℕ → ℕ → ℕ → ℕ → Counts
counts_with made listed links borders = record { made = made; listed = listed; links = links; borders = borders }

pub same_counts : {made listed links borders made' listed' links' borders' : ℕ} → made ≡ made' → listed ≡ listed' → links ≡ links' → borders ≡ borders'
    → counts_with made listed links borders ≡ counts_with made' listed' links' borders'
same_counts m l k b = rw (m, l, k, b) refl
