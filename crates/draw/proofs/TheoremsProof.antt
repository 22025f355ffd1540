-- Each draw is below 2 ^ 64 and is 0 only where the one before it is; and so many parts of 1 are an exact quotient.
use Rattle.std.specs.Prelude.{ℕ, zero, suc, ◌%◌, ◌≤◌, ◌<◌, ◌≡◌, refl}
use Rattle.std.proofs.Common.{arith}
use Rattle.draw.specs.Draw.{next_draw, later_draw, parts, part_counts}
use Rattle.draw.proofs.DrawLaws.{next_below, next_not_zero, in_parts_exact, in_parts_in_unit}
use Rattle.draw.specs.Theorems.{DrawsStayNonzero, DrawnFloatIsExact}

pub draws_stay_nonzero : DrawsStayNonzero
unfolding later_draw
draws_stay_nonzero zero seed some few = (some, few)
draws_stay_nonzero (suc times) seed some few =
    let before = draws_stay_nonzero times seed some few in
    (above (next_draw (later_draw times seed)) (λ none. let z = next_not_zero (later_draw times seed) none in omega (arith, before.0)), next_below (later_draw times seed) before.1)
  where
    above : (n : ℕ) → (n ≡ 0 → ⊥) → 0 < n
    above zero some = absurd (some refl)
    above (suc n) some = omega arith

pub drawn_float_is_exact : DrawnFloatIsExact
drawn_float_is_exact draw = let few : draw % part_counts ≤ parts = omega arith in (in_parts_exact (draw % part_counts) few, in_parts_in_unit (draw % part_counts) few)
