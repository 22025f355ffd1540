-- Theorems on draws: statements only.
use Rattle.std.specs.Prelude.{ℕ, ◌%◌, ◌^◌, ◌<◌, ◌≡◌, true, false}
use Rattle.std.specs.Float.Ieee.Exact.{HasValue}
use Rattle.float64.specs.Unit.{in_unit}
use Rattle.draw.specs.Draw.{later_draw, parts, part_counts, drawn_float}

-- From a seed of 64 bits that is not 0, every draw is of 64 bits and not 0.
abbrev pub DrawsStayNonzero : Type 0
DrawsStayNonzero = (times seed : ℕ) → 0 < seed → seed < 2 ^ 64 → (0 < later_draw times seed) × (later_draw times seed < 2 ^ 64)

-- The float of every draw is the fraction (draw modulo 1025) / 1024 itself, no rounding in it, and lies from 0 to 1.
abbrev pub DrawnFloatIsExact : Type 0
DrawnFloatIsExact = (draw : ℕ) → HasValue (drawn_float draw) false (draw % part_counts) parts × (in_unit (drawn_float draw) ≡ true)
