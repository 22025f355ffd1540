-- WHICH CELLS A POINT REACHES. The test `reaches` is true exactly where some (s, t) of the cell, f64s, lies within the point's outer knots: it is true wherever there is such
-- an (s, t), whatever the knots are; and there is one wherever it is true, if the first knot each way is an f64, as all that code holds are. The knots may fall, be infinite or NaN, or be missing.
use Rattle.std.specs.Prelude.{ℕ, ◌<◌, ◌≡◌, true, false, T}
use Rattle.std.specs.Float.{binary64}
use Rattle.std.specs.Float.Ieee.{fits}
use Rattle.std.specs.Float.Ieee.Exact.{HasValue}
use Rattle.ray.specs.declared.knots.PointKnots.{PointKnots}
use Rattle.grid.specs.Grid.{line, first_knot, Reached, reaches}

-- the first knot each way is an f64
pub record StartsF64 (own : PointKnots) : Type 0 where
  pub across : T (fits binary64 (first_knot own.s))
  pub upwards : T (fits binary64 (first_knot own.t))

abbrev pub TrueWhereReached : Type 0
TrueWhereReached = (own : PointKnots) (column row : ℕ) → Reached own column row → reaches own column row ≡ true

abbrev pub ReachedWhereTrue : Type 0
ReachedWhereTrue = (own : PointKnots) (column row : ℕ) → column < 16 → row < 16 → StartsF64 own → reaches own column row ≡ true → Reached own column row

-- a line is where its number says: line i is i / 16, exactly
abbrev pub LineExact : Type 0
LineExact = (i : ℕ) → i < 17 → HasValue (line i) false i 16
