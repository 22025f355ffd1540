-- The grid over the map: 16 by 16 cells from 0 to 1 both ways. Its line i is at i / 16. A cell lies in the column from line c to the next and in the row from line
-- r to the next, each with its first line and without its last; its byte is 16 times its row plus its column. That a point reaches a cell means that there is an (s, t) of the
-- cell, f64s, within the outer two of the point's five knots both ways, the first of them included and the last excluded (`Reached`). Code makes a test instead (`reaches`);
-- Reach.antt says that it is true exactly where the point reaches the cell. `le` and `lt` are f64's comparisons, false where either side is a NaN; `T b` says that the test b is true.
use Rattle.std.specs.Prelude.{ℕ, ◌+◌, ◌/◌, ◌%◌, Bool, ◌&&◌, List, T, pos, Float, get_or}
use Rattle.std.specs.Float.{nan, binary64}
use Rattle.std.specs.Float.Ieee.{of_bits, of_int, div, lt, le, fits}
use Rattle.ray.specs.declared.knots.PointKnots.{PointKnots}

-- ---- the cells
-- 16.0
abbrev pub sixteen_literal : Float
sixteen_literal = of_bits binary64 0x4030000000000000

-- the line of a number, at i / 16
unfoldable pub line : ℕ → Float
line i = div binary64 (of_int binary64 (pos i)) sixteen_literal

-- the column and the row of a cell's byte
abbrev pub cell_column : ℕ → ℕ
cell_column cell = cell % 16

abbrev pub cell_row : ℕ → ℕ
cell_row cell = cell / 16

-- x is an f64 that lies from one number on, up to another and without it
pub record From (first last x : Float) : Type 0 where
  pub is_f64 : T (fits binary64 x)
  pub from : T (le first x)
  pub below : T (lt x last)

-- (s, t) lies in the cell of a column and a row
pub record InCell (column row : ℕ) (s t : Float) : Type 0 where
  pub across : From (line column) (line (column + 1)) s
  pub upwards : From (line row) (line (row + 1)) t

-- ---- what it is to reach a cell
-- the outer two of five knots
abbrev pub first_knot : List Float → Float
first_knot five = get_or five 0 nan

abbrev pub last_knot : List Float → Float
last_knot five = get_or five 4 nan

-- (s, t) lies within a point's outer knots
pub record Within (own : PointKnots) (s t : Float) : Type 0 where
  pub across : From (first_knot own.s) (last_knot own.s) s
  pub upwards : From (first_knot own.t) (last_knot own.t) t

-- some (s, t) of the cell does
pub record Reached (own : PointKnots) (column row : ℕ) : Type 0 where
  pub s : Float
  pub t : Float
  pub in_cell : InCell column row s t
  pub within : Within own s t

-- ---- the test
-- of two stretches, each with its start and without its end: whether they have a number in common; the second is taken not to be empty
abbrev pub overlap : Float → Float → Float → Float → Bool
overlap first last from to = (lt first last && lt first to) && lt from last

-- of five knots and the stretch from line i to the next
abbrev pub on_line : List Float → ℕ → Bool
on_line five i = overlap (first_knot five) (last_knot five) (line i) (line (i + 1))

-- of a point's knots and the cell of a column and a row
abbrev pub reaches : PointKnots → ℕ → ℕ → Bool
reaches own column row = on_line own.s column && on_line own.t row
