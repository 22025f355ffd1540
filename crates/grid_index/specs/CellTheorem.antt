-- WHICH POINTS REACH A CELL. In the index of a listing and its knots the cell of every byte has at bit n modulo 64 of its first word, or for n from 64 on of its second, a 1 exactly
-- where n is listed and some (s, t) of the cell, f64s, lies within the outer knots of point n. Its words have no other bits, and its count, the ones in them, is how many numbers are
-- listed and reach it, counted number by number, whichever test says which these are. Of the knots is asked only that the first each way is an f64, as all that code holds are.
use Rattle.std.specs.Prelude.{ℕ, ◌+◌, ◌^◌, ◌<◌, Bool, true, false, List, ◌≡◌, eqb, get_or}
use Rattle.std.specs.Int.Count.{ones}
use Rattle.bit_words.specs.Words.{count_from}
use Rattle.grid.specs.Grid.{cell_column, cell_row, Reached}
use Rattle.grid.specs.Reach.{StartsF64}
use Rattle.ray.specs.declared.knots.PointKnots.{PointKnots}
use Rattle.grid_index.specs.Index.{bit_of, knots_in, index_of, cell_of}
use Rattle.grid_index.specs.declared.Cell.{Cell}

-- a set that has, of the numbers below 128, those that are listed and reach the cell of a byte
pub record HasReaching (listed : List Bool) (knots : List PointKnots) (cell : ℕ) (set : ℕ → Bool) : Type 0 where
  pub only : (n : ℕ) → n < 128 → set n ≡ true → (get_or listed n false ≡ true) × Reached (knots_in knots n) (cell_column cell) (cell_row cell)
  pub all : (n : ℕ) → n < 128 → get_or listed n false ≡ true → Reached (knots_in knots n) (cell_column cell) (cell_row cell) → set n ≡ true

-- what the words and the count of the cell of a byte say: the numbers whose bit is 1 are such a set, and the count is that of every such set
pub record Says (listed : List Bool) (knots : List PointKnots) (cell : ℕ) (words : Cell) : Type 0 where
  pub bits : HasReaching listed knots cell (λ n. eqb (bit_of words n) 1)
  pub first_fits : words.first < 2 ^ 64
  pub second_fits : words.second < 2 ^ 64
  pub ones_count : words.count ≡ ones words.first + ones words.second
  pub points_count : (set : ℕ → Bool) → HasReaching listed knots cell set → words.count ≡ count_from set 128 0

abbrev pub EveryCellSays : Type 0
EveryCellSays =
    (listed : List Bool) (knots : List PointKnots)
    → ((n : ℕ) → get_or listed n false ≡ true → StartsF64 (knots_in knots n))
    → (cell : ℕ)
    → cell < 256
    → Says listed knots cell (cell_of (index_of listed knots) cell)
