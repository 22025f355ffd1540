-- The index of a map: for each cell of the grid, which listed points reach it. A cell has two words, a bit for each point: the point n is at bit n modulo 64, in the first word
-- for n below 64 and in the second for n from 64 on. Its bit is 1 exactly where the point is listed and the test `reaches` is true of its knots and the cell; all other bits are 0.
-- CellTheorem.antt says that this is where the point is listed and reaches the cell. What is kept is this, cell by cell.
use Rattle.std.specs.Prelude.{ℕ, ◌+◌, ◌/◌, ◌%◌, ◌^◌, Bool, false, cond, ◌&&◌, List, [], ltb, get_or}
use Rattle.std.specs.Int.Count.{ones}
use Rattle.values.specs.Values.{values_from}
use Rattle.bit_words.specs.Words.{word_from}
use Rattle.grid.specs.Grid.{cell_column, cell_row, reaches}
use Rattle.ray.specs.declared.knots.PointKnots.{PointKnots}
use Rattle.grid_index.specs.declared.Index.{Index}
use Rattle.grid_index.specs.declared.Cell.{Cell}

-- the bit of a number in the words of a cell
abbrev pub bit_of : Cell → ℕ → ℕ
bit_of words n = cond (ltb n 64) words.first words.second / 2 ^ (n % 64) % 2

-- what is read past the end of a list of knots; a map has the knots of all 128 numbers, so its index does not rest on it
abbrev pub no_knots : PointKnots
no_knots = record { s = []; t = [] }

-- a point's knots
abbrev pub knots_in : List PointKnots → ℕ → PointKnots
knots_in knots n = get_or knots n no_knots

-- whether the point n is listed and the test is true of it and the cell of a byte
abbrev pub reaches_cell : List Bool → List PointKnots → ℕ → ℕ → Bool
reaches_cell listed knots cell n = get_or listed n false && reaches (knots_in knots n) (cell_column cell) (cell_row cell)

-- the two words of a cell
abbrev pub first_word : List Bool → List PointKnots → ℕ → ℕ
first_word listed knots cell = word_from (reaches_cell listed knots cell) 64 0

abbrev pub second_word : List Bool → List PointKnots → ℕ → ℕ
second_word listed knots cell = word_from (reaches_cell listed knots cell) 64 64

-- those of all cells, by their bytes
unfoldable pub index_of : List Bool → List PointKnots → Index
index_of listed knots = record { first = values_from (first_word listed knots) 256 0; second = values_from (second_word listed knots) 256 0 }

-- what is said of a cell: its two words, and the ones in them
abbrev pub counted : ℕ → ℕ → Cell
counted first second = record { first = first; second = second; count = ones first + ones second }

-- of the cell of a byte, from an index
abbrev pub cell_of : Index → ℕ → Cell
cell_of index cell = counted (get_or index.first cell 0) (get_or index.second cell 0)
