-- The index as code builds it. The test of a point and a cell is one of its knots across and the cell's column, and one of its knots upwards and the cell's row; so the words of
-- the 16 columns and of the 16 rows are made point by point, and a cell's word is what those of its column and its row have in common.
use Rattle.std.specs.Prelude.{ℕ, ◌+◌, Bool, false, cond, ◌&&◌, List, Float, get_or}
use Rattle.std.specs.Int.Bits.{bit_and, bit_or}
use Rattle.bit_words.specs.Words.{word_from}
use Rattle.grid.specs.Grid.{line, cell_column, cell_row, overlap, on_line}
use Rattle.ray.specs.declared.knots.PointKnots.{PointKnots}
use Rattle.grid_index.specs.Index.{knots_in}

-- a point's knots across, which the columns are tested by, and upwards, which the rows are
abbrev pub knots_across : PointKnots → List Float
knots_across own = own.s

abbrev pub knots_upwards : PointKnots → List Float
knots_upwards own = own.t

-- whether the point n is listed and the test is true of its knots one way and the column or the row from line i on
abbrev pub on_stretch : (PointKnots → List Float) → List Bool → List PointKnots → ℕ → ℕ → Bool
on_stretch way listed knots i n = get_or listed n false && on_line (way (knots_in knots n)) i

-- its word, of so many points from a number on
abbrev pub stretch_word : (PointKnots → List Float) → List Bool → List PointKnots → ℕ → ℕ → ℕ → ℕ
stretch_word way listed knots count start i = word_from (on_stretch way listed knots i) count start

-- a word, with a bit set in it where the test holds; and the word of line i, with the bit where the stretch between two knots reaches the one from line i to the next
abbrev pub marked_by : Bool → ℕ → ℕ → ℕ
marked_by test word bit = cond test (bit_or word bit) word

abbrev pub marked_at : List ℕ → ℕ → Float → Float → ℕ → ℕ
marked_at words bit first last i = marked_by (overlap first last (line i) (line (i + 1))) (get_or words i 0) bit

-- a cell's word, by those of the columns and of the rows
abbrev pub both_word : List ℕ → List ℕ → ℕ → ℕ
both_word columns rows cell = bit_and (get_or columns (cell_column cell) 0) (get_or rows (cell_row cell) 0)
