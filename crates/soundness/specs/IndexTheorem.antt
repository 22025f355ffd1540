-- EVERY ANSWER SAYS WHICH POINTS REACH THE CELL. After every list of calls on a fresh map, of the kinds of MapCalls, the answer to every question that is not refused has
-- for each number n below 128 the bit 1 exactly where n is listed and some (s, t) of the cell, f64s, lies within the outer knots kept for point n; no other bits; and as its count
-- the ones in the two words, which is how many numbers are listed and reach the cell. Of the knots nothing is asked: they may fall, be infinite or NaN. The question may have a
-- closeness other than the list's.
use Rattle.std.specs.Prelude.{ℕ, ◌<◌, ◌≡◌, true, Float, Ok}
use Rattle.cells.specs.Cells.{cell_points}
use Rattle.grid_index.specs.CellTheorem.{Says}
use Rattle.grid_index.specs.Index.{index_of}
use Rattle.grid_index.specs.declared.Cell.{Cell}
use Rattle.soundness.specs.Theorems.{EveryMap}

-- Where knots are kept, the kept index is the one of the listing and these knots.
abbrev pub KeptIndexIsOfKnots : Type 0
KeptIndexIsOfKnots = EveryMap (λ map. map.kept ≡ true → map.index ≡ index_of map.mesh.listed map.knots)

abbrev pub EveryAnswerSays : Type 0
EveryAnswerSays =
    EveryMap
    (λ map.
    (e : Float) (cell : ℕ) (words : Cell)
    → cell < 256
    → (cell_points e map cell).answer ≡ Ok words
    → Says map.mesh.listed (cell_points e map cell).map.knots cell words)
