-- The call that asks which points reach a cell (`cell_points`). Knots and their index are built only if none are kept, as `subs` builds them; a refusal there is
-- the answer, and then the map is as it was. Else the answer is the two words of the cell and the count of their ones. e is the closeness.
use Rattle.std.specs.Prelude.{ℕ, [], ◌∷◌, Float, Err, Ok, Result, ⊤}
use Rattle.control_point.specs.Told.{Told, natural, tells, refusal_told}
use Rattle.grid_index.specs.Index.{cell_of}
use Rattle.grid_index.specs.declared.Cell.{Cell}
use Rattle.surface.specs.Evaluation.{with_knots}
use Rattle.t_mesh.specs.declared.t_mesh.Tmesh.{Tmesh}
use Rattle.cells.specs.declared.Asked.{Asked}
use Rattle.control_point.specs.declared.refusal.Refusal.{Refusal}

-- ---- the answer
-- what it tells: both words and the count, or the refusal's number
abbrev pub words_told : Cell → Told
words_told words = tells (natural words.first ∷ (natural words.second ∷ (natural words.count ∷ [])))

abbrev pub cell_told : Result Cell Refusal → Told
cell_told (Ok words) = words_told words
cell_told (Err refusal) = refusal_told refusal

abbrev pub cell_number : Result Cell Refusal → ℕ
cell_number answer = (cell_told answer).number

-- the words, or why there are no knots
abbrev pub cell_answer_by : Result ⊤ Refusal → Cell → Result Cell Refusal
cell_answer_by (Ok tt) words = Ok words
cell_answer_by (Err refusal) words = Err refusal

-- ---- `cell_points`
abbrev pub asked_by : Result ⊤ Refusal → Tmesh → ℕ → Asked
asked_by outcome map cell = record { answer = cell_answer_by outcome (cell_of map.index cell); map = map }

unfoldable pub cell_points : Float → Tmesh → ℕ → Asked
cell_points e map cell = asked_by (with_knots e map).outcome (with_knots e map).map cell
