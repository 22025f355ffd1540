-- The call tells what its table says.
use Rattle.std.specs.Prelude.{ℕ, ◌≡◌, refl, Float, Err, Ok, Result, ⊤}
use Rattle.std.proofs.Common.{◌∙◌}
use Rattle.control_point.specs.Told.{refused_or}
use Rattle.grid_index.specs.Index.{cell_of}
use Rattle.grid_index.specs.declared.Cell.{Cell}
use Rattle.surface.specs.Evaluation.{with_knots}
use Rattle.surface.proofs.EvaluationLaws.{with_knots_told}
use Rattle.t_mesh.specs.declared.t_mesh.Tmesh.{Tmesh}
use Rattle.cells.specs.Cells.{words_told, cell_told, cell_answer_by, cell_points}
use Rattle.cells.specs.Table.{cell_points_table}
use Rattle.control_point.specs.declared.refusal.Refusal.{Refusal}

answer_told_lem : (outcome : Result ⊤ Refusal) (words : Cell) → cell_told (cell_answer_by outcome words) ≡ refused_or outcome (words_told words)
answer_told_lem (Ok tt) words = refl
answer_told_lem (Err refusal) words = refl

pub cell_points_told : (e : Float) (map : Tmesh) (cell : ℕ) → cell_told (cell_points e map cell).answer ≡ cell_points_table e map cell
unfolding cell_points
cell_points_told e map cell =
    answer_told_lem (with_knots e map).outcome (cell_of (with_knots e map).map.index cell) ∙ with_knots_told e map (λ own. words_told (cell_of own.index cell))
