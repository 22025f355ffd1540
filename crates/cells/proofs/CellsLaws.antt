-- The law of the call: what it answers, by the map whose knots and index are ready.
use Rattle.std.specs.Prelude.{ℕ, ◌≡◌, Float, Result, ⊤}
use Rattle.std.proofs.Common.{ap}
use Rattle.grid_index.specs.Index.{cell_of}
use Rattle.grid_index.specs.declared.Cell.{Cell}
use Rattle.knot_vectors.specs.declared.knots.Generated.{Generated}
use Rattle.surface.specs.Evaluation.{with_knots}
use Rattle.t_mesh.specs.declared.t_mesh.Tmesh.{Tmesh}
use Rattle.cells.specs.Cells.{cell_answer_by, asked_by, cell_points}
use Rattle.control_point.specs.declared.refusal.Refusal.{Refusal}

pub asked_ready : (e : Float) (map : Tmesh) (cell : ℕ) (outcome : Result ⊤ Refusal) (ready : Tmesh) (words : Cell) (answer : Result Cell Refusal)
    → record { outcome = outcome; map = ready } ≡ with_knots e map → words ≡ cell_of ready.index cell → answer ≡ cell_answer_by outcome words
    → record { answer = answer; map = ready } ≡ cell_points e map cell
unfolding cell_points
asked_ready e map cell outcome ready words answer h w a = rw (a, w) (ap (λ (x : Generated). asked_by x.outcome x.map cell) h)
