-- The table of `cell_points`: refused as `subs` is; else both words of the cell and the count of their ones.
use Rattle.std.specs.Prelude.{ℕ, Float}
use Rattle.control_point.specs.Told.{Told}
use Rattle.grid_index.specs.Index.{cell_of}
use Rattle.surface.specs.Evaluation.{with_knots_table}
use Rattle.t_mesh.specs.declared.t_mesh.Tmesh.{Tmesh}
use Rattle.cells.specs.Cells.{words_told}

abbrev pub cell_points_table : Float → Tmesh → ℕ → Told
cell_points_table e map cell = with_knots_table e map (λ own. words_told (cell_of own.index cell))
