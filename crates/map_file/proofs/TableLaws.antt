-- The set-point of a file tells what its table says.
use Rattle.std.specs.Prelude.{ℕ, ◌≡◌, refl, List, Float}
use Rattle.std.proofs.Common.{ap, ◌∙◌}
use Rattle.surface.specs.Evaluation.{evaluation_told}
use Rattle.surface.proofs.SetPointLaws.{set_point_told}
use Rattle.map_format.specs.Format.{edit_count, where_valid}
use Rattle.map_format.proofs.FormatLaws.{where_valid_told}
use Rattle.map_file.specs.Run.{file_map, checked_set_point, file_set_point}
use Rattle.map_file.specs.Table.{file_set_point_table}

pub file_set_point_told : (e : Float) (bytes : List ℕ) (s t : Float) → evaluation_told (file_set_point e bytes s t) ≡ file_set_point_table e bytes s t
unfolding file_set_point
file_set_point_told e bytes s t =
    where_valid_told bytes (λ check. evaluation_told (checked_set_point e bytes s t check)) (λ refusal. refl)
    ∙ ap (where_valid bytes) (set_point_told e (file_map e bytes (edit_count bytes)) s t)
