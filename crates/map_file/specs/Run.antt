-- The run of a valid file: the map of its border and corners, and its edits in order, each given the map as the last left it; a refused one is passed over, and
-- the version says whether a torn one stays or is withdrawn. e is the closeness. What is answered at (s, t) is the set-point of the map that the run leaves.
use Rattle.std.specs.Prelude.{ℕ, ◌+◌, ◌*◌, Bool, List, [], ◌∷◌, map, ◌≡◌, Float, Err, Ok, Result}
use Rattle.big_endian.specs.BigEndian.{float_at}
use Rattle.insertion.specs.Insert.{answer_number}
use Rattle.t_mesh.specs.Tmesh.{new_tmesh}
use Rattle.t_mesh.specs.Insertion.{add_by_rule, mesh_by_rule}
use Rattle.t_mesh.specs.declared.t_mesh.Mesh.{Mesh}
use Rattle.t_mesh.specs.declared.t_mesh.Position.{Position}
use Rattle.t_mesh.specs.declared.t_mesh.Tmesh.{Tmesh}
use Rattle.t_mesh.specs.declared.add.Added.{Added}
use Rattle.t_mesh.specs.declared.add.InsertedMesh.{InsertedMesh}
use Rattle.surface.specs.SetPoint.{set_point}
use Rattle.map_format.specs.Format.{border_at, corners_at, position_bytes, edits_at, file_withdraws, position_at, Edit, edits_from, checked_file}
use Rattle.control_point.specs.declared.refusal.Refusal.{Refusal}
use Rattle.insertion.specs.declared.insertion.Insertion.{Insertion}
use Rattle.surface.specs.declared.evaluation.Evaluation.{Evaluation}

-- ---- the map before the edits
abbrev pub corner_of : List ℕ → ℕ → Position
corner_of bytes k = position_at bytes (corners_at + k * position_bytes)

abbrev pub fresh_map : List ℕ → Tmesh
fresh_map bytes = new_tmesh (float_at bytes border_at) (corner_of bytes 0) (corner_of bytes 1) (corner_of bytes 2) (corner_of bytes 3)

-- ---- the edits
-- an edit, where torn ones are withdrawn or are not
abbrev pub edited : Bool → Float → Tmesh → Edit → Added
edited withdraws e map edit = add_by_rule withdraws e map edit.point edit.direction edit.ratio edit.position

-- an edit, as far as it is the mesh's
abbrev pub mesh_edited : Bool → Float → Mesh → Edit → InsertedMesh
mesh_edited withdraws e mesh edit = mesh_by_rule withdraws e mesh edit.point edit.direction edit.ratio edit.position

-- the map after all
unfoldable pub after_edits : Bool → Float → Tmesh → List Edit → Tmesh
after_edits withdraws e map [] = map
after_edits withdraws e map (edit ∷ rest) = after_edits withdraws e (edited withdraws e map edit).map rest

-- their answers, in order
unfoldable pub edit_answers : Bool → Float → Tmesh → List Edit → List (Result Insertion Refusal)
edit_answers withdraws e map [] = []
edit_answers withdraws e map (edit ∷ rest) = (edited withdraws e map edit).answer ∷ edit_answers withdraws e (edited withdraws e map edit).map rest

-- their answer numbers, in order: 0 done, 8 torn, withdrawn or not, or the refusal's
abbrev pub edit_numbers : Bool → Float → Tmesh → List Edit → List ℕ
edit_numbers withdraws e before edits = map answer_number (edit_answers withdraws e before edits)

-- two places of a file from which the same edits are read
abbrev pub SameEdits : List ℕ → ℕ → ℕ → Type 0
SameEdits bytes at other = (count : ℕ) → edits_from count bytes at ≡ edits_from count bytes other

-- ---- a file with so many edits, by its version
abbrev pub file_map : Float → List ℕ → ℕ → Tmesh
file_map e bytes count = after_edits (file_withdraws bytes) e (fresh_map bytes) (edits_from count bytes edits_at)

abbrev pub file_answers : Float → List ℕ → ℕ → List (Result Insertion Refusal)
file_answers e bytes count = edit_answers (file_withdraws bytes) e (fresh_map bytes) (edits_from count bytes edits_at)

abbrev pub file_numbers : Float → List ℕ → ℕ → List ℕ
file_numbers e bytes count = edit_numbers (file_withdraws bytes) e (fresh_map bytes) (edits_from count bytes edits_at)

-- ---- the set-point at (s, t): a refused file runs nothing
abbrev pub checked_set_point : Float → List ℕ → Float → Float → Result ℕ Refusal → Result Evaluation Refusal
checked_set_point e bytes s t (Ok count) = (set_point e (file_map e bytes count) s t).answer
checked_set_point e bytes s t (Err refusal) = Err refusal

unfoldable pub file_set_point : Float → List ℕ → Float → Float → Result Evaluation Refusal
file_set_point e bytes s t = checked_set_point e bytes s t (checked_file bytes)
