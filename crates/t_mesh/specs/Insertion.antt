-- Insertion into a map. Refused, the map is as it was. Torn, the mesh keeps all that was done, p stands there with its position and a pull of 1.0 and is not listed, and the kept
-- knots and their index are kept. Done, p is listed and both are dropped. So it is in the source (`add_control_point`). By the rule that withdraws torn
-- insertions (`add_or_withdraw`) a torn one leaves the map as it was: the sides, the coordinates, the places, the listing, the kept knots and their index.
use Rattle.std.specs.Prelude.{ℕ, Bool, false, cond, Float, set, Err, Ok, Result}
use Rattle.control_point.specs.declared.t_mesh_direction.TmeshDirection.{TmeshDirection}
use Rattle.insertion.specs.Insert.{is_done, is_refused, insert_point}
use Rattle.insertion.specs.Withdrawal.{unless_withdrawn}
use Rattle.insertion.specs.declared.insertion.Inserted.{Inserted}
use Rattle.insertion.specs.declared.insertion.Insertion.TheVariants.{Done, Torn}
use Rattle.store.specs.declared.store.Store.{Store}
use Rattle.t_mesh.specs.Tmesh.{unpulled, mesh_store, store_of, listed_in, is_listed}
use Rattle.t_mesh.specs.declared.t_mesh.Position.{Position}
use Rattle.t_mesh.specs.declared.t_mesh.Mesh.{Mesh}
use Rattle.t_mesh.specs.declared.t_mesh.Tmesh.{Tmesh}
use Rattle.t_mesh.specs.declared.add.Added.{Added}
use Rattle.t_mesh.specs.declared.add.InsertedMesh.{InsertedMesh}
use Rattle.control_point.specs.declared.refusal.Refusal.{Refusal}
use Rattle.insertion.specs.declared.insertion.Insertion.{Insertion}

-- ---- the mesh
-- with the store after an insertion, which made the point n at a position and lists it or not
abbrev pub with_placed : Mesh → Store → ℕ → Position → Bool → Mesh
with_placed mesh store n position listed =
    record { points = store.points; made = store.made; places = set mesh.places n (unpulled position); listed = set mesh.listed n listed }

-- after an insertion, by its answer and the store that it left
abbrev pub mesh_after : Mesh → Position → Result Insertion Refusal → Store → Mesh
mesh_after mesh position answer store =
    cond (is_refused answer) mesh (with_placed mesh store mesh.made position (is_done answer))

-- the answer, and the mesh after it
abbrev pub answered_mesh : Mesh → Position → Inserted → InsertedMesh
answered_mesh mesh position inserted =
    record { answer = inserted.answer; mesh = mesh_after mesh position inserted.answer inserted.store }

-- an insertion, as far as it is the mesh's
unfoldable pub insert_into_mesh : Float → Mesh → ℕ → TmeshDirection → Float → Position → InsertedMesh
insert_into_mesh e mesh con d ratio position =
    answered_mesh mesh position (insert_point e (mesh_store mesh) (listed_in mesh.listed con) con d ratio)

-- ---- the map
-- whether kept knots and their index are still kept: done, they are dropped
abbrev pub kept_after : Bool → Result Insertion Refusal → Bool
kept_after kept (Ok (Done opened inferred)) = false
kept_after kept (Ok (Torn opened inferred)) = kept
kept_after kept (Err refusal) = kept

-- after an insertion, by its answer and the store that it left
abbrev pub after_insertion : Tmesh → Position → Result Insertion Refusal → Store → Tmesh
after_insertion map position answer store =
    record { mesh = mesh_after map.mesh position answer store; kept = kept_after map.kept answer; knots = map.knots; index = map.index }

-- the answer, and the map after it
abbrev pub answered : Tmesh → Position → Inserted → Added
answered map position inserted = record { answer = inserted.answer; map = after_insertion map position inserted.answer inserted.store }

-- towards direction d of the point con, at a ratio of the link there; e is the closeness
unfoldable pub add_control_point : Float → Tmesh → ℕ → TmeshDirection → Float → Position → Added
add_control_point e map con d ratio position = answered map position (insert_point e (store_of map) (is_listed map con) con d ratio)

-- ---- by either rule on torn ones
-- of the map before an insertion and what it answered, withdrawn or not
abbrev pub added_by : Bool → Tmesh → Added → Added
added_by withdraws map added = record { answer = added.answer; map = unless_withdrawn withdraws added.answer map added.map }

-- where torn insertions are not withdrawn, it is `add_control_point` (`added_staying`)
abbrev pub add_by_rule : Bool → Float → Tmesh → ℕ → TmeshDirection → Float → Position → Added
add_by_rule withdraws e map con d ratio position = added_by withdraws map (add_control_point e map con d ratio position)

-- as far as it is the mesh's
abbrev pub mesh_by : Bool → Mesh → InsertedMesh → InsertedMesh
mesh_by withdraws mesh inserted = record { answer = inserted.answer; mesh = unless_withdrawn withdraws inserted.answer mesh inserted.mesh }

abbrev pub mesh_by_rule : Bool → Float → Mesh → ℕ → TmeshDirection → Float → Position → InsertedMesh
mesh_by_rule withdraws e mesh con d ratio position = mesh_by withdraws mesh (insert_into_mesh e mesh con d ratio position)
