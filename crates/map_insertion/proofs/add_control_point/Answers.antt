-- `add_control_point` meets its contract: it is an insertion into the mesh, and its answer says whether kept knots are still kept.
use mathlib.Core.Path.{◌∙◌, ap}
use lib.Ieee.{Float}
use Rattle.control_point.specs.Small.{millionth}
use Rattle.control_point.proofs.ToldLaws.{beside}
use Rattle.insertion.specs.Insert.{insert_told}
use Rattle.t_mesh.specs.Insertion.{insert_into_mesh}
use Rattle.t_mesh.proofs.InsertionLaws.{added_to, added_by_mesh, added_told}
use Rattle.t_mesh.specs.declared.add.Added.{Added}
use Rattle.map_insertion.proofs.add_control_point.Goals as goal

pub returns : goal.returns
returns c =
    let all = (let a = c.args in
    beside (λ (x : Added). insert_told x.answer) _ _ (added_told millionth a.map a.con a.direction a.ratio a.position) _
    (rw c.kept_after.ensures
    (ap (added_to a.map)
    (c.insert_into-inserted.ensures
    ∙ ap (λ (e : Float). insert_into_mesh e a.map.mesh a.con a.direction a.ratio a.position) c.closeness.ensures)
    ∙ added_by_mesh millionth a.map a.con a.direction a.ratio a.position))) in record { is = all.0; told = all.1 }
