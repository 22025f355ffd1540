-- `run_lent` meets its contract: what is left of the run gives the whole, from the four corners on and through each edit.
use Rattle.control_point.specs.Small.{millionth}
use Rattle.lent_mesh.specs.LentMesh.{lent_map, MeshRoom}
use Rattle.map_file.proofs.RunLaws.{Running}
use Rattle.map_run.proofs.run_lent.Given as goal

abbrev pub invariant-loop-n : goal.invariant-loop-n
invariant-loop-n l = MeshRoom l.mesh × Running millionth l.file l.count l.initial.notes (lent_map l.mesh) l.notes l.at l.n
