-- `packed_places` meets its contract: the places below n stand in the array.
use Rattle.t_mesh.specs.Tmesh.{no_place}
use Rattle.lent_mesh.specs.LentMesh.{unpulled_at}
use Rattle.values.proofs.ValuesLaws.{StoredTo}
use Rattle.packed_map.proofs.packed_places.Given as goal

abbrev pub invariant-loop-n : goal.invariant-loop-n
invariant-loop-n l = StoredTo (unpulled_at l.mesh.positions) no_place 128 l.n l.places
