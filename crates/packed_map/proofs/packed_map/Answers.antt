-- `packed_map` meets its contract: the made points are packed over loose ones, and the places row by row.
use Rattle.lent_points.specs.Lent.{lent_points}
use Rattle.lent_mesh.specs.LentMesh.{unkept}
use Rattle.lent_mesh.proofs.LentMeshLaws.{packed_mesh}
use Rattle.packed_map.proofs.packed_map.Goals as goal

pub returns : goal.returns
unfolding unkept
returns c =
    let lent = c.args.mesh.now in
    packed_mesh (lent_points lent.points) lent.made lent.positions lent.listed _ _ c.packed_points-points.ensures c.packed_places.ensures
