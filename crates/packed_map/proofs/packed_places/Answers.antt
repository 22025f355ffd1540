-- `packed_places` meets its contract: the places below n stand in the array.
use mathlib.Core.Path.{◌≡◌}
use native.Mathlib.Omega.{arith}
use Rattle.t_mesh.specs.Tmesh.{no_place}
use Rattle.lent_mesh.specs.LentMesh.{unpulled_at}
use Rattle.values.proofs.ValuesLaws.{stored_all}
use Rattle.packed_map.proofs.packed_places.Goals as goal

pub returns : goal.returns
returns c =
    let all : c.loop-n.n ≡ 128 = omega arith in
    stored_all (unpulled_at c.args.mesh.now.positions) no_place 128 c.loop-n.n c.loop-n.places all c.loop-n.invariant
