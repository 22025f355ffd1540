-- `new` meets its contract: it is the definition, array by array.
use Rattle.t_mesh.specs.Tmesh.{new_tmesh}
use Rattle.t_mesh.proofs.t_mesh.Tmesh.new.Goals as goal

pub returns : goal.returns
unfolding new_tmesh
returns c =
    rw (
      c.corner_store-store.ensures,
      c.unpulled-places.ensures,
      c.unpulled.ensures,
      c.unpulled-2.ensures,
      c.unpulled-3.ensures,
      c.unpulled-4.ensures,
    )
