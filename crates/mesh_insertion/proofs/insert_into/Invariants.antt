-- `insert_into` meets its contract: the arrays hold the made points of the mesh, and after the insertion those of the definition.
use Rattle.lent_points.specs.Lent.{lent_points, Room, FilledTo}
use Rattle.lent_points.proofs.LentLaws.{PackedTo}
use mathlib.Core.Path.{◌≡◌}
use Rattle.mesh_insertion.proofs.insert_into.Given as goal

abbrev pub invariant-loop-n : goal.invariant-loop-n
invariant-loop-n l =
    Room l.points × FilledTo l.n (lent_points l.points) l.inserted.mesh.points

abbrev pub invariant-loop-n-then-not-is_refused : goal.invariant-loop-n-then-not-is_refused
invariant-loop-n-then-not-is_refused l =
    (l.inserted.answer ≡ l.initial.inserted.answer)
    × ((l.inserted.mesh.places ≡ l.initial.inserted.mesh.places)
    × ((l.inserted.mesh.listed ≡ l.initial.inserted.mesh.listed) × PackedTo l.n (lent_points l.points) l.initial.inserted.mesh.points l.inserted.mesh.points))
