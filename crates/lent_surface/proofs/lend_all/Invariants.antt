-- `lend_all` meets its contract: the points below n stand in the arrays, and the listing is stored whole.
use Prim.Native.Nat.{ℕ, ◌-◌}
use mathlib.Core.List.{[]}
use Rattle.t_mesh.specs.Tmesh.{no_place, place_under}
use Rattle.values.proofs.ValuesLaws.{StoredTo}
use Rattle.surface.specs.Evaluation.{knots_of}
use Rattle.lent_surface.specs.Lent.{place_row}
use Rattle.lent_surface.proofs.lend_all.Given as goal

abbrev pub invariant-loop-n : goal.invariant-loop-n
invariant-loop-n l =
    StoredTo (λ (m : ℕ). (knots_of l.map m).s) [] 128 l.n l.across
    × (StoredTo (λ (m : ℕ). (knots_of l.map m).t) [] 128 l.n l.upwards × StoredTo (λ (m : ℕ). place_row (place_under l.map m)) (place_row no_place) 128 l.n l.places)
