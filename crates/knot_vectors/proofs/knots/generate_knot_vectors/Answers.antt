-- `generate_knot_vectors` meets its contract: the filled arrays are the store's sides, and the map keeps what was built over them and its index, or is as it was.
use mathlib.Core.Path.{◌≡◌, ◌∙◌, ap}
use lib.Ieee.{Float}
use Rattle.control_point.specs.Small.{millionth}
use Rattle.control_point.specs.Told.{outcome_told}
use Rattle.control_point.proofs.ToldLaws.{beside}
use Rattle.t_mesh.specs.declared.t_mesh.Tmesh.{Tmesh}
use Rattle.knot_vectors.specs.Knots.{all_knots, held_knots, generate_knot_vectors}
use Rattle.knot_vectors.proofs.KnotsLaws.{keeping_done, keeping_refused}
use Rattle.knot_vectors.specs.Table.{generated_table}
use Rattle.knot_vectors.proofs.TableLaws.{generated_told}
use Rattle.knot_vectors.specs.declared.knots.Generated.{Generated}
use Rattle.knot_vectors.specs.declared.knots.ListedKnots.{ListedKnots}
use Rattle.knot_vectors.proofs.knots.generate_knot_vectors.Goals as goal

-- what was built, with the closeness of a map that states none
built : (map : Tmesh) (held : ListedKnots) (e : Float) → held ≡ held_knots map.knots (all_knots e map) → e ≡ millionth → held ≡ held_knots map.knots (all_knots millionth map)
built map held e is close = is ∙ ap (λ (x : Float). held_knots map.knots (all_knots x map)) close

-- both clauses, by the equation
promised : (map : Tmesh) (r : Generated) → r ≡ generate_knot_vectors millionth map → (r ≡ generate_knot_vectors millionth map) × (outcome_told r.outcome ≡ generated_table millionth map)
promised map r = beside (λ (x : Generated). outcome_told x.outcome) _ _ (generated_told millionth map) r

pub returns-in-Err : goal.returns-in-Err
unfolding generate_knot_vectors
returns-in-Err c =
    let all = (let a = c.args in
    promised a.map _
    (keeping_refused a.map (all_knots millionth a.map) _ (built a.map _ _ c.listed_knots-built.ensures c.closeness.ensures) c.in-Err.refusal c.in-Err.is)) in record { is = all.0; told = all.1 }

pub returns : goal.returns
unfolding generate_knot_vectors
returns c =
    let all = (let a = c.args in
    promised a.map _
    (keeping_done a.map (all_knots millionth a.map) _ (built a.map _ _ c.listed_knots-built.ensures c.closeness.ensures) c.in_default.is _ c.index_of-index.ensures)) in record { is = all.0; told = all.1 }
