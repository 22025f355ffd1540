-- `lend` meets its contract: the knots are the definition's, and the arrays follow what came of them.
use mathlib.Core.Path.{◌≡◌}
use Rattle.control_point.specs.Small.{millionth}
use Rattle.control_point.specs.Told.{outcome_told}
use Rattle.control_point.proofs.ToldLaws.{beside}
use Rattle.t_mesh.specs.declared.t_mesh.Tmesh.{Tmesh}
use Rattle.knot_vectors.specs.declared.knots.Generated.{Generated}
use Rattle.lent_surface.specs.Lent.{LentArrays, lent, lend_of, lend_table}
use Rattle.lent_surface.proofs.LentLaws.{lend_done, lend_refused, lend_told}
use Rattle.lent_surface.proofs.lend.Goals as goal

-- both promises from the first
promised : (own : Tmesh) (r : Generated × LentArrays) → r ≡ lend_of millionth own → (r ≡ lend_of millionth own) × (outcome_told r.0.outcome ≡ lend_table millionth own)
promised own r = beside (λ (x : Generated × LentArrays). outcome_told x.0.outcome) (lend_of millionth own) (lend_table millionth own) (lend_told millionth own) r

pub returns-in-Err : goal.returns-in-Err
returns-in-Err c =
    let all = (let own = c.args.map in
    let l = c.lend_none.new in
    promised own _
    (lend_refused millionth own c.with_knots-built.result (lent l.across l.upwards l.places l.listed) c.with_knots-built.ensures _ c.in-Err.is c.lend_none.ensures)) in record { is = all.0; told = all.1 }

pub returns : goal.returns
returns c =
    let all = (let own = c.args.map in
    let l = c.lend_all.new in
    promised own _
    (lend_done millionth own c.with_knots-built.result (lent l.across l.upwards l.places l.listed) c.with_knots-built.ensures c.in_default.is c.lend_all.ensures)) in record { is = all.0; told = all.1 }
