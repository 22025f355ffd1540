-- Lent, a map is evaluated as it is: the arrays hold what an evaluation reads of the map, and where nothing is lent the answer is the refusal.
use Rattle.std.specs.Prelude.{◌≡◌, refl, Float, Err, Ok, Result, ⊤}
use Rattle.std.proofs.Common.{sym, ap}
use Rattle.surface.specs.Evaluation.{answer_by, value_of, with_knots, subs_of}
use Rattle.t_mesh.specs.declared.t_mesh.Tmesh.{Tmesh}
use Rattle.lent_surface.specs.Lent.{held_by, lent_after, lend_of}
use Rattle.lent_surface.proofs.LentLaws.{lent_value}
use Rattle.lent_surface.specs.LentIsSubs.{LendingIsSubs}
use Rattle.control_point.specs.declared.refusal.Refusal.{Refusal}
use Rattle.surface.specs.declared.evaluation.Evaluation.{Evaluation}

-- an answer by what is lent
answer_by_lem : (outcome : Result ⊤ Refusal) (own : Tmesh) (s t : Float) → answer_by outcome (value_of own s t) ≡ answer_by outcome (value_of (held_by (lent_after outcome own)) s t)
answer_by_lem (Ok tt) own s t = ap (answer_by (Ok tt)) (sym (lent_value own s t))
answer_by_lem (Err refusal) own s t = refl

pub lending_is_subs : LendingIsSubs
unfolding subs_of lend_of
lending_is_subs e map s t =
    ap (λ (x : Result Evaluation Refusal). record { answer = x; map = (with_knots e map).map }) (answer_by_lem (with_knots e map).outcome (with_knots e map).map s t)
