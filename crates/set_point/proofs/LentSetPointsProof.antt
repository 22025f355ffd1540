-- The value of what the arrays hold is that of the map (`LendingIsSubs`), and a set-point rests on the value and the place alone.
use Rattle.std.specs.Prelude.{◌≡◌, refl, Float, Result, ⊤}
use Rattle.std.proofs.Common.{sym, ap, ◌∙◌}
use Rattle.surface.specs.Evaluation.{value_of, answer_by, with_knots, subs_of}
use Rattle.surface.specs.SetPoint.{weighed}
use Rattle.surface.proofs.SetPointLaws.{both_set_points}
use Rattle.surface.specs.declared.evaluation.Evaluated.{Evaluated}
use Rattle.lent_surface.specs.Lent.{LentArrays, held_by, lend_of}
use Rattle.lent_surface.proofs.LentIsSubsProof.{lending_is_subs}
use Rattle.set_point.specs.LentSetPoints.{LentSetPoints}
use Rattle.control_point.specs.declared.refusal.Refusal.{Refusal}

-- what arrays hold keeps its knots
held_answer : (f : Float) (arrays : LentArrays) (s t : Float) (outcome : Result ⊤ Refusal) → outcome ≡ (with_knots f (held_by arrays)).outcome
    → answer_by outcome (value_of (held_by arrays) s t) ≡ (subs_of f (held_by arrays) s t).answer
unfolding subs_of with_knots
held_answer f arrays s t outcome is = ap (λ (o : Result ⊤ Refusal). answer_by o (value_of (held_by arrays) s t)) is

pub lent_set_points : LentSetPoints
unfolding with_knots
lent_set_points e f map s t done =
    let arrays = (lend_of e map).1 in
    both_set_points f e (held_by arrays) map s t (λ given given'. given.answer ≡ given'.answer)
    (ap weighed (sym (held_answer f arrays s t (lend_of e map).0.outcome done) ∙ sym (ap (λ (given : Evaluated). given.answer) (lending_is_subs e map s t))))
    refl
