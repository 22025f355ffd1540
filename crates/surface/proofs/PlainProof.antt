-- Without pulls: a product times 1.0 is that product, so the weights of the listed points agree; and the building of knots leaves the mesh, with its pulls.
use Rattle.std.specs.Prelude.{ℕ, ◌≡◌, refl, true, Float, get_or}
use Rattle.std.proofs.Common.{sym, ap, ◌∙◌, subst}
use Rattle.std.specs.Float.{binary64}
use Rattle.std.specs.Float.Ieee.{mul}
use Rattle.float64.specs.Literals.{one_literal}
use Rattle.float64.proofs.ProductLaws.{product_one}
use Rattle.t_mesh.specs.Tmesh.{no_place, listed_in}
use Rattle.t_mesh.specs.declared.t_mesh.Mesh.{Mesh}
use Rattle.t_mesh.specs.declared.t_mesh.Tmesh.{Tmesh}
use Rattle.surface.specs.Evaluation.{basis_of, weight_of, value_of, answer_by, with_knots, subs_of}
use Rattle.surface.proofs.EvaluationLaws.{value_alike, ready_mesh}
use Rattle.surface.specs.Plain.{plain_value, Unpulled, UnpulledIsPlain}
use Rattle.surface.specs.declared.evaluation.Evaluation.{Evaluation}

-- by the knots kept
value_plain : (map : Tmesh) → Unpulled map → (s t : Float) → value_of map s t ≡ plain_value map s t
unfolding value_of plain_value
value_plain map ones s t =
    value_alike map map (λ n h. refl) (weight_of map s t) (basis_of map s t)
    (λ n h listed. ap (mul binary64 (basis_of map s t n)) (ones n listed) ∙ product_one _ _)
    (λ n h listed. refl)

pub unpulled_is_plain : UnpulledIsPlain
unfolding subs_of
unpulled_is_plain e map s t ones =
    ap (λ (value : Evaluation). record { answer = answer_by (with_knots e map).outcome value; map = (with_knots e map).map })
    (value_plain (with_knots e map).map
    (subst (λ (mesh : Mesh). (n : ℕ) → listed_in mesh.listed n ≡ true → (get_or mesh.places n no_place).pull ≡ one_literal) (sym (ready_mesh e map)) ones)
    s t)
