-- Laws of the set-point: what holds of its two ways, off the map and on it, holds of it; a value is one of the evaluation, with a weight; and it tells what its table says.
use Rattle.std.specs.Prelude.{◌≡◌, true, false, T, Float, Err, Ok, Result, ⊤}
use Rattle.std.proofs.Math.Path.{refl, ap}
use Rattle.std.proofs.Common.{sym, ◌∙◌, subst}
use Rattle.std.proofs.Math.Bool.{Bool, cond}
use Rattle.counting.proofs.BoolLaws.{cond_case}
use Rattle.control_point.specs.Told.{unless, refused_or}
use Rattle.control_point.specs.declared.refusal.Refusal.TheVariants.{NoWeight}
use Rattle.t_mesh.specs.declared.t_mesh.Tmesh.{Tmesh}
use Rattle.knot_vectors.specs.Knots.{generate_knot_vectors}
use Rattle.knot_vectors.specs.declared.knots.Generated.{Generated}
use Rattle.surface.specs.Evaluation.{value_told, evaluation_told, value_of, answer_by, evaluated_by, with_knots, with_knots_table, subs_of}
use Rattle.surface.proofs.EvaluationLaws.{with_knots_told}
use Rattle.surface.specs.SetPoint.{on_map, weighty, where_weighty, where_weighty_table, weighed, weighed_by, unevaluated, set_point, set_point_table}
use Rattle.surface.specs.declared.evaluation.Evaluation.{Evaluation}
use Rattle.surface.specs.declared.evaluation.Evaluated.{Evaluated}
use Rattle.control_point.specs.declared.refusal.Refusal.{Refusal}

-- ---- the weight
-- the value, or 15, as the test says
pub where_weighty_by : (value : Evaluation) (b : Bool) → weighty value ≡ b → cond b (Ok value) (Err NoWeight) ≡ where_weighty value
unfolding where_weighty
where_weighty_by value b h = ap (λ (test : Bool). cond test (Ok value) (Err NoWeight)) (sym h)

pub where_weighty_told : (value : Evaluation) → evaluation_told (where_weighty value) ≡ where_weighty_table value
unfolding where_weighty
where_weighty_told value = by_test (weighty value)
  where
    by_test : (b : Bool) → evaluation_told (cond b (Ok value) (Err NoWeight)) ≡ unless 15 b (value_told value)
    by_test true = refl
    by_test false = refl

-- whether an answer is a value, and the value that it is
abbrev pub is_value : Result Evaluation Refusal → Type 0
is_value (Ok value) = Unit {0}
is_value (Err refusal) = ⊥

abbrev pub value_in : Evaluation → Result Evaluation Refusal → Evaluation
value_in other (Ok value) = value
value_in other (Err refusal) = other

-- one that has passed is the evaluation's, and its weight is positive and finite
weighed_is : (answer : Result Evaluation Refusal) (value : Evaluation) → weighed answer ≡ Ok value → (answer ≡ Ok value) × T (weighty value)
unfolding where_weighty
weighed_is (Ok own) value is = by_test (weighty own) refl is
  where
    by_test : (b : Bool) → weighty own ≡ b → cond b (Ok own) (Err NoWeight) ≡ Ok value → ◌≡◌ {A = Result Evaluation Refusal} (Ok own) (Ok value) × T (weighty value)
    by_test true h same = (same, subst (λ (v : Evaluation). T (weighty v)) (ap (value_in own) same) (subst T (sym h) tt))
    by_test false h same = absurd (subst is_value (sym same) tt)
weighed_is (Err refusal) value is = absurd (subst is_value (sym is) tt)

-- ---- the set-point
module _ (e : Float) (map : Tmesh) (s t : Float) where
  pub set_point_on : (evaluated : Evaluated) → evaluated ≡ subs_of e map s t → on_map s t ≡ true → weighed_by evaluated ≡ set_point e map s t
  unfolding set_point
  set_point_on evaluated is on = ap weighed_by is ∙ ap (λ (b : Bool). cond b (weighed_by (subs_of e map s t)) (unevaluated map)) (sym on)

  pub set_point_off : on_map s t ≡ false → unevaluated map ≡ set_point e map s t
  unfolding set_point
  set_point_off off = ap (λ (b : Bool). cond b (weighed_by (subs_of e map s t)) (unevaluated map)) (sym off)

  -- of a map that keeps knots, on it
  pub set_point_kept : map.kept ≡ true → on_map s t ≡ true → (answer : Result Evaluation Refusal) → answer ≡ where_weighty (value_of map s t) → answer ≡ (set_point e map s t).answer
  unfolding subs_of with_knots
  set_point_kept kept on answer is =
      is
      ∙ ap (λ (b : Bool). weighed (evaluated_by (with_knots_by b).outcome (with_knots_by b).map s t).answer) (sym kept)
      ∙ ap (λ (given : Evaluated). given.answer) (set_point_on (subs_of e map s t) refl on)
    where
      with_knots_by : Bool → Generated
      with_knots_by b = cond b (record { outcome = Ok tt; map = map }) (generate_knot_vectors e map)

  -- what holds of both ways holds of it
  pub set_point_case : (Holds : Evaluated → Type 0) → (on_map s t ≡ true → Holds (weighed_by (subs_of e map s t))) → (on_map s t ≡ false → Holds (unevaluated map))
      → Holds (set_point e map s t)
  unfolding set_point
  set_point_case Holds on off = cond_case (on_map s t) Holds _ _ on off

  -- of the map that it leaves
  pub set_point_leaves : (Holds : Tmesh → Type 0) → Holds map → Holds (subs_of e map s t).map → Holds (set_point e map s t).map
  set_point_leaves Holds before after = set_point_case (λ given. Holds given.map) (λ _. after) (λ _. before)

  -- of an answer that is a value
  pub set_point_is : (value : Evaluation) → (set_point e map s t).answer ≡ Ok value → T (on_map s t) × (((subs_of e map s t).answer ≡ Ok value) × T (weighty value))
  set_point_is value =
      set_point_case (λ given. given.answer ≡ Ok value → T (on_map s t) × (((subs_of e map s t).answer ≡ Ok value) × T (weighty value)))
      (λ on is. (subst T (sym on) tt, weighed_is (subs_of e map s t).answer value is))
      (λ off is. absurd (subst is_value (sym is) tt))

  pub set_point_told : evaluation_told (set_point e map s t).answer ≡ set_point_table e map s t
  unfolding set_point subs_of
  set_point_told = by_place (on_map s t)
    where
      answer_told_lem : (outcome : Result ⊤ Refusal) (value : Evaluation) → evaluation_told (weighed (answer_by outcome value)) ≡ refused_or outcome (where_weighty_table value)
      answer_told_lem (Ok tt) value = where_weighty_told value
      answer_told_lem (Err refusal) value = refl

      by_place : (b : Bool) → evaluation_told (cond b (weighed_by (subs_of e map s t)) (unevaluated map)).answer ≡ unless 20 b (with_knots_table e map (λ own. where_weighty_table (value_of own s t)))
      by_place true = answer_told_lem (with_knots e map).outcome (value_of (with_knots e map).map s t) ∙ with_knots_told e map (λ own. where_weighty_table (value_of own s t))
      by_place false = refl

-- of two maps at one place, with a closeness each: what holds of both on it, and of both off it, holds of their set-points
pub both_set_points : (e f : Float) (one other : Tmesh) (s t : Float) (Hold : Evaluated → Evaluated → Type 0)
    → Hold (weighed_by (subs_of e one s t)) (weighed_by (subs_of f other s t))
    → Hold (unevaluated one) (unevaluated other)
    → Hold (set_point e one s t) (set_point f other s t)
unfolding set_point
both_set_points e f one other s t Hold on off = by_place (on_map s t)
  where
    by_place : (b : Bool) → Hold (cond b (weighed_by (subs_of e one s t)) (unevaluated one)) (cond b (weighed_by (subs_of f other s t)) (unevaluated other))
    by_place true = on
    by_place false = off
