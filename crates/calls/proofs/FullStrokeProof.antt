-- The theorem of FullStroke: `Tmesh::new` makes a sound map, every call keeps it sound, withdrawn or not, and every evaluation and every set-point of a sound map is in 0 to 1.
use Rattle.std.proofs.Math.Path.{refl}
use Rattle.std.proofs.Common.{ap, subst}
use mathlib.Core.List.{List, [], ◌∷◌}
use Rattle.std.specs.Prelude.{Float, Err, Ok, Result}
use Rattle.float64.proofs.SignLaws.{le→nonneg, nonneg→nonneg_or_nan}
use Rattle.t_mesh.specs.Tmesh.{Axis, new_tmesh}
use Rattle.t_mesh.specs.declared.t_mesh.Tmesh.{Tmesh}
use Rattle.surface.specs.SetPoint.{set_point}
use Rattle.calls.specs.Calls.{Call, insertion, evaluation, set_point_call, question, pulling, Answer, inserted, evaluated, questioned, pulled, Event, map_after, run_of}
use Rattle.calls.specs.FullStroke.{Each, DoneInUnit, EvaluationInUnit, SetPointInUnit, NeverPastFullStroke}
use Rattle.calls.specs.Sound.{Sound, AnswerInUnit, ValueInUnitAt}
use Rattle.calls.proofs.SoundLaws.{new_sound, insertion_sound, evaluation_sound, set_point_sound, question_sound, pulling_sound}
use Rattle.calls.proofs.WithdrawalLaws.{by_either_rule}
use Rattle.control_point.specs.declared.refusal.Refusal.{Refusal}
use Rattle.surface.specs.declared.evaluation.Evaluation.{Evaluation}

-- ---- what is said of an event, by its call and its answer
-- of the answer to a set-point; of any other call nothing
abbrev SaidOf : Axis → Call → Answer → Type 0
SaidOf axis (set_point_call s t) (evaluated answer) = ValueInUnitAt axis s t answer
SaidOf axis (set_point_call s t) (inserted answer) = Unit {0}
SaidOf axis (set_point_call s t) (questioned answer) = Unit {0}
SaidOf axis (set_point_call s t) (pulled outcome) = Unit {0}
SaidOf axis (insertion withdraws con d ratio position) answer = Unit {0}
SaidOf axis (evaluation s t) answer = Unit {0}
SaidOf axis (question cell) answer = Unit {0}
SaidOf axis (pulling n pull) answer = Unit {0}

abbrev InBoth : Axis → Event → Type 0
InBoth axis event = EvaluationInUnit axis event × SetPointInUnit axis event

module _ (axis : Axis) where
  event_in_both : (call : Call) (answer : Answer) → AnswerInUnit axis answer → SaidOf axis call answer → InBoth axis (record { call = call; answer = answer })
  event_in_both call answer h k = (
    (λ value equal. subst (AnswerInUnit axis) equal h),
    (λ s t value same equal. subst (λ (own : Call). SaidOf axis own (evaluated (Ok value))) same (subst (SaidOf axis call) equal k)),
  )

  -- a value that is in 0 to 1 is so whatever its weight
  answer_in_unit : (s t : Float) (answer : Result Evaluation Refusal) → ValueInUnitAt axis s t answer → AnswerInUnit axis (evaluated answer)
  answer_in_unit s t (Ok value) h = λ positive finite. h.1.1
  answer_in_unit s t (Err refusal) h = tt

  each_of_both : (events : List Event) → Each (InBoth axis) events → Each (EvaluationInUnit axis) events × Each (SetPointInUnit axis) events
  each_of_both [] h = (tt, tt)
  each_of_both (event ∷ rest) h = let more = each_of_both rest h.1 in ((h.0.0, more.0), (h.0.1, more.1))

-- ---- the list
module _ (axis : Axis) (e : Float) where
  run_in_unit : (calls : List Call) (map : Tmesh) → Sound axis map → Each (DoneInUnit axis) (run_of e map calls)
      → Each (InBoth axis) (run_of e map calls)
  unfolding run_of
  run_in_unit [] map sound h = tt
  run_in_unit (insertion withdraws con d ratio position ∷ rest) map sound h = (
    event_in_both axis _ _ tt tt,
    run_in_unit rest (map_after e map (insertion withdraws con d ratio position))
        (by_either_rule (Sound axis) withdraws e map con d ratio position sound
        (insertion_sound axis e map sound con d ratio position (λ opened links equal. h.0 withdraws con d ratio position opened links refl (ap inserted equal))))
        h.1,
  )
  run_in_unit (evaluation s t ∷ rest) map sound h =
      let evaluated = evaluation_sound axis e map sound s t in
      (event_in_both axis _ _ evaluated.0 tt, run_in_unit rest (map_after e map (evaluation s t)) evaluated.1 h.1)
  run_in_unit (set_point_call s t ∷ rest) map sound h =
      let given = set_point_sound axis e map sound s t in
      (event_in_both axis _ _ (answer_in_unit axis s t (set_point e map s t).answer given.0) given.0, run_in_unit rest (map_after e map (set_point_call s t)) given.1 h.1)
  run_in_unit (question cell ∷ rest) map sound h =
      (event_in_both axis _ _ tt tt, run_in_unit rest (map_after e map (question cell)) (question_sound axis e map sound cell) h.1)
  run_in_unit (pulling n pull ∷ rest) map sound h =
      (event_in_both axis _ _ tt tt, run_in_unit rest (map_after e map (pulling n pull)) (pulling_sound axis map sound n pull) h.1)

pub never_past_full_stroke : NeverPastFullStroke
never_past_full_stroke e w at_bottom_left at_bottom_right at_top_right at_top_left axis calls premises =
    each_of_both axis (run_of e (new_tmesh w at_bottom_left at_bottom_right at_top_right at_top_left) calls)
    (run_in_unit axis e calls (new_tmesh w at_bottom_left at_bottom_right at_top_right at_top_left)
    (new_sound axis w at_bottom_left at_bottom_right at_top_right at_top_left
    (nonneg→nonneg_or_nan w (le→nonneg w premises.border))
    premises.bottom_left
    premises.bottom_right
    premises.top_right
    premises.top_left)
    premises.done)
