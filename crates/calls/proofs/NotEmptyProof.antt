-- What NotEmpty says, by computing: every call runs on closed values.
use Rattle.std.specs.Prelude.{List, refl, Float, Err, Ok}
use Rattle.std.proofs.Common.{sym, subst}
use Rattle.std.specs.Float.Ieee.{of_bits, of_fields, add, sub, mul, div, sum, round, units, odd, size, span, climb, neg, le, lt, eq}
use Rattle.float64.specs.Literals.{zero_literal, one_literal}
use Rattle.float64.specs.Unit.{in_unit}
use Rattle.basis.specs.Formula.{sum_of_terms, formula}
use Rattle.control_point.specs.Connect.{connectable}
use Rattle.control_point.specs.Point.{is_made}
use Rattle.control_point.specs.Sides.{sides_of}
use Rattle.control_point.specs.Small.{millionth, small}
use Rattle.navigation.specs.Walk.{onward, walk_of}
use Rattle.search.specs.Search.{judge_at, seek_from, find_inferred_connection}
use Rattle.store.specs.Store.{connect_points}
use Rattle.insertion.specs.Insert.{checked, checked_intervals, placed, new_side, first_side, with_first, second_side, sided, insert_point}
use Rattle.insertion.specs.declared.insertion.Insertion.TheVariants.{Done, Torn}
use Rattle.ray_approach.specs.Approach.{approach_in, approach_of}
use Rattle.ray.specs.Ray.{ray_from, ray_of}
use Rattle.ray.specs.Knots.{knots_at, point_knot_vectors}
use Rattle.t_mesh.specs.Tmesh.{Axis, X, Y, Z, coordinate, new_tmesh}
use Rattle.t_mesh.specs.Insertion.{add_control_point}
use Rattle.pull.specs.Pull.{set_pull}
use Rattle.knot_vectors.specs.Knots.{rows_from, all_knots, generate_knot_vectors}
use Rattle.surface.specs.Evaluation.{on_axis, sum_from, value_of, with_knots, subs_of}
use Rattle.surface.specs.SetPoint.{where_weighty, set_point}
use Rattle.calls.specs.Calls.{Call, insertion, evaluation, set_point_call, question, pulling, Answer, inserted, evaluated, questioned, pulled, Event, run_of}
use Rattle.calls.specs.FullStroke.{InUnit, Each, DoneInUnit, Premises}
use Rattle.calls.specs.ExampleValues.{position_at}
use Rattle.calls.specs.NotEmpty.{FullRun, FullStrokeTouched, inside, at_bottom_left, at_bottom_right, at_top_right, at_top_left, plate, TornRun, TornStands, TornPointPassedOver, WithdrawnLeavesMap, pulled_calls, PulledRun, PullMovesGate, PullsAnswered, NotEmpty}

-- ---- the premises on done insertions, of single events
abbrev PlacedInUnit : Axis → Call → Type 0
PlacedInUnit axis (insertion withdraws con d ratio position) = InUnit (coordinate axis position)
PlacedInUnit axis (evaluation s t) = Unit {0}
PlacedInUnit axis (set_point_call s t) = Unit {0}
PlacedInUnit axis (question cell) = Unit {0}
PlacedInUnit axis (pulling n pull) = Unit {0}

abbrev NotDone : Answer → Type 0
NotDone (inserted (Ok (Done opened links))) = ⊥
NotDone (inserted (Ok (Torn opened links))) = Unit {0}
NotDone (inserted (Err refusal)) = Unit {0}
NotDone (evaluated answer) = Unit {0}
NotDone (questioned answer) = Unit {0}
NotDone (pulled outcome) = Unit {0}

in_unit_event : (axis : Axis) (event : Event) → PlacedInUnit axis event.call → DoneInUnit axis event
in_unit_event axis event h withdraws con d ratio position opened links call answer = subst (PlacedInUnit axis) call h

other_event : (axis : Axis) (event : Event) → NotDone event.answer → DoneInUnit axis event
other_event axis event h withdraws con d ratio position opened links call answer = absurd (subst NotDone answer h)

zero_in_unit : InUnit zero_literal
unfolding of_bits of_fields le lt eq
zero_in_unit = (tt, tt)

one_in_unit : InUnit one_literal
unfolding of_bits of_fields le lt eq
one_in_unit = (tt, tt)

-- ---- the calls
computed : FullRun × (TornRun × (TornStands × (WithdrawnLeavesMap × (PulledRun × PullsAnswered))))
unfolding run_of new_tmesh add_control_point insert_point in_unit checked checked_intervals placed new_side first_side with_first second_side sided
    connect_points connectable is_made sides_of millionth small find_inferred_connection seek_from judge_at walk_of onward subs_of with_knots set_pull where_weighty set_point
    generate_knot_vectors all_knots rows_from point_knot_vectors knots_at ray_of ray_from approach_of approach_in value_of sum_from formula sum_of_terms
    le lt eq of_bits of_fields add sub mul div sum round units odd size span climb neg
computed =
    let withdrawn : WithdrawnLeavesMap = record { fresh = (refl, refl); keeps = refl; with_knots_lem = (refl, refl) } in
    let pulls : PullsAnswered =
    record {
      unmade = (refl, refl);
      unmade_first = (refl, refl);
      negative = (refl, refl);
      infinite = (refl, refl);
      not_a_number = (refl, refl);
      minus_zero_lem = (refl, refl);
      torn = (refl, refl);
    } in
    (refl, (refl, ((refl, (refl, refl)), (withdrawn, (refl, pulls)))))

full_stroke_touched : FullStrokeTouched
unfolding of_bits of_fields lt
full_stroke_touched =
    record {
      premises = record {
        border = one_in_unit.0;
        bottom_left = one_in_unit;
        bottom_right = one_in_unit;
        top_right = one_in_unit;
        top_left = one_in_unit;
        done = subst (Each (DoneInUnit X)) (sym computed.0) (in_unit_event X _ one_in_unit, (other_event X _ tt, (other_event X _ tt, tt)));
      };
      run = computed.0;
      weighty = (tt, tt);
    }

corner_in_unit : (axis : Axis) (x y z : Float) → InUnit x → InUnit y → InUnit z → InUnit (coordinate axis (position_at x y z))
corner_in_unit X x y z a b c = a
corner_in_unit Y x y z a b c = b
corner_in_unit Z x y z a b c = c

inside_in_unit : (axis : Axis) → InUnit (on_axis axis inside)
unfolding of_bits of_fields le lt eq
inside_in_unit X = (tt, tt)
inside_in_unit Y = (tt, tt)
inside_in_unit Z = (tt, tt)

-- the premises on the plate, of calls whose insertions done are in 0 to 1
plate_premises : (axis : Axis) (calls : List Call) → Each (DoneInUnit axis) (run_of millionth plate calls)
    → Premises millionth one_literal at_bottom_left at_bottom_right at_top_right at_top_left axis calls
plate_premises axis calls done =
    record {
      border = one_in_unit.0;
      bottom_left = corner_in_unit axis zero_literal zero_literal zero_literal zero_in_unit zero_in_unit zero_in_unit;
      bottom_right = corner_in_unit axis one_literal zero_literal zero_literal one_in_unit zero_in_unit zero_in_unit;
      top_right = corner_in_unit axis one_literal one_literal one_literal one_in_unit one_in_unit one_in_unit;
      top_left = corner_in_unit axis zero_literal one_literal one_literal zero_in_unit one_in_unit one_in_unit;
      done = done;
    }

torn_point_passed_over : TornPointPassedOver
unfolding of_bits of_fields lt
torn_point_passed_over =
    record {
      premises = λ axis. plate_premises axis _ (subst (Each (DoneInUnit axis)) (sym computed.1.0) (other_event axis _ tt, (other_event axis _ tt, tt)));
      run = computed.1.0;
      stands = computed.1.1.0;
      weighty = (tt, tt);
      in_unit_lem = inside_in_unit;
    }

pull_moves_gate : PullMovesGate
unfolding of_bits of_fields lt
pull_moves_gate =
    record {
      premises = λ axis.
          plate_premises axis pulled_calls
          (subst (Each (DoneInUnit axis)) (sym computed.1.1.1.1.0) (other_event axis _ tt, (other_event axis _ tt, (other_event axis _ tt, tt))));
      run = computed.1.1.1.1.0;
      weighty = (tt, tt);
    }

pub not_empty : NotEmpty
not_empty = (full_stroke_touched, (torn_point_passed_over, (computed.1.1.1.0, (pull_moves_gate, computed.1.1.1.1.1))))
