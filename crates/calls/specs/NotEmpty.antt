-- The theorem of FullStroke is not empty. On a map with border 1.0, at a closeness of a millionth: a list of calls that meets its
-- premises on the first axis and whose evaluation and set-point are exactly 1.0 there; and one that meets them on every axis, in which a torn point
-- at 7.0 stands in the mesh, linked and not listed, and whose evaluation has a positive and finite weight and lies in 0 to 1.
-- Torn insertions are withdrawn where the call says so: the same insertion is then answered the same and leaves the map as it was, whether it keeps knots or not.
-- A corner's pull of 3.0 draws an evaluation towards the corner; settings of pulls are refused 11 and 17, and then change nothing; −0.0 is set, and a torn point's
-- pull.
use Rattle.std.specs.Prelude.{ℕ, ◌≡◌, true, false, List, [], ◌∷◌, T, Float, Ok}
use Rattle.std.specs.Float.{nan, inf, binary64}
use Rattle.std.specs.Float.Ieee.{of_bits, lt}
use Rattle.float64.specs.Literals.{zero_literal, one_literal}
use Rattle.float64.specs.Sign.{0f}
use Rattle.control_point.specs.Point.{minus_one}
use Rattle.control_point.specs.Small.{millionth}
use Rattle.control_point.specs.Told.{outcome_number}
use Rattle.control_point.specs.declared.t_mesh_control_point.Side.TheVariants.{Link}
use Rattle.control_point.specs.declared.t_mesh_direction.TmeshDirection.TheVariants.{Right}
use Rattle.store.specs.Store.{store_sides}
use Rattle.insertion.specs.declared.insertion.Insertion.TheVariants.{Done, Torn}
use Rattle.t_mesh.specs.Tmesh.{Axis, X, position_of, pull_of, store_of, is_listed, new_tmesh}
use Rattle.t_mesh.specs.declared.t_mesh.Position.{Position}
use Rattle.t_mesh.specs.declared.t_mesh.Tmesh.{Tmesh}
use Rattle.pull.specs.Pull.{set_pull}
use Rattle.surface.specs.Evaluation.{on_axis}
use Rattle.surface.specs.declared.evaluation.Evaluation.{Evaluation}
use Rattle.calls.specs.Calls.{Call, insertion, evaluation, set_point_call, pulling, inserted, evaluated, pulled, answer_to, map_after, run_of}
use Rattle.calls.specs.FullStroke.{InUnit, Premises}
use Rattle.calls.specs.ExampleValues.{minus_zero, half, three, seven, position_at}

-- the weight of a value is positive and finite
abbrev pub Weighty : Evaluation → Type 0
Weighty value = T (lt 0f value.weight) × T (lt value.weight (inf false))

-- ---- exactly 1.0: every corner and the point inserted lie at 1.0 on the first axis
-- the two lower corners and the point inserted between them, and the two upper corners
abbrev pub lower : Position
lower = position_at one_literal zero_literal zero_literal

abbrev pub upper : Position
upper = position_at one_literal one_literal one_literal

-- an insertion, and an evaluation and the set-point in the middle
abbrev pub full_calls : List Call
full_calls = insertion false 0 Right half lower ∷ (evaluation half half ∷ (set_point_call half half ∷ []))

-- what both answer: 1.0 on the first axis
abbrev pub full : Evaluation
full =
    record {
      x = one_literal;
      y = of_bits binary64 0x3fde_f7bd_ef7b_def8;
      z = of_bits binary64 0x3fde_f7bd_ef7b_def8;
      weight = of_bits binary64 0x3fed_1000_0000_0000;
    }

-- the calls with their answers
abbrev pub FullRun : Type 0
FullRun =
    run_of millionth (new_tmesh one_literal lower lower upper upper) full_calls
    ≡ record { call = insertion false 0 Right half lower; answer = inserted (Ok (Done 1 0)) }
    ∷ (record { call = evaluation half half; answer = evaluated (Ok full) } ∷ (record { call = set_point_call half half; answer = evaluated (Ok full) } ∷ []))

-- the premises hold, and the evaluation and the set-point are exactly 1.0 with a positive and finite weight
pub record FullStrokeTouched : Type 0 where
  pub premises : Premises millionth one_literal lower lower upper upper X full_calls
  pub run : FullRun
  pub weighty : Weighty full

-- ---- a torn point at 7.0 on every axis, in the map of the example file
-- its four corners, and the map
abbrev pub at_bottom_left : Position
at_bottom_left = position_at zero_literal zero_literal zero_literal

abbrev pub at_bottom_right : Position
at_bottom_right = position_at one_literal zero_literal zero_literal

abbrev pub at_top_right : Position
at_top_right = position_at one_literal one_literal one_literal

abbrev pub at_top_left : Position
at_top_left = position_at zero_literal one_literal one_literal

abbrev pub plate : Tmesh
plate = new_tmesh one_literal at_bottom_left at_bottom_right at_top_right at_top_left

-- a position past full stroke, and an insertion of it that is torn
abbrev pub outside : Position
outside = position_at seven seven seven

abbrev pub tearing : Call
tearing = insertion false 0 Right zero_literal outside

-- that insertion, and an evaluation in the middle
abbrev pub torn_calls : List Call
torn_calls = tearing ∷ (evaluation half half ∷ [])

-- what the evaluation answers
abbrev pub inside : Evaluation
inside =
    record {
      x = of_bits binary64 0x3fe2_6666_6666_6666;
      y = of_bits binary64 0x3fe8_0000_0000_0000;
      z = of_bits binary64 0x3fe8_0000_0000_0000;
      weight = of_bits binary64 0x3fe2_c000_0000_0000;
    }

-- the calls with their answers
abbrev pub TornRun : Type 0
TornRun =
    run_of millionth plate torn_calls
    ≡ record { call = tearing; answer = inserted (Ok (Torn 1 0)) }
    ∷ (record { call = evaluation half half; answer = evaluated (Ok inside) } ∷ [])

-- the torn point stands in the mesh with its position, linked from point 0 at 0.0, and is not listed
abbrev pub TornStands : Type 0
TornStands =
    (position_of (map_after millionth plate tearing) 4 ≡ outside)
    × ((store_sides (store_of (map_after millionth plate tearing)) 0 Right ≡ Link 4 zero_literal)
    × (is_listed (map_after millionth plate tearing) 4 ≡ false))

-- the premises hold on every axis, the torn point stands in the mesh, and the evaluation lies in 0 to 1
pub record TornPointPassedOver : Type 0 where
  pub premises : (axis : Axis) → Premises millionth one_literal at_bottom_left at_bottom_right at_top_right at_top_left axis torn_calls
  pub run : TornRun
  pub stands : TornStands
  pub weighty : Weighty inside
  pub in_unit_lem : (axis : Axis) → InUnit (on_axis axis inside)

-- ---- the same insertion, withdrawn
abbrev pub withdrawing : Call
withdrawing = insertion true 0 Right zero_literal outside

-- on a map it is answered torn, with the same side opened, and the map is left as it was
abbrev pub LeavesMap : Tmesh → Type 0
LeavesMap map = (answer_to millionth map withdrawing ≡ inserted (Ok (Torn 1 0))) × (map_after millionth map withdrawing ≡ map)

-- the map after an evaluation, which keeps the knots that it built
abbrev pub evaluated_plate : Tmesh
evaluated_plate = map_after millionth plate (evaluation half half)

-- so it is on the fresh map, and on the one that keeps knots
pub record WithdrawnLeavesMap : Type 0 where
  pub fresh : LeavesMap plate
  pub keeps : evaluated_plate.kept ≡ true
  pub with_knots_lem : LeavesMap evaluated_plate

-- ---- pulls, on the same map
-- an evaluation in the middle, the pull of the corner at (1, 1, 1) set to 3.0, and the evaluation again
abbrev pub pulled_calls : List Call
pulled_calls = evaluation half half ∷ (pulling 2 three ∷ (evaluation half half ∷ []))

-- what the evaluations answer: 0.5 on each axis, and then two thirds
abbrev pub between : Evaluation
between = record { x = half; y = half; z = half; weight = of_bits binary64 0x3fec_2000_0000_0000 }

abbrev pub drawn : Evaluation
drawn =
    record {
      x = of_bits binary64 0x3fe5_5555_5555_5555;
      y = of_bits binary64 0x3fe5_5555_5555_5555;
      z = of_bits binary64 0x3fe5_5555_5555_5555;
      weight = of_bits binary64 0x3ff5_1800_0000_0000;
    }

-- the calls with their answers
abbrev pub PulledRun : Type 0
PulledRun =
    run_of millionth plate pulled_calls
    ≡ record { call = evaluation half half; answer = evaluated (Ok between) }
    ∷ (record { call = pulling 2 three; answer = pulled (Ok tt) } ∷ (record { call = evaluation half half; answer = evaluated (Ok drawn) } ∷ []))

-- the premises hold, and the evaluation lies where the pull draws it, with a positive and finite weight
pub record PullMovesGate : Type 0 where
  pub premises : (axis : Axis) → Premises millionth one_literal at_bottom_left at_bottom_right at_top_right at_top_left axis pulled_calls
  pub run : PulledRun
  pub weighty : Weighty drawn

-- a setting that is refused by a number and leaves the map as it was
abbrev pub TurnedAway : ℕ → ℕ → Float → Type 0
TurnedAway number n pull = (outcome_number (set_pull plate n pull).outcome ≡ number) × ((set_pull plate n pull).map ≡ plate)

-- one that is done
abbrev pub SetOn : Tmesh → ℕ → Float → Type 0
SetOn map n pull = (outcome_number (set_pull map n pull).outcome ≡ 0) × (pull_of (set_pull map n pull).map n ≡ pull)

pub record PullsAnswered : Type 0 where
  -- a number never made: 11, also where the pull is a NaN
  pub unmade : TurnedAway 11 4 three
  pub unmade_first : TurnedAway 11 4 nan
  -- −1.0, infinity and a NaN: 17
  pub negative : TurnedAway 17 2 minus_one
  pub infinite : TurnedAway 17 2 (inf false)
  pub not_a_number : TurnedAway 17 2 nan
  -- −0.0 is set, and so is the pull of the torn point, which is not listed
  pub minus_zero_lem : SetOn plate 2 minus_zero
  pub torn : SetOn (map_after millionth plate tearing) 4 three

-- all of these
abbrev pub NotEmpty : Type 0
NotEmpty = FullStrokeTouched × (TornPointPassedOver × (WithdrawnLeavesMap × (PullMovesGate × PullsAnswered)))
