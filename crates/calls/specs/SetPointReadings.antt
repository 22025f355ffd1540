-- Worked examples of the set-point, on the sample map: border 1.0, corners (0, 0, 0), (1, 0, 0), (1, 1, 1), (0, 1, 1), at a closeness of a millionth. Document 01's reading at (5.0, 0.5) is among them:
-- the evaluation has the weight 0.0, and the set-point is refused 20. Refused 20, the map is as it was, with no knots kept, and with those kept that an evaluation built.
use Rattle.std.specs.Prelude.{ℕ, ◌≡◌, true, false, Float, Err, Ok}
use Rattle.std.specs.Float.{nan, inf, binary64}
use Rattle.std.specs.Float.Ieee.{of_bits}
use Rattle.float64.specs.Literals.{zero_literal, one_literal}
use Rattle.control_point.specs.Small.{millionth}
use Rattle.control_point.specs.declared.refusal.Refusal.TheVariants.{OffMap}
use Rattle.t_mesh.specs.declared.t_mesh.Tmesh.{Tmesh}
use Rattle.surface.specs.Evaluation.{evaluation_number, subs_of}
use Rattle.surface.specs.SetPoint.{set_point}
use Rattle.calls.specs.Calls.{pulling, map_after}
use Rattle.calls.specs.ExampleValues.{minus_zero, half}
use Rattle.calls.specs.NotEmpty.{plate, evaluated_plate}

-- 5.0; the floats beside 0 and beside 1
abbrev pub five : Float
five = of_bits binary64 0x4014_0000_0000_0000

abbrev pub below_zero : Float
below_zero = of_bits binary64 0x8000_0000_0000_0001

abbrev pub above_zero : Float
above_zero = of_bits binary64 1

abbrev pub below_one : Float
below_one = of_bits binary64 0x3fef_ffff_ffff_ffff

abbrev pub above_one : Float
above_one = of_bits binary64 0x3ff0_0000_0000_0001

-- a point's pull set to 0.0, and so that of every corner
abbrev pub let_go : Tmesh → ℕ → Tmesh
let_go map n = map_after millionth map (pulling n zero_literal)

abbrev pub weightless_plate : Tmesh
weightless_plate = let_go (let_go (let_go (let_go plate 0) 1) 2) 3

-- refused 20, with the map as it was
abbrev pub OffAt : Tmesh → Float → Float → Type 0
OffAt map s t = set_point millionth map s t ≡ record { answer = Err OffMap; map = map }

-- answered a number, with the knots then kept
abbrev pub AnsweredAt : ℕ → Tmesh → Float → Float → Type 0
AnsweredAt number map s t = (evaluation_number (set_point millionth map s t).answer ≡ number) × ((set_point millionth map s t).map.kept ≡ true)

pub record SetPointReadings : Type 0 where
  -- (5.0, 0.5)
  pub beyond : (subs_of millionth plate five half).answer ≡ Ok (record { x = nan; y = nan; z = nan; weight = zero_literal })
  pub beyond_off : OffAt plate five half
  -- no knots are kept before, and with knots kept it is the same
  pub none_kept : plate.kept ≡ false
  pub kept : evaluated_plate.kept ≡ true
  pub with_knots_lem : OffAt evaluated_plate five half
  -- beside the map, in s and in t, and far from it
  pub s_above : OffAt plate above_one half
  pub t_above : OffAt plate half above_one
  pub s_below : OffAt plate below_zero half
  pub t_below : OffAt plate half below_zero
  pub s_infinite : OffAt plate (inf false) half
  pub t_infinite : OffAt plate half (inf true)
  pub s_not_a_number : OffAt plate nan half
  pub t_not_a_number : OffAt plate half nan
  -- the ends, and the floats beside them on the map
  pub least : AnsweredAt 0 plate zero_literal zero_literal
  pub minus_zero_lem : AnsweredAt 0 plate minus_zero minus_zero
  pub most : AnsweredAt 0 plate one_literal one_literal
  pub beside : AnsweredAt 0 plate above_zero below_one
  -- without weight: 20 off the map, 15 on it
  pub weightless_off : OffAt weightless_plate five half
  pub weightless : AnsweredAt 15 weightless_plate half half
