-- The bound for files: a file's edits and one set-point are a list of calls, to which the bound over lists applies; what the call wrote of its answer is read
-- back as it was.
use Rattle.std.specs.Prelude.{ℕ, ◌≤◌, ◌<◌, ◌≡◌, refl, Bool, true, false, cond, T, leb, Float, length, Err, Ok, Result, ⊤}
use Rattle.std.proofs.Common.{sym, ap, ◌∙◌, arith, leb→le, lit<, length-append}
use Rattle.std.proofs.Math.Path.{subst}
use mathlib.Core.List.{List, [], ◌∷◌, ◌++◌, append_assoc}
use Rattle.std.specs.Float.{binary64}
use Rattle.std.specs.Float.Ieee.{of_bits, to_bits, le, fits}
use Rattle.std.specs.Float.Ieee.Bits.{to_bits-lt}
use Rattle.std.specs.Float.Ieee.Fits.{div-fits}
use Rattle.float64.proofs.BitsLaws.{read_back}
use Rattle.float64.specs.Sign.{0f}
use Rattle.big_endian.specs.BigEndian.{float_at}
use Rattle.big_endian.proofs.ReadBackLaws.{number_back}
use Rattle.big_endian.specs.Written.{written}
use Rattle.big_endian.proofs.WrittenLaws.{length_bytes}
use Rattle.control_point.specs.Refusal.{refusal_number}
use Rattle.control_point.specs.Small.{millionth}
use Rattle.control_point.specs.declared.refusal.Refusal.{Refusal}
use Rattle.control_point.specs.declared.refusal.Refusal.TheVariants.{Ratio, Foreign, OpenSide, BorderSide, Taken, Interval, Itself, Torn, Ring, Full, NoPoint, Length, Version, Heading, NoWeight, Short, Pull, Clash, Shut, OffMap, Seed, TooMany, UnlikeHeads, TooLong, Closeness, Ticks, Doubled}
use Rattle.t_mesh.specs.Tmesh.{Axis, X, Y, Z, coordinate, no_position}
use Rattle.t_mesh.specs.declared.t_mesh.Position.{Position}
use Rattle.t_mesh.specs.declared.t_mesh.Tmesh.{Tmesh}
use Rattle.surface.specs.Evaluation.{on_axis, evaluation_number, value_of, answer_by, with_knots, subs_of}
use Rattle.surface.specs.SetPoint.{set_point}
use Rattle.surface.proofs.SetPointLaws.{is_value, value_in, set_point_is}
use Rattle.surface.specs.declared.evaluation.Evaluation.{Evaluation}
use Rattle.calls.specs.Calls.{Call, insertion, evaluation, set_point_call, question, pulling, Answer, evaluated, run_of}
use Rattle.calls.specs.FullStroke.{InUnit, InUnitAt, Each, DoneInUnit as CallDoneInUnit, SetPointInUnit}
use Rattle.calls.proofs.FullStrokeProof.{never_past_full_stroke}
use Rattle.counting.proofs.BoolLaws.{cond_case}
use Rattle.soundness.specs.MapCalls.{answer_told}
use Rattle.map_format.specs.Format.{border_at, edits_at, file_withdraws, edit_count, version_of, is_version, Edit, edits_from, length_right, headings_right, checked_file}
use Rattle.map_file.specs.Run.{corner_of, fresh_map, edited, after_edits, edit_answers, edit_numbers, file_map, file_numbers, checked_set_point, file_set_point}
use Rattle.value_bytes.specs.Value.{bits_of, bytes_of_value}
use Rattle.gatemap_host.specs.SetPoint.{host_answer, buffer_after}
use Rattle.file_soundness.proofs.CallsLaws.{calls_of}
use Rattle.file_soundness.specs.Theorems.{DoneInUnit, place_of, map_of, FileNeverPastFullStroke}

-- ---- the list of calls
-- the edits, then one set-point
abbrev with_set_point : Bool → List Edit → Float → Float → List Call
with_set_point withdraws edits s t = calls_of withdraws edits ++ (set_point_call s t ∷ [])

abbrev is_insertion : Call → Type 0
is_insertion (insertion withdraws con d ratio position) = Unit {0}
is_insertion (evaluation s t) = ⊥
is_insertion (set_point_call s t) = ⊥
is_insertion (question cell) = ⊥
is_insertion (pulling n pull) = ⊥

abbrev position_in : Call → Position
position_in (insertion withdraws con d ratio position) = position
position_in (evaluation s t) = no_position
position_in (set_point_call s t) = no_position
position_in (question cell) = no_position
position_in (pulling n pull) = no_position

module _ (axis : Axis) (withdraws : Bool) (e s t : Float) where
  done_calls : (edits : List Edit) (map : Tmesh) → DoneInUnit axis edits (edit_numbers withdraws e map edits)
      → Each (CallDoneInUnit axis) (run_of e map (with_set_point withdraws edits s t))
  unfolding edit_answers calls_of run_of
  done_calls [] map done = ((λ rule con d ratio position opened links is answered. absurd (subst is_insertion (sym is) tt)), tt)
  done_calls (edit ∷ rest) map done = (
    (λ rule con d ratio position opened links is answered.
        subst (λ (own : Position). InUnit (coordinate axis own)) (ap position_in is) (done.0 (ap (λ (answer : Answer). (answer_told answer).number) answered))),
    done_calls rest (edited withdraws e map edit).map done.1,
  )

  -- what is said of the last call
  last_call : (edits : List Edit) (map : Tmesh) → Each (SetPointInUnit axis) (run_of e map (with_set_point withdraws edits s t))
      → SetPointInUnit axis (record { call = set_point_call s t; answer = evaluated (set_point e (after_edits withdraws e map edits) s t).answer })
  unfolding after_edits calls_of run_of
  last_call [] map each = each.0
  last_call (edit ∷ rest) map each = last_call rest (edited withdraws e map edit).map each.1

-- ---- the answer
-- a value of an evaluation is a quotient on each axis
quotient_fits : (axis : Axis) (map : Tmesh) (s t : Float) → T (fits binary64 (on_axis axis (value_of map s t)))
unfolding value_of
quotient_fits X map s t = div-fits binary64 _ _
quotient_fits Y map s t = div-fits binary64 _ _
quotient_fits Z map s t = div-fits binary64 _ _

answer_fits : (axis : Axis) (outcome : Result ⊤ Refusal) (map : Tmesh) (s t : Float) (value : Evaluation) → answer_by outcome (value_of map s t) ≡ Ok value
    → T (fits binary64 (on_axis axis value))
answer_fits axis (Ok tt) map s t value is = subst (λ (v : Evaluation). T (fits binary64 (on_axis axis v))) (ap (value_in value) is) (quotient_fits axis map s t)
answer_fits axis (Err refusal) map s t value is = absurd (subst is_value (sym is) tt)

value_fits : (axis : Axis) (e : Float) (map : Tmesh) (s t : Float) (value : Evaluation) → (subs_of e map s t).answer ≡ Ok value → T (fits binary64 (on_axis axis value))
unfolding subs_of
value_fits axis e map s t value is = answer_fits axis (with_knots e map).outcome (with_knots e map).map s t value is

-- no refusal has the number 0
pub numbered : (refusal : Refusal) → refusal_number refusal ≡ 0 → ⊥
numbered Ratio h = omega arith
numbered Foreign h = omega arith
numbered OpenSide h = omega arith
numbered BorderSide h = omega arith
numbered Taken h = omega arith
numbered Interval h = omega arith
numbered Itself h = omega arith
numbered Torn h = omega arith
numbered Ring h = omega arith
numbered Full h = omega arith
numbered NoPoint h = omega arith
numbered Length h = omega arith
numbered Version h = omega arith
numbered Heading h = omega arith
numbered NoWeight h = omega arith
numbered Short h = omega arith
numbered Pull h = omega arith
numbered Clash h = omega arith
numbered Shut h = omega arith
numbered OffMap h = omega arith
numbered Seed h = omega arith
numbered TooMany h = omega arith
numbered UnlikeHeads h = omega arith
numbered TooLong h = omega arith
numbered Closeness h = omega arith
numbered Ticks h = omega arith
numbered Doubled h = omega arith

-- ---- the buffer
-- a float that was written is read back
float_back : (x : Float) (before rest out : List ℕ) → T (fits binary64 x) → length (before ++ (bits_of x ++ rest)) ≤ length out
    → float_at (written out 0 (before ++ (bits_of x ++ rest))) (length before) ≡ x
float_back x before rest out fit room = ap (of_bits binary64) (number_back 8 (to_bits binary64 x) before rest out (to_bits-lt binary64 x fit) room) ∙ read_back x fit

length_value : (value : Evaluation) → length (bytes_of_value value) ≡ 32
length_value value =
    let x = bits_of value.x in
    let y = bits_of value.y in
    let z = bits_of value.z in
    let w = bits_of value.weight in
    omega (
      arith,
      length-append x (y ++ (z ++ w)),
      length-append y (z ++ w),
      length-append z w,
      length_bytes 8 (to_bits binary64 value.x),
      length_bytes 8 (to_bits binary64 value.y),
      length_bytes 8 (to_bits binary64 value.z),
      length_bytes 8 (to_bits binary64 value.weight),
    )

written_back : (axis : Axis) (value : Evaluation) (out : List ℕ) → T (fits binary64 (on_axis axis value)) → 32 ≤ length out
    → float_at (written out 0 (bytes_of_value value)) (place_of axis) ≡ on_axis axis value
written_back X value out fit room =
    float_back value.x [] (bits_of value.y ++ (bits_of value.z ++ bits_of value.weight)) out fit (subst (λ (n : ℕ). n ≤ length out) (sym (length_value value)) room)
written_back Y value out fit room =
    subst (λ (place : ℕ). float_at (written out 0 (bytes_of_value value)) place ≡ value.y) (length_bytes 8 (to_bits binary64 value.x))
    (float_back value.y (bits_of value.x) (bits_of value.z ++ bits_of value.weight) out fit (subst (λ (n : ℕ). n ≤ length out) (sym (length_value value)) room))
written_back Z value out fit room =
    let x = bits_of value.x in
    let y = bits_of value.y in
    let rest = bits_of value.z ++ bits_of value.weight in
    let same = append_assoc x y rest in
    let place : length (x ++ y) ≡ 16 =
    omega (arith, length-append x y, length_bytes 8 (to_bits binary64 value.x), length_bytes 8 (to_bits binary64 value.y)) in
    subst (λ (at : ℕ). float_at (written out 0 (bytes_of_value value)) at ≡ value.z) place
    (subst (λ (text : List ℕ). float_at (written out 0 text) (length (x ++ y)) ≡ value.z) same
    (float_back value.z (x ++ y) (bits_of value.weight) out fit
    (subst (λ (text : List ℕ). length text ≤ length out) (sym same) (subst (λ (n : ℕ). n ≤ length out) (sym (length_value value)) room))))

-- ---- the call
-- what is shown of a value at (s, t): its place and the value on the axis lie in 0 to 1, and the value is an f64 there
abbrev Shown : Axis → Float → Float → Evaluation → Type 0
Shown axis s t value = InUnitAt s t (on_axis axis value) × T (fits binary64 (on_axis axis value))

-- the count of a valid file is that of its length
abbrev pub OwnCount : List ℕ → Result ℕ Refusal → Type 0
OwnCount file (Ok count) = count ≡ edit_count file
OwnCount file (Err refusal) = Unit {0}

pub own_count : (file : List ℕ) → OwnCount file (checked_file file)
unfolding checked_file
own_count file =
    cond_case (length_right file) (OwnCount file) _ _
    (λ h.
    cond_case (is_version (version_of file)) (OwnCount file) _ _
    (λ k. cond_case (headings_right (edit_count file) file edits_at) (OwnCount file) _ _ (λ l. refl) (λ l. tt))
    (λ k. tt))
    (λ h. tt)

module _ (file : List ℕ) (axis : Axis) (s t : Float) where
  abbrev edits : List Edit
  edits = edits_from (edit_count file) file edits_at

  module _
      (border : T (le 0f (float_at file border_at)))
      (corners : (k : ℕ) → k < 4 → InUnit (coordinate axis (corner_of file k)))
      (done : DoneInUnit axis edits (file_numbers millionth file (edit_count file)))
    where
      -- the set-point of the map that the edits leave
      in_unit_lem : (value : Evaluation) → (set_point millionth (map_of file) s t).answer ≡ Ok value → Shown axis s t value
      in_unit_lem value is = (
        last_call axis (file_withdraws file) millionth s t edits (fresh_map file)
            (never_past_full_stroke millionth (float_at file border_at) (corner_of file 0) (corner_of file 1) (corner_of file 2) (corner_of file 3) axis
            (with_set_point (file_withdraws file) edits s t)
            (record {
              border = border;
              bottom_left = corners 0 (lit< tt);
              bottom_right = corners 1 (lit< tt);
              top_right = corners 2 (lit< tt);
              top_left = corners 3 (lit< tt);
              done = done_calls axis (file_withdraws file) millionth s t edits (fresh_map file) done;
            })
            ).1
            s t value refl (ap evaluated is),
        value_fits axis millionth (map_of file) s t value (set_point_is millionth (map_of file) s t value is).1.0,
      )

      -- a file that is valid has its own count of edits
      checked_in_unit : (check : Result ℕ Refusal) → OwnCount file check → (value : Evaluation) → checked_set_point millionth file s t check ≡ Ok value → Shown axis s t value
      checked_in_unit (Ok count) own value is =
          in_unit_lem value (subst (λ (n : ℕ). (set_point millionth (file_map millionth file n) s t).answer ≡ Ok value) own is)
      checked_in_unit (Err refusal) own value is = absurd (subst is_value (sym is) tt)

module _ (axis : Axis) (s t : Float) (out : List ℕ) where
  -- the same of what is read in a buffer
  abbrev Written : List ℕ → Type 0
  Written bytes = InUnitAt s t (float_at bytes (place_of axis))

  -- what the buffer holds, by the answer
  buffer_in_unit : (answer : Result Evaluation Refusal) → 32 ≤ length out → ((value : Evaluation) → answer ≡ Ok value → Shown axis s t value)
      → evaluation_number answer ≡ 0 → Written (buffer_after answer out)
  buffer_in_unit (Ok value) room says answered =
      let shown = says value refl in (shown.0.0, (shown.0.1.0, subst InUnit (sym (written_back axis value out shown.1 room)) shown.0.1.1))
  buffer_in_unit (Err refusal) room says answered = absurd (numbered refusal answered)

  -- with room for a value or without
  with_room : (enough : Bool) (answer : Result Evaluation Refusal) → (T enough → 32 ≤ length out) → ((value : Evaluation) → answer ≡ Ok value → Shown axis s t value)
      → evaluation_number (cond enough answer (Err Short)) ≡ 0
      → Written (buffer_after (cond enough answer (Err Short)) out)
  with_room true answer room says answered = buffer_in_unit answer (room tt) says answered
  with_room false answer room says answered = absurd (numbered Short answered)

pub file_never_past_full_stroke : FileNeverPastFullStroke
unfolding host_answer file_set_point
file_never_past_full_stroke file s t out axis border corners done answered =
    with_room axis (of_bits binary64 s) (of_bits binary64 t) out (leb 32 (length out)) (checked_set_point millionth file (of_bits binary64 s) (of_bits binary64 t) (checked_file file))
    (leb→le 32 (length out))
    (λ value is. checked_in_unit file axis (of_bits binary64 s) (of_bits binary64 t) border corners done (checked_file file) (own_count file) value is)
    answered
