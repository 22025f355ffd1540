-- What the C call for a load leaves is the load's file, which is read as it was made; its border weight, its corners and its positions meet the premises of the bound for files.
use Rattle.std.specs.Prelude.{ℕ, ◌≤◌, ◌≡◌, refl, List, [], ◌∷◌, ◌++◌, ◌⊎◌, T, Float, length, take, drop, Err, Ok, Result}
use Rattle.std.proofs.Common.{sym, ap, ◌∙◌, subst, inl, inr, ⊎_elim, arith}
use Rattle.std.specs.Float.Ieee.{le}
use Rattle.std.proofs.Math.Seq.{take-append_seam, drop-append_seam}
use Rattle.float64.specs.Sign.{0f}
use Rattle.float64.proofs.SignLaws.{literal_one}
use Rattle.big_endian.specs.BigEndian.{float_at}
use Rattle.calls.specs.FullStroke.{InUnit}
use Rattle.calls.proofs.SoundLaws.{passes_in_unit}
use Rattle.control_point.specs.Refusal.{refusal_number}
use Rattle.control_point.specs.Small.{millionth}
use Rattle.control_point.specs.declared.refusal.Refusal.{Refusal}
use Rattle.control_point.specs.declared.refusal.Refusal.TheVariants.{Short, Seed, TooMany}
use Rattle.gatemap_host.specs.LoadCall.{host_load_number}
use Rattle.load.specs.Load.{load_file, load_answer, load_buffer}
use Rattle.load.proofs.LoadLaws.{load_case}
use Rattle.load.specs.Theorems.{PositionInUnit, EditsInUnit}
use Rattle.load.proofs.TheoremsProof.{load_is_read, load_in_unit, length_load, load_at_front}
use Rattle.map_format.specs.Format.{border_at, most_edits, Edit, edit_count, edits_of, file_length, checked_file}
use Rattle.map_file.specs.Run.{corner_of, file_numbers}
use Rattle.map_format.specs.declared.format.Head.{Head}
use Rattle.map_writing.specs.Answer.{write_told, length_or_number, buffer_with}
use Rattle.soundness.specs.Theorems.{OneOf}
use Rattle.t_mesh.specs.Tmesh.{Axis, X, Y, Z, coordinate}
use Rattle.t_mesh.specs.declared.t_mesh.Position.{Position}
use Rattle.file_soundness.proofs.FullStrokeProof.{file_never_past_full_stroke}
use Rattle.file_soundness.specs.Theorems.{DoneInUnit, Loaded, LoadNumbersNamed, SetPointsInUnit, LoadNeverPastFullStroke, LoadedNeverPastFullStroke}

-- ---- the numbers
-- of a refusal that is another's, its number
same_refusal : (one other : Refusal) → ◌≡◌ {A = Result ℕ Refusal} (Err one) (Err other) → refusal_number other ≡ refusal_number one
same_refusal one other same = ap (λ (answer : Result ℕ Refusal). (write_told answer).number) (sym same)

length_refused : (bytes : ℕ) (refusal : Refusal) → Ok bytes ≡ Err refusal → ⊥
length_refused bytes refusal same = let z : ◌≡◌ {A = ℕ} 0 1 = cc in omega arith

-- a refusal is one of three
refused_named : (seed count room : ℕ) (refusal : Refusal) → load_answer seed count room ≡ Err refusal → OneOf (refusal_number refusal) (16 ∷ (21 ∷ (22 ∷ [])))
refused_named seed count room refusal =
    load_case seed count room (λ answer. answer ≡ Err refusal → OneOf (refusal_number refusal) (16 ∷ (21 ∷ (22 ∷ []))))
    (λ is. inr (inl (same_refusal Seed refusal is)))
    (λ is. inr (inr (inl (same_refusal TooMany refusal is))))
    (λ few short is. inl (same_refusal Short refusal is))
    (λ few fits is. absurd (length_refused (file_length count) refusal is))

module _ (seed count : ℕ) (out : List ℕ) where
  -- by the answer
  abbrev Left : Result ℕ Refusal → Type 0
  Left answer =
      (OneOf (length_or_number (write_told answer)) (16 ∷ (21 ∷ (22 ∷ []))) × (load_buffer seed count out ≡ out)) ⊎ Loaded seed count out (length_or_number (write_told answer))

  loaded : (bytes : ℕ) → load_answer seed count (length out) ≡ Ok bytes → Loaded seed count out bytes
  loaded bytes is =
      let front = load_at_front seed count bytes out is in
      let long = front.1 in (
        front.0,
        long ∙ length_load seed count,
        ap (take bytes) front.3
            ∙ ap (λ (n : ℕ). take n (load_file seed count ++ drop bytes out)) long
            ∙ take-append_seam (load_file seed count) (drop bytes out),
        ap (drop bytes) front.3 ∙ ap (λ (n : ℕ). drop n (load_file seed count ++ drop bytes out)) long ∙ drop-append_seam (load_file seed count) (drop bytes out),
      )

  left : (answer : Result ℕ Refusal) → load_answer seed count (length out) ≡ answer → Left answer
  left (Ok bytes) is = inr (loaded bytes is)
  left (Err refusal) is = inl (refused_named seed count (length out) refusal is, ap (λ (answer : Result ℕ Refusal). buffer_with (load_file seed count) answer out) is)

pub load_numbers_named : LoadNumbersNamed
load_numbers_named seed count out = left seed count out (load_answer seed count (length out)) refl

-- a number from 109 on is a length
length_loaded : (seed count : ℕ) (out : List ℕ) → 109 ≤ host_load_number seed count out → Loaded seed count out (host_load_number seed count out)
length_loaded seed count out long = ⊎_elim (λ named. absurd (small (host_load_number seed count out) named.0 long)) (λ loaded. loaded) (load_numbers_named seed count out)
  where
    small : (n : ℕ) → OneOf n (16 ∷ (21 ∷ (22 ∷ []))) → 109 ≤ n → ⊥
    small n (inl is) h = omega arith
    small n (inr (inl is)) h = omega arith
    small n (inr (inr (inl is))) h = omega arith
    small n (inr (inr (inr none))) h = elim none [ ]

-- ---- the premises of the bound
on_axis_lem : (axis : Axis) (p : Position) → PositionInUnit p → InUnit (coordinate axis p)
on_axis_lem X p h = passes_in_unit p.x h.0
on_axis_lem Y p h = passes_in_unit p.y h.1.0
on_axis_lem Z p h = passes_in_unit p.z h.1.1

-- whatever the edits answer
edits_in_unit : (axis : Axis) (edits : List Edit) (numbers : List ℕ) → EditsInUnit edits → DoneInUnit axis edits numbers
edits_in_unit axis [] numbers h = tt
edits_in_unit axis (edit ∷ rest) [] h = tt
edits_in_unit axis (edit ∷ rest) (number ∷ numbers) h = (λ done. on_axis_lem axis edit.position h.0.0, edits_in_unit axis rest numbers h.1)

border_positive : (seed count : ℕ) → count ≤ most_edits → T (le 0f (float_at (load_file seed count) border_at))
unfolding le
border_positive seed count few =
    subst (λ (border : Float). T (le 0f border)) (sym (ap (λ (head : Head). head.border) (load_is_read seed count few).1 ∙ literal_one)) tt

pub load_never_past_full_stroke : LoadNeverPastFullStroke
load_never_past_full_stroke seed count few s t out axis =
    let file = load_file seed count in
    let unit = load_in_unit seed count few in
    file_never_past_full_stroke file s t out axis
    (border_positive seed count few)
    (λ k below. on_axis_lem axis (corner_of file k) (unit.0 k below))
    (edits_in_unit axis (edits_of file) (file_numbers millionth file (edit_count file)) unit.1)

pub loaded_never_past_full_stroke : LoadedNeverPastFullStroke
loaded_never_past_full_stroke seed count buffer long =
    let loaded = length_loaded seed count buffer long in
    subst (λ (file : List ℕ). (checked_file file ≡ Ok count) × SetPointsInUnit file) (sym loaded.2)
    ((load_is_read seed count loaded.0).0, load_never_past_full_stroke seed count loaded.0)
