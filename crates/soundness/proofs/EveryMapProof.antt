-- Every list leaves a sound mesh, because a fresh one is sound and each call keeps it so; the theorems are what a sound mesh says of a call.
use Rattle.std.specs.Prelude.{ℕ, ◌≡◌, refl, Bool, true, false, not, ◌||◌, List, [], ◌∷◌, T, eqb, Float, Err, Ok, Result}
use Rattle.std.proofs.Common.{sym, ap, ◌∙◌, subst, true≢false, inl, inr, eqb→eq}
use Rattle.control_point.specs.Refusal.{refusal_number}
use Rattle.control_point.specs.declared.refusal.Refusal.{Refusal}
use Rattle.surface.specs.Evaluation.{evaluation_number, subs_of}
use Rattle.surface.specs.SetPoint.{on_map, weighty, where_weighty, weighed, set_point}
use Rattle.surface.proofs.SetPointLaws.{set_point_case}
use Rattle.cells.specs.Cells.{cell_points}
use Rattle.counting.proofs.BoolLaws.{cond_case, or_case}
use Rattle.t_mesh.specs.Tmesh.{new_tmesh}
use Rattle.t_mesh.specs.declared.t_mesh.Tmesh.{Tmesh}
use Rattle.soundness.specs.MapCalls.{MapCall, after_call, map_after_all}
use Rattle.soundness.proofs.FreshLaws.{sound_fresh}
use Rattle.soundness.proofs.MapLaws.{SoundMesh, KnownEvaluation, KnownQuestion, insertion_places, evaluation_known, question_known, sound_call, listing_call}
use Rattle.soundness.specs.Theorems.{EveryMap, OneOf, EveryMapMirrored, ListedIsMade, ListingGrows, PlacingConnects, EvaluationRefusals, SetPointNumbers, QuestionRefusals}
use Rattle.surface.specs.declared.evaluation.Evaluation.{Evaluation}

sound_list : (e : Float) (calls : List MapCall) (map : Tmesh) → SoundMesh map.mesh → SoundMesh (map_after_all e map calls).mesh
unfolding map_after_all
sound_list e [] map sound = sound
sound_list e (call ∷ calls) map sound = sound_list e calls (after_call e map call) (sound_call map sound e call)

-- what a sound mesh says of its map holds of every map
pub of_sound : (Holds : Tmesh → Type 0) → ((map : Tmesh) → SoundMesh map.mesh → Holds map) → EveryMap Holds
of_sound Holds says e weight at_bottom_left at_bottom_right at_top_right at_top_left calls =
    says (map_after_all e (new_tmesh weight at_bottom_left at_bottom_right at_top_right at_top_left) calls)
    (sound_list e calls (new_tmesh weight at_bottom_left at_bottom_right at_top_right at_top_left) (sound_fresh weight at_bottom_left at_bottom_right at_top_right at_top_left))

pub every_map_mirrored : EveryMapMirrored
every_map_mirrored = of_sound _ (λ map sound. sound.sound)

pub listed_is_made : ListedIsMade
listed_is_made = of_sound _ (λ map sound. sound.listed_made)

pub listing_grows : ListingGrows
listing_grows = of_sound _ (λ map sound. listing_call map sound)

pub placing_connects : PlacingConnects
placing_connects = of_sound _ (λ map sound. insertion_places map sound)

false≢true : {A : Type 0} → false ≡ true → A
false≢true h = absurd (true≢false (sym h))

-- one of the three
of_three : (n : ℕ) → (eqb n 3 || (eqb n 4 || eqb n 9)) ≡ true → OneOf n (3 ∷ (4 ∷ (9 ∷ [])))
of_three n h =
    or_case (eqb n 3) (eqb n 4 || eqb n 9) h (λ a. inl (same 3 a)) (λ k. or_case (eqb n 4) (eqb n 9) k (λ a. inr (inl (same 4 a))) (λ a. inr (inr (inl (same 9 a)))))
  where
    same : (m : ℕ) → eqb n m ≡ true → n ≡ m
    same m a = eqb→eq n m (subst T (sym a) tt)

evaluation_refused : (map : Tmesh) → SoundMesh map.mesh → (e s t : Float) (refusal : Refusal) → (subs_of e map s t).answer ≡ Err refusal
    → OneOf (refusal_number refusal) (3 ∷ (4 ∷ (9 ∷ [])))
evaluation_refused map sound e s t refusal is = of_three (refusal_number refusal) (subst KnownEvaluation is (evaluation_known map sound e s t))

pub evaluation_refusals : EvaluationRefusals
evaluation_refusals = of_sound _ evaluation_refused

-- ---- a set-point
-- its number is one of six, and 20 or not
abbrev Numbered : Bool → Result Evaluation Refusal → Type 0
Numbered off answer = OneOf (evaluation_number answer) (0 ∷ (3 ∷ (4 ∷ (9 ∷ (15 ∷ (20 ∷ [])))))) × (eqb (evaluation_number answer) 20 ≡ off)

-- an evaluation's refusal, by one of its numbers
of_evaluation : (refusal : Refusal) → OneOf (refusal_number refusal) (3 ∷ (4 ∷ (9 ∷ []))) → Numbered false (Err refusal)
of_evaluation refusal (inl same) = (inr (inl same), ap (λ (m : ℕ). eqb m 20) same)
of_evaluation refusal (inr (inl same)) = (inr (inr (inl same)), ap (λ (m : ℕ). eqb m 20) same)
of_evaluation refusal (inr (inr (inl same))) = (inr (inr (inr (inl same))), ap (λ (m : ℕ). eqb m 20) same)
of_evaluation refusal (inr (inr (inr none))) = elim none [ ]

weighed_numbered : (answer : Result Evaluation Refusal) → KnownEvaluation answer → Numbered false (weighed answer)
unfolding where_weighty
weighed_numbered (Ok value) known = cond_case (weighty value) (Numbered false) _ _ (λ _. (inl refl, refl)) (λ _. (inr (inr (inr (inr (inl refl)))), refl))
weighed_numbered (Err refusal) known = of_evaluation refusal (of_three (refusal_number refusal) known)

set_point_numbered : (map : Tmesh) → SoundMesh map.mesh → (e s t : Float) → Numbered (not (on_map s t)) (set_point e map s t).answer
set_point_numbered map sound e s t =
    set_point_case e map s t (λ given. Numbered (not (on_map s t)) given.answer)
    (λ on. let numbered = weighed_numbered (subs_of e map s t).answer (evaluation_known map sound e s t) in (numbered.0, numbered.1 ∙ sym (ap not on)))
    (λ off. (inr (inr (inr (inr (inr (inl refl))))), sym (ap not off)))

pub set_point_numbers : SetPointNumbers
set_point_numbers = of_sound _ set_point_numbered

question_refused : (map : Tmesh) → SoundMesh map.mesh → (e : Float) (cell : ℕ) (refusal : Refusal) → (cell_points e map cell).answer ≡ Err refusal
    → OneOf (refusal_number refusal) (3 ∷ (4 ∷ (9 ∷ [])))
question_refused map sound e cell refusal is = of_three (refusal_number refusal) (subst KnownQuestion is (question_known map sound e cell))

pub question_refusals : QuestionRefusals
question_refusals = of_sound _ question_refused
