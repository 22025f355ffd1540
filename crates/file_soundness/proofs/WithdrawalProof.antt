-- Withdrawn edits leave no trace: a withdrawn edit leaves the map before it, and one that is not torn leaves the same map by either rule. As many points are listed as made: the
-- ledger of a file that withdraws has no torn edit, so that each point made is that of an edit done.
use Rattle.std.specs.Prelude.{ℕ, ◌+◌, ◌≡◌, Bool, cond, Float, Err, Ok, Result}
use Rattle.std.proofs.Math.Path.{refl, ap}
use Rattle.std.proofs.Common.{sym, ◌∙◌, subst, arith}
use Rattle.std.proofs.Math.Bool.{true, false}
use mathlib.Core.List.{List, [], ◌∷◌}
use Rattle.insertion.specs.Insert.{is_torn}
use Rattle.insertion.proofs.WithdrawalLaws.{untorn_not_withdrawn}
use Rattle.insertion.specs.declared.insertion.Insertion.TheVariants.{Done, Torn}
use Rattle.t_mesh.specs.declared.t_mesh.Tmesh.{Tmesh}
use Rattle.census.specs.declared.census.Counts.{Counts}
use Rattle.ledger.specs.Ledger.{entered, total, done_or_torn, insertions_done}
use Rattle.map_format.specs.Format.{Edit}
use Rattle.map_file.specs.Run.{edited, after_edits, edit_answers, file_answers}
use Rattle.file_soundness.proofs.LedgerProof.{file_ledger}
use Rattle.file_soundness.specs.Theorems.{untorn, WithdrawnLeaveNoTrace, AsManyListedAsMade}
use Rattle.control_point.specs.declared.refusal.Refusal.{Refusal}
use Rattle.insertion.specs.declared.insertion.Insertion.{Insertion}

-- ---- no trace
module _ (withdraws : Bool) (e : Float) where
  -- what the theorem says of a list, from every map
  abbrev SameMap : List Edit → Type 0
  SameMap edits = (before : Tmesh) → after_edits true e before edits ≡ after_edits withdraws e before (untorn e before edits)

  abbrev SameAnswers : List Edit → Type 0
  SameAnswers edits = (before : Tmesh) → entered true (edit_answers true e before edits) ≡ edit_answers withdraws e before (untorn e before edits)

  -- an edit before others
  module _ (before : Tmesh) (edit : Edit) where
    abbrev answer : Result Insertion Refusal
    answer = (edited true e before edit).answer

    -- the map that it leaves where torn edits stay
    abbrev after : Tmesh
    after = (edited false e before edit).map

    -- not torn, it leaves that one by either rule
    stands : is_torn answer ≡ false → (edited withdraws e before edit).map ≡ after
    stands is = ap (λ (withdrawn : Bool). cond withdrawn before after) (untorn_not_withdrawn withdraws answer is)

    -- the edits that are left of it and the rest
    abbrev left : Bool → List Edit → List Edit
    left torn rest = cond torn (untorn e before rest) (edit ∷ untorn e (cond torn before after) rest)

    map_by : (rest : List Edit) → SameMap rest → (torn : Bool) → is_torn answer ≡ torn
        → after_edits true e (cond torn before after) rest ≡ after_edits withdraws e before (left torn rest)
    unfolding after_edits
    map_by rest same true is = same before
    map_by rest same false is = same after ∙ ap (λ (map : Tmesh). after_edits withdraws e map (untorn e after rest)) (sym (stands is))

    answers_by : (rest : List Edit) → SameAnswers rest → (torn : Bool) → is_torn answer ≡ torn
        → let others = entered true (edit_answers true e (cond torn before after) rest) in
        cond torn others (answer ∷ others) ≡ edit_answers withdraws e before (left torn rest)
    unfolding edit_answers
    answers_by rest same true is = same before
    answers_by rest same false is =
        ap (λ (answers : List (Result Insertion Refusal)). answer ∷ answers) (same after ∙ ap (λ (map : Tmesh). edit_answers withdraws e map (untorn e after rest)) (sym (stands is)))

  same_map : (edits : List Edit) → SameMap edits
  unfolding after_edits untorn
  same_map [] before = refl
  same_map (edit ∷ rest) before = map_by before edit rest (same_map rest) (is_torn (answer before edit)) refl

  same_answers : (edits : List Edit) → SameAnswers edits
  unfolding edit_answers entered untorn
  same_answers [] before = refl
  same_answers (edit ∷ rest) before = answers_by before edit rest (same_answers rest) (is_torn (answer before edit)) refl

pub withdrawn_leave_no_trace : WithdrawnLeaveNoTrace
withdrawn_leave_no_trace withdraws e before edits = (same_map withdraws e edits before, same_answers withdraws e edits before)

-- ---- as many listed as made
-- no torn answer is entered where torn insertions are withdrawn
none_torn : (answers : List (Result Insertion Refusal)) → done_or_torn (entered true answers) ≡ insertions_done (entered true answers)
unfolding entered total
none_torn [] = refl
none_torn ((Ok (Done opened inferred)) ∷ rest) = omega (arith, none_torn rest)
none_torn ((Ok (Torn opened inferred)) ∷ rest) = none_torn rest
none_torn (Err refusal ∷ rest) = omega (arith, none_torn rest)

pub as_many_listed_as_made : AsManyListedAsMade
as_many_listed_as_made e file count withdraws =
    let counts = (file_ledger e file count).counts in
    let answers = file_answers e file count in
    ap (λ (counted : Counts). counted.made) counts
    ∙ ap (λ (n : ℕ). 4 + n) (subst (λ (rule : Bool). done_or_torn (entered rule answers) ≡ insertions_done (entered rule answers)) (sym withdraws) (none_torn answers))
    ∙ sym (ap (λ (counted : Counts). counted.listed) counts)
