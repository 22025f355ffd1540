-- The theorem is not empty. On a map with border 1.0 and any corners, at a closeness of a millionth: ratio 0.5 from 0 Up; 0.5 from 1 Up, which infers a link; an insertion from
-- 0 Left, which is refused; 0.0 from 0 Right, which is torn and withdrawn; the same again, torn and not withdrawn; and 0.0 from 4 Right, which infers a link on one side and is
-- torn on the other. The withdrawn one is in none of C, O and I: C is 4, O is 5 and I is 2, so 8 points, 10 links, 11 borders and 1 opening. 6 points are listed.
use Rattle.std.specs.Prelude.{true, false, List, [], ◌∷◌, ◌≡◌, Err, Ok, Result}
use Rattle.float64.specs.Literals.{zero_literal}
use Rattle.control_point.specs.Small.{millionth}
use Rattle.control_point.specs.declared.refusal.Refusal.TheVariants.{BorderSide}
use Rattle.control_point.specs.declared.t_mesh_direction.TmeshDirection.TheVariants.{Up, Right, Left}
use Rattle.insertion.specs.declared.insertion.Insertion.TheVariants.{Done, Torn}
use Rattle.t_mesh.specs.Tmesh.{store_of}
use Rattle.t_mesh.specs.declared.t_mesh.Position.{Position}
use Rattle.t_mesh.specs.declared.t_mesh.Tmesh.{Tmesh}
use Rattle.census.specs.Census.{counts_of}
use Rattle.openings.specs.Openings.{openings_of, openings_answer}
use Rattle.calls.specs.Calls.{Call, insertion, run_of}
use Rattle.calls.specs.ExampleValues.{half}
use Rattle.calls.specs.Readings.{plate}
use Rattle.soundness.specs.MapCalls.{map_after_all, entries}
use Rattle.ledger.specs.Ledger.{done_or_torn, sides_opened, links_inferred}
use Rattle.ledger.specs.Theorem.{entered_answers}
use Rattle.control_point.specs.declared.refusal.Refusal.{Refusal}
use Rattle.insertion.specs.declared.insertion.Insertion.{Insertion}

-- what those that are not withdrawn answer
abbrev pub answers : List (Result Insertion Refusal)
answers = (Ok (Done 1 0)) ∷ ((Ok (Done 1 1)) ∷ (Err BorderSide ∷ ((Ok (Torn 1 0)) ∷ ((Ok (Torn 2 1)) ∷ []))))

module _ (at_bottom_left at_bottom_right at_top_right at_top_left position : Position) where
  abbrev pub fresh : Tmesh
  fresh = plate at_bottom_left at_bottom_right at_top_right at_top_left position

  abbrev pub edits : List Call
  edits =
      insertion false 0 Up half position
      ∷ (insertion false 1 Up half position
      ∷ (insertion false 0 Left half position
      ∷ (insertion true 0 Right zero_literal position
      ∷ (insertion false 0 Right zero_literal position
      ∷ (insertion false 4 Right zero_literal position ∷ [])))))

  abbrev pub after : Tmesh
  after = map_after_all millionth fresh (entries edits)

  pub record LedgerReading : Type 0 where
    pub answered : entered_answers (run_of millionth fresh edits) ≡ answers
    pub counts : counts_of after ≡ record { made = 8; listed = 6; links = 10; borders = 11 }
    pub openings : (openings_answer (openings_of (store_of after))).count ≡ 1

-- C, O and I of these answers, and the reading for all corners and positions
abbrev pub EveryLedgerReading : Type 0
EveryLedgerReading =
    (done_or_torn answers ≡ 4)
    × ((sides_opened answers ≡ 5)
    × ((links_inferred answers ≡ 2)
    × ((at_bottom_left at_bottom_right at_top_right at_top_left position : Position) → LedgerReading at_bottom_left at_bottom_right at_top_right at_top_left position)))
