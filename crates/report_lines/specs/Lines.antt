-- The lines of a report, as the bytes of their text.
use Rattle.std.specs.Prelude.{ℕ, ◌+◌, cond, List, [], ◌∷◌, ◌++◌, eqb, Err, Ok, Result}
use Rattle.control_point.specs.Refusal.{refusal_number}
use Rattle.surface.specs.declared.evaluation.Evaluation.{Evaluation}
use Rattle.census.specs.declared.census.Counts.{Counts}
use Rattle.openings.specs.Openings.{PointSide, point_entry, direction_entry}
use Rattle.report_text.specs.Text.{edit_word, made_word, listed_word, links_word, open_word, mid_word, space, newline, number_text, bits_text, refused_text}
use Rattle.control_point.specs.declared.refusal.Refusal.{Refusal}

-- `edit K refused N`, where the answer number is not 0
abbrev pub edit_line : ℕ → ℕ → List ℕ
edit_line k n = cond (eqb n 0) [] (edit_word ++ (number_text k ++ (refused_text n ++ newline)))

-- of all edits, numbered from k
unfoldable pub edit_lines : ℕ → List ℕ → List ℕ
edit_lines k [] = []
edit_lines k (n ∷ rest) = edit_line k n ++ edit_lines (k + 1) rest

-- `made M listed L links N`
abbrev pub counts_line : Counts → List ℕ
counts_line counts =
    made_word
    ++ (number_text counts.made
    ++ (space ++ (listed_word ++ (number_text counts.listed ++ (space ++ (links_word ++ (number_text counts.links ++ newline)))))))

-- `open P D`: the numbers of a point and of a direction
abbrev pub open_line : ℕ → ℕ → List ℕ
open_line n k = open_word ++ (number_text n ++ (number_text k ++ newline))

-- of all sides of a list
unfoldable pub open_lines : List PointSide → List ℕ
open_lines [] = []
open_lines (side ∷ rest) = open_line (point_entry side) (direction_entry side) ++ open_lines rest

-- `mid` and the set-point
abbrev pub value_text : Evaluation → List ℕ
value_text value = bits_text value.x ++ (bits_text value.y ++ (bits_text value.z ++ bits_text value.weight))

abbrev pub mid_text : Result Evaluation Refusal → List ℕ
mid_text (Ok value) = value_text value
mid_text (Err refusal) = refused_text (refusal_number refusal)

abbrev pub mid_line : Result Evaluation Refusal → List ℕ
mid_line answer = mid_word ++ (mid_text answer ++ newline)
