-- How long the parts of a report are at most: a number has at most four digits, so each line is short, and there are as many lines as edits and sides at most.
use Rattle.std.specs.Prelude.{ℕ, zero, suc, ◌+◌, ◌*◌, ◌≤◌, ◌≡◌, refl, Bool, true, false, cond, List, [], ◌∷◌, ◌++◌, ltb, eqb, Float, length, Err, Ok, Result}
use Rattle.std.proofs.Common.{ap, ◌∙◌, arith, lit≤, length-append}
use Rattle.control_point.specs.Refusal.{refusal_number}
use Rattle.t_mesh.specs.declared.t_mesh.Tmesh.{Tmesh}
use Rattle.census.specs.declared.census.Counts.{Counts}
use Rattle.openings.specs.Openings.{PointSide, point_entry, direction_entry}
use Rattle.map_format.specs.Format.{edits_at, edit_bytes, file_withdraws, Edit, edits_from}
use Rattle.map_file.specs.Run.{edited, fresh_map, edit_answers, edit_numbers, file_numbers}
use Rattle.report_text.specs.Text.{edit_word, newline, decimal, number_text, bits_text, refused_text}
use Rattle.report_lines.specs.Lines.{edit_line, edit_lines, counts_line, open_line, open_lines, mid_text, mid_line}
use Rattle.control_point.specs.declared.refusal.Refusal.{Refusal}
use Rattle.surface.specs.declared.evaluation.Evaluation.{Evaluation}

-- ---- numbers
decimal_by : (n : ℕ) (a b c : Bool) → ltb n 10 ≡ a → ltb n 100 ≡ b → ltb n 1000 ≡ c → length (decimal n) ≤ 4
unfolding decimal
decimal_by n true b c p q r = rw p (lit≤ tt)
decimal_by n false true c p q r = rw (p, q) (lit≤ tt)
decimal_by n false false true p q r = rw (p, q, r) (lit≤ tt)
decimal_by n false false false p q r = rw (p, q, r) (lit≤ tt)

decimal_few : (n : ℕ) → length (decimal n) ≤ 4
decimal_few n = decimal_by n (ltb n 10) (ltb n 100) (ltb n 1000) refl refl refl

bits_length : (value : Float) → length (bits_text value) ≡ 17
unfolding bits_text
bits_length value = refl

-- ---- lines
-- a line that is there or not
unless_few : (test : Bool) (line : List ℕ) (most : ℕ) → length line ≤ most → length (cond test [] line) ≤ most
unless_few true line most few = omega arith
unless_few false line most few = few

edit_line_few : (k n : ℕ) → length (edit_line k n) ≤ 23
edit_line_few k n =
    unless_few (eqb n 0) (edit_word ++ (number_text k ++ (refused_text n ++ newline))) 23
    (simp length-append (omega (arith, decimal_few k, decimal_few n)))

pub edit_lines_few : (k : ℕ) (numbers : List ℕ) → length (edit_lines k numbers) ≤ 23 * length numbers
unfolding edit_lines
edit_lines_few k [] = lit≤ tt
edit_lines_few k (n ∷ rest) =
    omega (arith, length-append (edit_line k n) (edit_lines (k + 1) rest), edit_line_few k n, edit_lines_few (k + 1) rest)

pub counts_line_few : (counts : Counts) → length (counts_line counts) ≤ 33
counts_line_few counts = simp length-append (omega (arith, decimal_few counts.made, decimal_few counts.listed, decimal_few counts.links))

open_line_few : (n k : ℕ) → length (open_line n k) ≤ 15
open_line_few n k = simp length-append (omega (arith, decimal_few n, decimal_few k))

pub open_lines_few : (sides : List PointSide) → length (open_lines sides) ≤ 15 * length sides
unfolding open_lines
open_lines_few [] = lit≤ tt
open_lines_few (side ∷ rest) =
    let n = point_entry side in
    let k = direction_entry side in
    omega (arith, length-append (open_line n k) (open_lines rest), open_line_few n k, open_lines_few rest)

mid_text_few : (answer : Result Evaluation Refusal) → length (mid_text answer) ≤ 68
mid_text_few (Ok value) =
    simp length-append (omega (arith, bits_length value.x, bits_length value.y, bits_length value.z, bits_length value.weight))
mid_text_few (Err refusal) = omega (arith, decimal_few (refusal_number refusal))

pub mid_line_few : (answer : Result Evaluation Refusal) → length (mid_line answer) ≤ 72
mid_line_few answer = omega (arith, length-append (mid_text answer) newline, mid_text_few answer)

pub refused_few : (n : ℕ) → length (refused_text n) ≤ 13
refused_few n = omega (arith, decimal_few n)

-- ---- an answer number for each edit
edits_length : (count : ℕ) (bytes : List ℕ) (at : ℕ) → length (edits_from count bytes at) ≡ count
unfolding edits_from
edits_length zero bytes at = refl
edits_length (suc count) bytes at = ap suc (edits_length count bytes (at + edit_bytes))

numbers_length : (withdraws : Bool) (e : Float) (map : Tmesh) (edits : List Edit) → length (edit_numbers withdraws e map edits) ≡ length edits
unfolding edit_answers
numbers_length withdraws e map [] = refl
numbers_length withdraws e map (edit ∷ rest) = ap suc (numbers_length withdraws e (edited withdraws e map edit).map rest)

pub file_numbers_length : (e : Float) (bytes : List ℕ) (count : ℕ) → length (file_numbers e bytes count) ≡ count
file_numbers_length e bytes count = numbers_length (file_withdraws bytes) e (fresh_map bytes) (edits_from count bytes edits_at) ∙ edits_length count bytes edits_at
