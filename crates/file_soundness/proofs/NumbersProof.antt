-- The C calls' numbers: each test of the file has its own, a question is refused 3, 4 or 9, and a set-point so too, or 15, and 20 exactly where it lies off the map.
use Rattle.std.specs.Prelude.{ℕ, ◌≡◌, refl, Bool, true, false, cond, not, ◌&&◌, List, [], ◌∷◌, eqb, leb, Float, length, Err, Ok, Result}
use Rattle.std.proofs.Common.{sym, ap, subst, inl, inr, arith}
use Rattle.std.specs.Float.{binary64}
use Rattle.std.specs.Float.Ieee.{of_bits}
use Rattle.big_endian.specs.BigEndian.{float_at}
use Rattle.control_point.specs.Refusal.{refusal_number}
use Rattle.control_point.specs.Small.{millionth}
use Rattle.control_point.specs.declared.refusal.Refusal.{Refusal}
use Rattle.control_point.specs.declared.refusal.Refusal.TheVariants.{Short}
use Rattle.counting.proofs.BoolLaws.{cond_case}
use Rattle.surface.specs.Evaluation.{evaluation_number}
use Rattle.surface.specs.SetPoint.{on_map, set_point}
use Rattle.t_mesh.specs.declared.t_mesh.Tmesh.{Tmesh}
use Rattle.soundness.specs.MapCalls.{entries}
use Rattle.soundness.specs.Theorems.{OneOf}
use Rattle.soundness.proofs.EveryMapProof.{set_point_numbers, question_refusals}
use Rattle.map_format.specs.Format.{border_at, edits_at, file_withdraws, edit_count, version_of, is_version, edits_from, length_right, headings_right, checked_file}
use Rattle.map_file.specs.Run.{corner_of, fresh_map, file_map, checked_set_point, file_set_point}
use Rattle.gatemap_host.specs.SetPoint.{host_answer, buffer_after}
use Rattle.gatemap_host.specs.CellCall.{host_cell}
use Rattle.cell_bytes.specs.CellBytes.{cell_bytes}
use Rattle.cells.specs.Cells.{cell_number, cell_points}
use Rattle.map_cell.specs.FileCell.{checked_cell, file_cell}
use Rattle.file_soundness.proofs.CallsLaws.{calls_of, edits_are_calls}
use Rattle.file_soundness.specs.Theorems.{NumbersNamed, is_valid, OffMapRefused, CellNumbersNamed}
use Rattle.surface.specs.declared.evaluation.Evaluation.{Evaluation}
use Rattle.grid_index.specs.declared.Cell.{Cell}

-- ---- a file
-- one that is refused has one of its three numbers
abbrev NamedCheck : Result ℕ Refusal → Type 0
NamedCheck (Ok count) = Unit {0}
NamedCheck (Err refusal) = OneOf (refusal_number refusal) (12 ∷ (13 ∷ (14 ∷ [])))

check_named : (file : List ℕ) → NamedCheck (checked_file file)
unfolding checked_file
check_named file =
    cond_case (length_right file) NamedCheck _ _
    (λ h.
    cond_case (is_version (version_of file)) NamedCheck _ _
    (λ k. cond_case (headings_right (edit_count file) file edits_at) NamedCheck _ _ (λ l. tt) (λ l. inr (inr (inl refl))))
    (λ k. inr (inl refl)))
    (λ h. inl refl)

-- ---- a set-point
-- the numbers of the header
abbrev Named : ℕ → Type 0
Named n = OneOf n (0 ∷ (3 ∷ (4 ∷ (9 ∷ (12 ∷ (13 ∷ (14 ∷ (15 ∷ (16 ∷ (20 ∷ []))))))))))

-- the number of an answer is named, and 20 or not
abbrev NamedAnswer : Bool → Result Evaluation Refusal → Type 0
NamedAnswer off answer = Named (evaluation_number answer) × (eqb (evaluation_number answer) 20 ≡ off)

-- one of the map's is one of all
of_map : (n : ℕ) → OneOf n (0 ∷ (3 ∷ (4 ∷ (9 ∷ (15 ∷ (20 ∷ [])))))) → Named n
of_map n (inl same) = inl same
of_map n (inr (inl same)) = inr (inl same)
of_map n (inr (inr (inl same))) = inr (inr (inl same))
of_map n (inr (inr (inr (inl same)))) = inr (inr (inr (inl same)))
of_map n (inr (inr (inr (inr (inl same))))) = inr (inr (inr (inr (inr (inr (inr (inl same)))))))
of_map n (inr (inr (inr (inr (inr (inl same)))))) = inr (inr (inr (inr (inr (inr (inr (inr (inr (inl same)))))))))
of_map n (inr (inr (inr (inr (inr (inr none)))))) = elim none [ ]

-- and so is one of the file's, and it is not 20
of_file : (refusal : Refusal) → OneOf (refusal_number refusal) (12 ∷ (13 ∷ (14 ∷ []))) → NamedAnswer false (Err refusal)
of_file refusal (inl same) = (inr (inr (inr (inr (inl same)))), ap (λ (m : ℕ). eqb m 20) same)
of_file refusal (inr (inl same)) = (inr (inr (inr (inr (inr (inl same))))), ap (λ (m : ℕ). eqb m 20) same)
of_file refusal (inr (inr (inl same))) = (inr (inr (inr (inr (inr (inr (inl same)))))), ap (λ (m : ℕ). eqb m 20) same)
of_file refusal (inr (inr (inr none))) = elim none [ ]

file_named : (file : List ℕ) (s t : Float) (check : Result ℕ Refusal) → NamedCheck check
    → NamedAnswer (is_valid check && not (on_map s t)) (checked_set_point millionth file s t check)
file_named file s t (Ok count) named =
    let numbered =
    set_point_numbers millionth (float_at file border_at) (corner_of file 0) (corner_of file 1) (corner_of file 2) (corner_of file 3) (entries (calls_of (file_withdraws file) (edits_from count file edits_at))) millionth s t in
    subst (λ (map : Tmesh). NamedAnswer (not (on_map s t)) (set_point millionth map s t).answer)
    (sym (edits_are_calls (file_withdraws file) millionth (fresh_map file) (edits_from count file edits_at)))
    (of_map _ numbered.0, numbered.1)
file_named file s t (Err refusal) named = of_file refusal named

host_named : (file : List ℕ) (s t : ℕ) (room : ℕ)
    → NamedAnswer (leb 32 room && (is_valid (checked_file file) && not (on_map (of_bits binary64 s) (of_bits binary64 t)))) (host_answer file s t room)
unfolding host_answer file_set_point
host_named file s t room = by_room (leb 32 room)
  where
    off : Bool
    off = is_valid (checked_file file) && not (on_map (of_bits binary64 s) (of_bits binary64 t))

    found : Result Evaluation Refusal
    found = checked_set_point millionth file (of_bits binary64 s) (of_bits binary64 t) (checked_file file)

    by_room : (enough : Bool) → NamedAnswer (enough && off) (cond enough found (Err Short))
    by_room true = file_named file (of_bits binary64 s) (of_bits binary64 t) (checked_file file) (check_named file)
    by_room false = (inr (inr (inr (inr (inr (inr (inr (inr (inl refl)))))))), refl)

pub numbers_named : NumbersNamed
numbers_named file s t out = (host_named file s t (length out)).0

pub off_map_refused : OffMapRefused
off_map_refused file s t out = ((host_named file s t (length out)).1, left (host_answer file s t (length out)))
  where
    left : (answer : Result Evaluation Refusal) → evaluation_number answer ≡ 20 → buffer_after answer out ≡ out
    left (Ok value) off = absurd (omega (arith, off))
    left (Err refusal) off = refl

-- ---- a cell
abbrev NamedWords : Result Cell Refusal → Type 0
NamedWords answer = OneOf (cell_number answer) (0 ∷ (3 ∷ (4 ∷ (9 ∷ (12 ∷ (13 ∷ (14 ∷ (16 ∷ []))))))))

of_building : (refusal : Refusal) → OneOf (refusal_number refusal) (3 ∷ (4 ∷ (9 ∷ []))) → NamedWords (Err refusal)
of_building refusal (inl same) = inr (inl same)
of_building refusal (inr (inl same)) = inr (inr (inl same))
of_building refusal (inr (inr (inl same))) = inr (inr (inr (inl same)))
of_building refusal (inr (inr (inr none))) = elim none [ ]

of_check : (refusal : Refusal) → OneOf (refusal_number refusal) (12 ∷ (13 ∷ (14 ∷ []))) → NamedWords (Err refusal)
of_check refusal (inl same) = inr (inr (inr (inr (inl same))))
of_check refusal (inr (inl same)) = inr (inr (inr (inr (inr (inl same)))))
of_check refusal (inr (inr (inl same))) = inr (inr (inr (inr (inr (inr (inl same))))))
of_check refusal (inr (inr (inr none))) = elim none [ ]

words_named : (answer : Result Cell Refusal) → ((refusal : Refusal) → answer ≡ Err refusal → OneOf (refusal_number refusal) (3 ∷ (4 ∷ (9 ∷ [])))) → NamedWords answer
words_named (Ok words) refused = inl refl
words_named (Err refusal) refused = of_building refusal (refused refusal refl)

cell_named : (file : List ℕ) (cell : ℕ) (check : Result ℕ Refusal) → NamedCheck check → NamedWords (checked_cell millionth file cell check)
cell_named file cell (Ok count) named =
    words_named (cell_points millionth (file_map millionth file count) cell).answer
    (λ refusal is.
    question_refusals millionth (float_at file border_at) (corner_of file 0) (corner_of file 1) (corner_of file 2) (corner_of file 3) (entries (calls_of (file_withdraws file) (edits_from count file edits_at))) millionth cell refusal
    (subst (λ (map : Tmesh). (cell_points millionth map cell).answer ≡ Err refusal) (edits_are_calls (file_withdraws file) millionth (fresh_map file) (edits_from count file edits_at)) is))
cell_named file cell (Err refusal) named = of_check refusal named

pub cell_numbers_named : CellNumbersNamed
unfolding host_cell file_cell
cell_numbers_named file cell out =
    cond_case (leb cell_bytes (length out)) NamedWords _ _
    (λ h. cell_named file cell (checked_file file) (check_named file))
    (λ h. inr (inr (inr (inr (inr (inr (inr (inl refl))))))))
