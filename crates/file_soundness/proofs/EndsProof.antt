-- Both ends are one definition: the report and the C call for a set-point cite the same check of the file and the same set-point.
use Rattle.std.specs.Prelude.{ℕ, ◌≤◌, ◌≡◌, List, ◌++◌, length, Err, Ok, Result}
use Rattle.std.proofs.Common.{sym, ap, ◌∙◌, le-leb}
use Rattle.std.specs.Float.{binary64}
use Rattle.std.specs.Float.Ieee.{of_bits}
use Rattle.control_point.specs.Small.{millionth}
use Rattle.census.specs.Census.{counts_of}
use Rattle.surface.specs.Evaluation.{evaluation_number}
use Rattle.surface.specs.SetPoint.{set_point}
use Rattle.t_mesh.specs.Tmesh.{store_of}
use Rattle.map_format.specs.Format.{checked_file}
use Rattle.map_file.specs.Run.{file_map, file_numbers, checked_set_point, file_set_point}
use Rattle.openings.specs.Openings.{openings_of}
use Rattle.report_lines.specs.Lines.{edit_lines, counts_line, open_lines, mid_line}
use Rattle.report.specs.Report.{half, checked_report, report_of}
use Rattle.value_bytes.specs.Value.{value_bytes}
use Rattle.gatemap_host.specs.SetPoint.{host_answer, buffer_after}
use Rattle.file_soundness.specs.Theorems.{EndsAgree, EndsRefuse, half_bits}
use Rattle.control_point.specs.declared.refusal.Refusal.{Refusal}
use Rattle.surface.specs.declared.evaluation.Evaluation.{Evaluation}

-- what the C call for a set-point finds, by the check of the file, in a buffer with room
found_by : (file : List ℕ) (s t room : ℕ) (check : Result ℕ Refusal) → checked_file file ≡ check → 32 ≤ room
    → host_answer file s t room ≡ checked_set_point millionth file (of_bits binary64 s) (of_bits binary64 t) check
unfolding host_answer file_set_point
found_by file s t room check is enough = rw (le-leb value_bytes room enough) (ap (checked_set_point millionth file (of_bits binary64 s) (of_bits binary64 t)) is)

-- the set-point that the report's last line is of
answer_at : (file : List ℕ) (count room : ℕ) → checked_file file ≡ Ok count → 32 ≤ room
    → host_answer file half_bits half_bits room ≡ (set_point millionth (file_map millionth file count) half half).answer
answer_at file count room valid enough = found_by file half_bits half_bits room (Ok count) valid enough

pub ends_agree : EndsAgree
unfolding report_of
ends_agree file count room valid enough =
    let map = file_map millionth file count in
    ap (checked_report file) valid
    ∙ ap
    (λ (answer : Result Evaluation Refusal). edit_lines 1 (file_numbers millionth file count) ++ (counts_line (counts_of map) ++ (open_lines (openings_of (store_of map)) ++ mid_line answer)))
    (sym (answer_at file count room valid enough))

pub ends_refuse : EndsRefuse
unfolding report_of
ends_refuse file refusal refused = (
  ap (checked_report file) refused,
  λ s t out enough.
      let found = found_by file s t (length out) (Err refusal) refused enough in
      (ap evaluation_number found, ap (λ (answer : Result Evaluation Refusal). buffer_after answer out) found),
)
