-- The ledger for files: a file's edits are a list of calls, to which the ledger over lists applies, and the counts that the program prints are those of the map that they leave.
use Rattle.std.specs.Prelude.{◌≡◌, refl, Bool, List, [], ◌∷◌, ◌++◌, Float}
use Rattle.std.proofs.Common.{sym, ap, ◌∙◌, subst}
use Rattle.big_endian.specs.BigEndian.{float_at}
use Rattle.control_point.specs.Small.{millionth}
use Rattle.t_mesh.specs.Tmesh.{store_of}
use Rattle.t_mesh.specs.declared.t_mesh.Tmesh.{Tmesh}
use Rattle.census.specs.declared.census.Counts.{Counts}
use Rattle.openings.specs.Openings.{openings_of}
use Rattle.openings.proofs.OpeningsLaws.{answer_count}
use Rattle.calls.specs.Calls.{run_of}
use Rattle.soundness.specs.MapCalls.{map_after_all, entries}
use Rattle.ledger.specs.Ledger.{entered_before, entered}
use Rattle.ledger.specs.Theorem.{entered_answers, HasLedger}
use Rattle.ledger.proofs.TheoremProof.{ledger_of_sides}
use Rattle.map_format.specs.Format.{border_at, edits_at, file_withdraws, Edit, edits_from}
use Rattle.map_file.specs.Run.{corner_of, fresh_map, edited, edit_answers, file_map, file_numbers}
use Rattle.report_lines.specs.Lines.{edit_lines, counts_line, open_lines, mid_line}
use Rattle.gatemap_host.specs.SetPoint.{host_answer}
use Rattle.file_soundness.proofs.CallsLaws.{calls_of, edits_are_calls}
use Rattle.file_soundness.proofs.EndsProof.{ends_agree}
use Rattle.file_soundness.specs.Theorems.{half_bits, file_entered, FileLedger, ReportByAnswers}

-- the answers of the calls that the ledger has are those of the edits
calls_answer : (withdraws : Bool) (e : Float) (edits : List Edit) (before : Tmesh)
    → entered_answers (run_of e before (calls_of withdraws edits)) ≡ entered withdraws (edit_answers withdraws e before edits)
unfolding run_of calls_of entered_answers entered edit_answers
calls_answer withdraws e [] before = refl
calls_answer withdraws e (edit ∷ rest) before =
    ap (entered_before withdraws (edited withdraws e before edit).answer) (calls_answer withdraws e rest (edited withdraws e before edit).map)

pub file_ledger : FileLedger
file_ledger e file count =
    let edits = edits_from count file edits_at in
    let fresh = fresh_map file in
    let withdraws = file_withdraws file in
    subst (λ (after : Tmesh). HasLedger after (file_entered e file count)) (sym (edits_are_calls withdraws e fresh edits))
    (subst (HasLedger (map_after_all e fresh (entries (calls_of withdraws edits)))) (calls_answer withdraws e edits fresh)
    (ledger_of_sides e (float_at file border_at) (corner_of file 0) (corner_of file 1) (corner_of file 2) (corner_of file 3) (calls_of withdraws edits)))

pub report_by_answers : ReportByAnswers
report_by_answers file count room valid enough =
    let after = file_map millionth file count in
    let openings = openings_of (store_of after) in
    let last = open_lines openings ++ mid_line (host_answer file half_bits half_bits room) in
    let ledger = file_ledger millionth file count in (
      ends_agree file count room valid enough
          ∙ ap (λ (counts : Counts). edit_lines 1 (file_numbers millionth file count) ++ (counts_line counts ++ last)) ledger.counts,
      sym (answer_count openings) ∙ ledger.openings,
    )
