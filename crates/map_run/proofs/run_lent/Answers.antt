-- `run_lent` meets its contract: what is left of the run gives the whole, from the four corners on and through each edit.
use mathlib.Core.Path.{◌≡◌, ap, ◌∙◌}
use native.Mathlib.Omega.{arith}
use lib.ListN.{set}
use Rattle.map_file.proofs.RunLaws.{running_next, running_map, running_notes}
use Rattle.map_run.proofs.run_lent.Goals as goal

pub loop-n-preserved : goal.loop-n-preserved
loop-n-preserved c =
    let edited = c.run_edit-answer.ensures in
    let noted = c.put_byte.ensures ∙ ap (set c.loop-n.notes c.loop-n.n) c.answer_number.ensures in (
      edited.room,
      running_next _ _ _ _ _ _ _ _ c.loop-n.invariant.1 c.loop-n-test.true _ c.next_place-at.ensures _ c.file_withdraws-withdraws.ensures _ edited.answer _ edited.mesh _ noted,
    )

pub returns : goal.returns
returns c =
    let all : c.loop-n.n ≡ c.args.count = omega arith in
    let running = c.loop-n.invariant.1 in
    record { map = running_map _ _ _ _ _ _ _ _ running all; notes = running_notes _ _ _ _ _ _ _ _ running all }
