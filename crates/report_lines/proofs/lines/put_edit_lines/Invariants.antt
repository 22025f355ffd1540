-- `put_edit_lines` meets its contract: at each turn the lines that are left, put behind what is there, give the whole.
use Prim.Native.Nat.{◌+◌}
use lib.ListN.{drop}
use Rattle.report_lines.specs.Lines.{edit_lines}
use Rattle.report_lines.proofs.LinesLaws.{Left}
use Rattle.report_lines.proofs.lines.put_edit_lines.Given as goal

abbrev pub invariant-loop-i : goal.invariant-loop-i
invariant-loop-i l = Left l.initial.out l.at (edit_lines 1 l.numbers) l.out l.end (edit_lines (l.i + 1) (drop l.i l.numbers))
