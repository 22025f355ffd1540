-- `put_open_lines` meets its contract: at each turn the lines that are left, put behind what is there, give the whole, whichever sides the list is the answer of.
use mathlib.Core.Path.{◌≡◌}
use mathlib.Core.List.{List}
use lib.ListN.{drop}
use Rattle.openings.specs.Openings.{PointSide, openings_answer}
use Rattle.report_lines.specs.Lines.{open_lines}
use Rattle.report_lines.proofs.LinesLaws.{Left}
use Rattle.report_lines.proofs.lines.put_open_lines.Given as goal

abbrev pub invariant-loop-i : goal.invariant-loop-i
invariant-loop-i l =
    (sides : List PointSide) → l.list ≡ openings_answer sides → Left l.initial.out l.at (open_lines sides) l.out l.end (open_lines (drop l.i sides))
