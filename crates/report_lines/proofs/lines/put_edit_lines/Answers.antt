-- `put_edit_lines` meets its contract: at each turn the lines that are left, put behind what is there, give the whole.
use Prim.Native.Nat.{ℕ, ◌+◌}
use mathlib.Core.List.{List}
use native.Mathlib.Omega.{arith}
use lib.ListN.{drop, get_or}
use Rattle.report_lines.specs.Lines.{edit_line, edit_lines}
use Rattle.report_lines.proofs.LinesLaws.{left_fits, left_next, left_none, edit_lines_next, edit_lines_none}
use Rattle.report_lines.proofs.lines.put_edit_lines.Goals as goal

-- the line at i and those behind it
abbrev line : List ℕ → ℕ → List ℕ
line numbers i = edit_line (i + 1) (get_or numbers i 0)

abbrev rest : List ℕ → ℕ → List ℕ
rest numbers i = edit_lines (i + 1 + 1) (drop (i + 1) numbers)

pub put_edit_line-end-requires : goal.put_edit_line-end-requires
put_edit_line-end-requires c =
    let numbers = c.args.numbers.now in
    let i = c.loop-i.i in
    record { few = omega arith; fits = left_fits c.loop-i.invariant (line numbers i) (rest numbers i) (edit_lines_next numbers i (omega arith)) c.requires.fits }

pub loop-i-preserved : goal.loop-i-preserved
loop-i-preserved c =
    let numbers = c.args.numbers.now in
    let i = c.loop-i.i in
    left_next c.loop-i.invariant (rest numbers i) (edit_lines_next numbers i (omega arith)) c.put_edit_line-end.ensures

pub returns : goal.returns
returns c =
    left_none c.loop-i.invariant (edit_lines_none c.args.numbers.now _ c.loop-i.i (omega arith))
