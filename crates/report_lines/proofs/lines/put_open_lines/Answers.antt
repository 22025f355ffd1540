-- `put_open_lines` meets its contract: at each turn the lines that are left, put behind what is there, give the whole, whichever sides the list is the answer of.
use Prim.Native.Nat.{ℕ, ◌+◌, ◌<◌, ◌≤◌}
use mathlib.Core.Path.{◌≡◌, ap}
use mathlib.Core.List.{List, ◌++◌}
use native.Mathlib.Omega.{arith}
use lib.ListN.{drop, get_or}
use Rattle.openings.specs.Openings.{PointSide, openings_of, openings_answer}
use Rattle.openings.proofs.OpeningsLaws.{answer_count}
use Rattle.openings.proofs.OpeningsProof.{few_openings}
use Rattle.openings.specs.declared.list.Openings.{Openings}
use Rattle.report_lines.specs.Lines.{open_line, open_lines}
use Rattle.store.specs.declared.store.Store.{Store}
use Rattle.report_lines.proofs.LinesLaws.{left_fits, left_next, left_none, open_lines_next, open_lines_none}
use Rattle.report_lines.proofs.lines.put_open_lines.Goals as goal

-- the list is the answer of a store's openings, so there are few
few : (store : Store) (list : Openings) → list ≡ openings_answer (openings_of store) → list.count ≤ 512
few store list is = omega (arith, ap (λ (list : Openings). list.count) is, answer_count (openings_of store), few_openings store)

-- the line at i
abbrev line : Openings → ℕ → List ℕ
line list i = open_line (get_or list.points i 0) (get_or list.directions i 0)

-- the line that is put and those behind it are what is left
next : (list : Openings) (i : ℕ) → i < list.count → (sides : List PointSide) → list ≡ openings_answer sides
    → open_lines (drop i sides) ≡ line list i ++ open_lines (drop (i + 1) sides)
next list i below sides so = open_lines_next sides list i so (omega (arith, ap (λ (answer : Openings). answer.count) so, answer_count sides))

pub bounds-list-i : goal.bounds-list-i
bounds-list-i c = omega (arith, few c.args.store c.openings-list.result c.openings-list.ensures)

pub bounds-list-i-in-loop-i : goal.bounds-list-i-in-loop-i
bounds-list-i-in-loop-i c = omega (arith, few c.args.store c.openings-list.result c.openings-list.ensures)

pub put_open_line-end-requires : goal.put_open_line-end-requires
put_open_line-end-requires c =
    let sides = openings_of c.args.store in
    let so = c.openings-list.ensures in
    left_fits (c.loop-i.invariant sides so) (line c.openings-list.result c.loop-i.i) (open_lines (drop (c.loop-i.i + 1) sides))
    (next c.openings-list.result c.loop-i.i (omega arith) sides so) c.requires

pub loop-i-preserved : goal.loop-i-preserved
loop-i-preserved c = λ sides so. left_next (c.loop-i.invariant sides so) (open_lines (drop (c.loop-i.i + 1) sides)) (next c.openings-list.result c.loop-i.i (omega arith) sides so) c.put_open_line-end.ensures

pub returns : goal.returns
returns c =
    let sides = openings_of c.args.store in
    let so = c.openings-list.ensures in
    left_none (c.loop-i.invariant sides so)
    (open_lines_none sides c.loop-i.i (omega (arith, ap (λ (answer : Openings). answer.count) so, answer_count sides)))
