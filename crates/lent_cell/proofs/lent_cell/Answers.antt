-- `lent_cell` meets its contract: at each turn the rows of the points below n are filled and the words by them are those of the points below n, in the map that the arrays hold with any
-- positions.
use Prim.Native.Nat.{◌<◌}
use mathlib.Core.Path.{◌≡◌, refl, ◌∙◌, ap}
use native.Mathlib.Omega.{arith}
use Rattle.std.specs.Prelude.{Err, Ok}
use Rattle.std.proofs.lemmas.Result.{err_from_is_err_and}
use Rattle.lent_cell.proofs.Turn.{unplaced, turn_first, turn_end, turn_passed, turn_refused, turn_marked}
use Rattle.lent_cell.proofs.lent_cell.Goals as goal

pub loop-n-init : goal.loop-n-init
loop-n-init c = turn_first c.args.closeness (unplaced c.args.points.now c.args.made c.args.listed.now) c.args.cell

pub loop-n-preserved-then-not-is_listed : goal.loop-n-preserved-then-not-is_listed
loop-n-preserved-then-not-is_listed c =
    let a = c.args in
    let k = c.loop-n in
    let h : k.n < 128 = omega arith in
    λ positions.
    turn_passed a.closeness (unplaced a.points.now a.made a.listed.now) a.cell positions k.n k.first k.second (k.invariant positions) h c.if-not-is_listed.true _ _ refl refl

pub returns-in_err-built : goal.returns-in_err-built
returns-in_err-built c =
    let a = c.args in
    let k = c.loop-n in
    let h : k.n < 128 = omega arith in
    let left = err_from_is_err_and c.from_residual.result c.from_residual.ensures.1 in
    λ positions.
    left.1
    ∙ ap Err left.2
    ∙ turn_refused a.closeness (unplaced a.points.now a.made a.listed.now) a.cell positions k.n k.first k.second (k.invariant positions) h _ c.knots_under-built.ensures c.if-not-is_listed.false _ c.in_err-built.was

pub loop-n-preserved : goal.loop-n-preserved
loop-n-preserved c =
    let a = c.args in
    let k = c.loop-n in
    let h : k.n < 128 = omega arith in
    λ positions.
    turn_marked a.closeness (unplaced a.points.now a.made a.listed.now) a.cell positions k.n k.first k.second (k.invariant positions) h _ c.knots_under-built.ensures c.if-not-is_listed.false c.in_ok-built.was
    _ c.reaches-set.ensures _ _ c.marked-first.ensures c.marked-second.ensures

pub returns : goal.returns
returns c =
    let a = c.args in
    let k = c.loop-n in
    let h : k.n ≡ 128 = omega arith in
    let fits : a.cell < 256 = omega (arith, c.well_formed) in
    λ positions. ap Ok c.counted.ensures ∙ turn_end a.closeness (unplaced a.points.now a.made a.listed.now) a.cell positions k.n k.first k.second (k.invariant positions) h fits
