-- `lent_answer` meets its contract: at each turn the rows of the points below n are filled and the sums by them stand at n, in the map that the arrays hold.
use Prim.Native.Nat.{◌<◌}
use mathlib.Core.Path.{◌≡◌, refl, ap, ◌∙◌}
use native.Mathlib.Omega.{arith}
use Rattle.std.specs.Prelude.{Err}
use Rattle.std.proofs.lemmas.Result.{err_from_is_err_and}
use Rattle.t_mesh.specs.Tmesh.{unpulled}
use Rattle.lent_evaluation.proofs.Turn.{turn_first, turn_end, turn_passed, turn_refused, turn_added}
use Rattle.lent_evaluation.proofs.lent_answer.Goals as goal

pub loop-n-init : goal.loop-n-init
loop-n-init c = turn_first c.args.closeness c.args.mesh.now c.args.s c.args.t

pub loop-n-preserved-then-not-listed : goal.loop-n-preserved-then-not-listed
loop-n-preserved-then-not-listed c =
    let a = c.args in
    let k = c.loop-n in
    let h : k.n < 128 = omega arith in
    turn_passed a.closeness a.mesh.now a.s a.t k.n k.x k.y k.z k.weight k.invariant h c.if-not-listed.true _ _ _ _ refl refl refl refl

pub returns-in_err-built : goal.returns-in_err-built
returns-in_err-built c =
    let a = c.args in
    let k = c.loop-n in
    let h : k.n < 128 = omega arith in
    let left = err_from_is_err_and c.from_residual.result c.from_residual.ensures.1 in
    left.1
    ∙ ap Err left.2
    ∙ turn_refused a.closeness a.mesh.now a.s a.t k.n k.x k.y k.z k.weight k.invariant h _ c.knots_under-built.ensures c.if-not-listed.false _ c.in_err-built.was

pub loop-n-preserved : goal.loop-n-preserved
loop-n-preserved c =
    let a = c.args in
    let k = c.loop-n in
    let h : k.n < 128 = omega arith in
    turn_added a.closeness a.mesh.now a.s a.t k.n k.x k.y k.z k.weight k.invariant h _ c.knots_under-built.ensures c.if-not-listed.false c.in_ok-built.was
    _ (c.unpulled-place.ensures ∙ ap unpulled c.lent_position.ensures) _ c.share_of-share.ensures _ _ _ _ refl refl refl refl

pub returns : goal.returns
returns c =
    let a = c.args in
    let k = c.loop-n in
    let h : k.n ≡ 128 = omega arith in
    turn_end a.closeness a.mesh.now a.s a.t k.n k.x k.y k.z k.weight k.invariant h
