-- `subs` meets its contract: the map by whose knots it evaluates is the definition's, and at each turn the four sums stand at n.
use Prim.Native.Nat.{◌<◌}
use mathlib.Core.Path.{◌≡◌}
use native.Mathlib.Omega.{arith}
use Rattle.control_point.specs.Small.{millionth}
use Rattle.surface.proofs.EvaluationLaws.{sums_end, sums_added, sums_passed, ready_kept, ready_built, evaluated_ready, subs_told}
use Rattle.control_point.proofs.ToldLaws.{beside}
use Rattle.surface.specs.Evaluation.{evaluation_told}
use Rattle.surface.specs.declared.evaluation.Evaluated.{Evaluated}
use Rattle.evaluation.proofs.evaluation.subs.Goals as goal
use Rattle.evaluation.proofs.evaluation.subs.Goals.{then-not-map, else-not-map, then-listed-n, else-listed-n}

pub loop-n-preserved : goal.loop-n-preserved
loop-n-preserved c =
    let a = c.args in
    let m = c.if-not-map.map in
    let k = c.loop-n in
    let o = c.if-listed-n in
    let h : k.n < 128 = omega arith in elim o.branch [
      | then-listed-n w ↦
          sums_added m a.s a.t k.n k.x k.y k.z k.weight o.x o.y o.z o.weight h k.invariant
          w.share_of-share.result w.if-listed-n.true w.share_of-share.ensures w.x-is w.y-is w.z-is w.weight-is
      | else-listed-n w ↦
          sums_passed m a.s a.t k.n k.x k.y k.z k.weight o.x o.y o.z o.weight h k.invariant
          w.if-listed-n.false w.x-is w.y-is w.z-is w.weight-is
    ]

pub returns : goal.returns
returns c =
    let all = (let a = c.args in
    let m = c.if-not-map.map in
    let o = c.if-not-map.outcome in
    let k = c.loop-n in
    let h : k.n ≡ 128 = omega arith in
    beside (λ (x : Evaluated). evaluation_told x.answer) _ _ (subs_told millionth a.map a.s a.t) _
    (evaluated_ready millionth a.map a.s a.t o m _ c.answer_by-answer.result
    (elim c.if-not-map.branch [
      | then-not-map w ↦
          ready_built millionth a.map o m w.generate_knot_vectors-generated.result w.generate_knot_vectors-generated.ensures.is w.if-not-map.true w.outcome-is w.map-is
      | else-not-map w ↦ ready_kept millionth a.map o m w.if-not-map.false w.outcome-is w.map-is
    ])
    (sums_end m a.s a.t k.n k.x k.y k.z k.weight h k.invariant)
    c.answer_by-answer.ensures)) in record { is = all.0; told = all.1 }
