-- `lent_value` meets its contract: at each turn the four sums of the map that the arrays hold stand at n.
use Prim.Native.Nat.{◌<◌}
use mathlib.Core.Path.{◌≡◌}
use native.Mathlib.Omega.{arith}
use Rattle.surface.proofs.EvaluationLaws.{sums_end, sums_added, sums_passed}
use Rattle.lent_surface.specs.Lent.{held_map}
use Rattle.lent_surface.proofs.LentLaws.{held_share}
use Rattle.lent_surface.proofs.lent_value.Goals as goal
use Rattle.lent_surface.proofs.lent_value.Goals.{then-listed-n, else-listed-n}

pub loop-n-preserved : goal.loop-n-preserved
loop-n-preserved c =
    let a = c.args in
    let m = held_map a.across.now a.upwards.now a.places.now a.listed.now in
    let k = c.loop-n in
    let o = c.if-listed-n in
    let h : k.n < 128 = omega arith in elim o.branch [
      | then-listed-n w ↦
          sums_added m a.s a.t k.n k.x k.y k.z k.weight o.x o.y o.z o.weight h k.invariant
          w.lent_share-share.result w.if-listed-n.true
          (held_share a.across.now a.upwards.now a.places.now a.listed.now k.n h a.s a.t w.lent_share-share.result w.lent_share-share.ensures)
          w.x-is w.y-is w.z-is w.weight-is
      | else-listed-n w ↦
          sums_passed m a.s a.t k.n k.x k.y k.z k.weight o.x o.y o.z o.weight h k.invariant
          w.if-listed-n.false w.x-is w.y-is w.z-is w.weight-is
    ]

pub returns : goal.returns
returns c =
    let a = c.args in
    let k = c.loop-n in
    let h : k.n ≡ 128 = omega arith in
    sums_end (held_map a.across.now a.upwards.now a.places.now a.listed.now) a.s a.t
    k.n k.x k.y k.z k.weight h k.invariant
