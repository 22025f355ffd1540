-- `packed_points` meets its contract: each made point of the arrays stands in the list.
use Prim.Native.Nat.{ℕ, ◌<◌, ◌+◌}
use mathlib.Core.Path.{◌≡◌, sym, subst}
use mathlib.Core.Bool.{true}
use native.Mathlib.Omega.{arith}
use borrow.Author.Tests.{lt-ltb}
use lib.ListN.{length-replicate, replicate, set}
use Rattle.control_point.proofs.PointLaws.{is_made_made, is_made_room}
use Rattle.control_point.specs.Point.{is_made}
use Rattle.control_point.specs.declared.t_mesh_control_point.TmeshControlPoint.{TmeshControlPoint}
use Rattle.lent_points.specs.Lent.{lent_points}
use Rattle.lent_points.proofs.LentLaws.{PackedTo, packed_more}
use Rattle.lent_mesh.proofs.LentMeshLaws.{packed_all}
use Rattle.packed_map.proofs.packed_points.Goals as goal

made_in_room : (made n : ℕ) → n < made → n < 128 → is_made made n ≡ true
unfolding is_made
made_in_room made n h room = rw (lt-ltb n made h, lt-ltb n 128 room)

pub loop-k-preserved : goal.loop-k-preserved
loop-k-preserved c =
    let k = c.loop-k.k in
    let lent = lent_points c.args.lent.now in
    let loose = replicate 128 c.loose_point-points.result in
    subst (λ (point : TmeshControlPoint). PackedTo (k + 1) lent loose (set c.loop-k.points k point)) (sym c.lent_point.ensures)
    (packed_more k lent loose c.loop-k.points (omega (arith, length-replicate 128 c.loose_point-points.result)) c.loop-k.invariant)

pub returns : goal.returns
returns c =
    let a = c.args in
    let l = c.loop-k in
    packed_all (lent_points a.lent.now) c.loose_point-points.result l.points a.made l.k c.loose_point-points.ensures (omega arith)
    (λ n h. made_in_room a.made n (omega arith) (omega arith))
    (λ n h. omega (arith, is_made_made a.made n h, is_made_room a.made n h))
    l.invariant
