-- `insert_into` meets its contract: the arrays hold the made points of the mesh, and after the insertion those of the definition.
use Prim.Native.Nat.{◌<◌, ◌+◌}
use mathlib.Core.Path.{sym, subst}
use native.Mathlib.Omega.{arith}
use lib.ListN.{set}
use Rattle.control_point.specs.declared.t_mesh_control_point.TmeshControlPoint.{TmeshControlPoint}
use Rattle.lent_points.specs.Lent.{lent_points}
use Rattle.lent_points.proofs.LentLaws.{PackedTo, packed_more}
use Rattle.mesh_insertion.proofs.Unpacked.{into_refused, made_more, into_placed}
use Rattle.mesh_insertion.proofs.insert_into.Goals as goal
use Rattle.mesh_insertion.proofs.insert_into.Goals.{Then-not-is_refused}

-- not refused
made_room : (c : Then-not-is_refused) → c.args.mesh.made < 128
made_room c =
    (made_more c.args.closeness c.args.mesh c.well_formed.1.0.1.1.0.1.0.1 _ _ c.loop-n.n (omega (arith, c.min-n-end.ensures, c.loop-n-test.false)) c.loop-n.invariant.1 c.is_listed-listed.result c.args.con
    c.args.direction c.args.ratio c.insert_point-answer.result c.insert_point-answer.ensures.1 (sym c.if-not-is_refused.ensures)).0

pub overflow_add-n-end : goal.overflow_add-n-end
overflow_add-n-end c = omega (arith, made_room c)

pub lent_point-requires : goal.lent_point-requires
lent_point-requires c = omega (arith, made_room (goal.at.lent_point-requires c).Then-not-is_refused, c.loop-n-then-not-is_refused-test.true)

pub bounds-inserted-n-in-loop-n-then-not-is_refused : goal.bounds-inserted-n-in-loop-n-then-not-is_refused
bounds-inserted-n-in-loop-n-then-not-is_refused c =
    omega (arith, made_room (goal.at.bounds-inserted-n-in-loop-n-then-not-is_refused c).Then-not-is_refused, c.loop-n-then-not-is_refused-test.true)

pub loop-n-then-not-is_refused-preserved : goal.loop-n-then-not-is_refused-preserved
loop-n-then-not-is_refused-preserved c =
    let l = c.loop-n-then-not-is_refused in
    let rest = c.args.mesh.points in
    let lent = lent_points c.insert_point-answer.new.points in (
      l.invariant.0,
      (
        l.invariant.1.0,
        (
          l.invariant.1.1.0,
          subst (λ (point : TmeshControlPoint). PackedTo (l.n + 1) lent rest (set l.inserted.mesh.points l.n point)) (sym c.lent_point.ensures)
              (packed_more l.n lent rest l.inserted.mesh.points
              (omega (arith, c.well_formed.1.0.1.1.0.1.0.1, made_room (goal.at.loop-n-then-not-is_refused-preserved c).Then-not-is_refused, c.loop-n-then-not-is_refused-test.true)) l.invariant.1.1.1),
        ),
      ),
    )

pub bounds-inserted-p : goal.bounds-inserted-p
bounds-inserted-p c = made_room (goal.at.bounds-inserted-p c).Then-not-is_refused

pub bounds-inserted-p-then-not-is_refused : goal.bounds-inserted-p-then-not-is_refused
bounds-inserted-p-then-not-is_refused c = made_room (goal.at.bounds-inserted-p-then-not-is_refused c).Then-not-is_refused

pub returns-after-loop-n-then-not-is_refused : goal.returns-after-loop-n-then-not-is_refused
returns-after-loop-n-then-not-is_refused c =
    let a = c.args in
    let l = c.loop-n-then-not-is_refused in
    rw (l.invariant.0, l.invariant.1.0, l.invariant.1.1.0, c.unpulled.ensures)
    (into_placed a.closeness a.mesh c.well_formed.1.0.1.1.0.1.0.1 _ _ c.loop-n.n (omega (arith, c.min-n-end.ensures, c.loop-n-test.false)) c.loop-n.invariant.1 c.is_listed-listed.result a.con a.direction a.ratio
    c.insert_point-answer.result c.insert_point-answer.ensures.1 (sym c.if-not-is_refused.ensures) l.inserted.mesh.points l.n l.auto.n-end c.loop-n-then-not-is_refused-test.false l.invariant.1.1.1 c.is_done.result c.is_done.ensures
    c.is_listed-listed.ensures a.position)

pub returns-else-not-is_refused : goal.returns-else-not-is_refused
returns-else-not-is_refused c =
    let a = c.args in
    into_refused a.closeness a.mesh c.well_formed.1.0.1.1.0.1.0.1 _ _ c.loop-n.n (omega (arith, c.min-n-end.ensures, c.loop-n-test.false)) c.loop-n.invariant.1 c.is_listed-listed.result a.con a.direction a.ratio
    c.insert_point-answer.result c.insert_point-answer.ensures.1 (sym c.if-not-is_refused.ensures) c.is_listed-listed.ensures a.position
