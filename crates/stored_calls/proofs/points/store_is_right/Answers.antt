-- `store_is_right` meets its contract: the loop has compared the first n points.
use mathlib.Core.Path.{◌≡◌, sym}
use native.Mathlib.Omega.{arith}
use borrow.Author.Tests.{lt-ltb}
use Rattle.stored_calls.specs.Points.{store_is_right}
use Rattle.stored_calls.proofs.PointsLaws.{points_none, points_more, store_with_room}
use Rattle.stored_calls.proofs.points.store_is_right.Goals as goal

pub returns-then-made-gt-CAPACITY : goal.returns-then-made-gt-CAPACITY
unfolding store_is_right
returns-then-made-gt-CAPACITY c = simp (lt-ltb _ _ c.if-made-gt-CAPACITY.true)

pub loop-n-init : goal.loop-n-init
loop-n-init c = sym (points_none _ _)

pub loop-n-preserved : goal.loop-n-preserved
loop-n-preserved c = let l = c.loop-n in rw (c.both-right.ensures, l.invariant, c.point_is_right.ensures, c.after.ensures) (sym (points_more l.n _ _))

pub returns : goal.returns
returns c =
    let l = c.loop-n in
    let a = c.args in
    let whole : l.n ≡ a.store.made = omega (arith, c.wide-n-end.ensures) in
    rw (c.both.ensures, l.invariant, c.byte_at.ensures, whole) (sym (store_with_room a.store a.bytes.now (omega arith)))
