-- `changed_by` meets its contract: the tests of the kind choose the call, and its arguments are what was read.
use borrow.Author.Tests.{eq-eqb, ne_eqb}
use Rattle.stored_calls.specs.Call.{change}
use Rattle.stored_calls.proofs.call.changed_by.Goals as goal

pub returns-then-kind-eq0 : goal.returns-then-kind-eq0
unfolding change
returns-then-kind-eq0 c = rw (c.make_loose.ensures.is, c.float_at.ensures) (simp (eq-eqb _ _ c.if-kind-eq0.true))

pub returns-then-kind-eq1 : goal.returns-then-kind-eq1
unfolding change
returns-then-kind-eq1 c = rw (c.connect.ensures.is, c.float_at-then-kind-eq1.ensures, c.byte_at.ensures, c.direction_at-direction.ensures, c.byte_at-point.ensures) (simp (ne_eqb _ _ c.if-kind-eq0.false, eq-eqb _ _ c.if-kind-eq1.true))

pub returns-then-kind-eq5 : goal.returns-then-kind-eq5
unfolding change
returns-then-kind-eq5 c = rw (c.set_knot_coordinates.ensures.is, c.float_at-then-kind-eq5-2.ensures, c.float_at-then-kind-eq5.ensures, c.byte_at-point.ensures) (simp (ne_eqb _ _ c.if-kind-eq0.false, ne_eqb _ _ c.if-kind-eq1.false, eq-eqb _ _ c.if-kind-eq5.true))

pub returns-then-kind-eq2 : goal.returns-then-kind-eq2
unfolding change
returns-then-kind-eq2 c = rw (c.remove_connection.ensures.is, c.direction_at-direction-2.ensures, c.byte_at-point.ensures) (simp (ne_eqb _ _ c.if-kind-eq0.false, ne_eqb _ _ c.if-kind-eq1.false, ne_eqb _ _ c.if-kind-eq5.false, eq-eqb _ _ c.if-kind-eq2.true))

pub returns-then-kind-eq3 : goal.returns-then-kind-eq3
unfolding change
returns-then-kind-eq3 c = rw (c.remove_edge_condition.ensures.is, c.direction_at-direction-2.ensures, c.byte_at-point.ensures) (simp (ne_eqb _ _ c.if-kind-eq0.false, ne_eqb _ _ c.if-kind-eq1.false, ne_eqb _ _ c.if-kind-eq5.false, ne_eqb _ _ c.if-kind-eq2.false, eq-eqb _ _ c.if-kind-eq3.true))

pub returns : goal.returns
unfolding change
returns c = rw (c.set_edge_con_weight.ensures.is, c.float_at-2.ensures, c.direction_at-direction-2.ensures, c.byte_at-point.ensures) (simp (ne_eqb _ _ c.if-kind-eq0.false, ne_eqb _ _ c.if-kind-eq1.false, ne_eqb _ _ c.if-kind-eq5.false, ne_eqb _ _ c.if-kind-eq2.false, ne_eqb _ _ c.if-kind-eq3.false))
