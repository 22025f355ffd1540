-- `replay_call` meets its contract: a walk, or a change whose answer stands near.
use native.Mathlib.Omega.{arith}
use borrow.Author.Tests.{eq-eqb, ne_eqb}
use Rattle.stored_calls.proofs.CallLaws.{answer_near}
use Rattle.stored_calls.specs.Call.{replay_call}
use Rattle.stored_calls.proofs.call.replay_call.Goals as goal

pub returns-then-kind-eq-NAVIGATE : goal.returns-then-kind-eq-NAVIGATE
unfolding replay_call
returns-then-kind-eq-NAVIGATE c = rw c.replay_walk.ensures (simp (eq-eqb _ _ c.if-kind-eq-NAVIGATE.true))

pub settle-requires : goal.settle-requires
settle-requires c = omega (arith, c.answer_place.ensures, answer_near c.args.kind)

pub returns : goal.returns
unfolding replay_call
returns c = rw (c.settle.ensures, c.answer_place.ensures, c.changed_by.ensures) (simp (ne_eqb _ _ c.if-kind-eq-NAVIGATE.false))
