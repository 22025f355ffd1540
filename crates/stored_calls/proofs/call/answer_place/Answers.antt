-- `answer_place` meets its contract: each kind has its place.
use native.Mathlib.Omega.{arith}
use mathlib.Core.Path.{refl}
use borrow.Author.Tests.{ne_eqb}
use Rattle.stored_calls.specs.Call.{answer_place}
use Rattle.stored_calls.proofs.call.answer_place.Goals as goal

pub returns-in-0 : goal.returns-in-0
unfolding answer_place
returns-in-0 c = rw c.in-0.is refl

pub returns-in-1 : goal.returns-in-1
unfolding answer_place
returns-in-1 c = rw c.in-1.is refl

pub returns-in-2 : goal.returns-in-2
unfolding answer_place
returns-in-2 c = rw c.in-2.is refl

pub returns-in-3 : goal.returns-in-3
unfolding answer_place
returns-in-3 c = rw c.in-3.is refl

pub returns-in-5 : goal.returns-in-5
unfolding answer_place
returns-in-5 c = rw c.in-5.is refl

pub returns-in_default : goal.returns-in_default
unfolding answer_place
returns-in_default c =
    let kind = c.args.kind in
    simp (ne_eqb kind 0 (λ e. omega arith), ne_eqb kind 1 (λ e. omega arith), ne_eqb kind 2 (λ e. omega arith), ne_eqb kind 3 (λ e. omega arith), ne_eqb kind 5 (λ e. omega arith))
