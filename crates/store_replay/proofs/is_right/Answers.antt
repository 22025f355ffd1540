-- `is_right` meets its contract: at every turn the calls that are left, from where they stand, are as right as the whole list.
use Rattle.std.proofs.Common.{sym, ap, ◌∙◌, arith}
use Rattle.stored_calls.specs.Call.{replay_call}
use Rattle.store_replay.proofs.ListLaws.{calls_none, calls_more}
use Rattle.store_replay.proofs.is_right.Goals as goal

pub loop-preserved : goal.loop-preserved
loop-preserved c =
    let l = c.loop in
    rw (c.after-rest-in-loop.ensures, c.both-right.ensures)
    (calls_more _ l.counter l.rest.now l.store l.right c.replay_call-replayed.result (omega (arith, c.loop-test.true, c.pair_at-end.ensures.value))
    (c.replay_call-replayed.ensures ∙ ap (λ kind. replay_call kind l.rest.now l.store) c.byte_at.ensures)
    ∙ l.invariant)

pub returns : goal.returns
returns c =
    let l = c.loop in
    rw (c.both.ensures, c.is_store.ensures) (sym (calls_none _ l.counter l.rest.now l.store l.right (omega (arith, c.loop-test.false, c.pair_at-end.ensures.value))) ∙ l.invariant)
