-- `judge_evaluation` meets its contract, by the two cases of an answer.
use mathlib.Core.Path.{refl}
use Rattle.map_replay.specs.Answers.{evaluation_judged}
use Rattle.map_replay.proofs.answers.judge_evaluation.Goals as goal

pub returns-in-Ok : goal.returns-in-Ok
unfolding evaluation_judged
returns-in-Ok c = rw (c.both.ensures, c.value_is_right.ensures, c.after.ensures, c.byte_at-number.ensures, c.in-Ok.is) refl

pub returns-in-Err : goal.returns-in-Err
unfolding evaluation_judged
returns-in-Err c = rw (c.number.ensures, c.byte_at-number.ensures, c.in-Err.is) refl
