-- `judge_insertion` meets its contract, by the three cases of an answer.
use mathlib.Core.Path.{refl}
use Rattle.map_replay.specs.Answers.{insertion_judged}
use Rattle.map_replay.proofs.answers.judge_insertion.Goals as goal

pub returns-in-Done : goal.returns-in-Done
unfolding insertion_judged
returns-in-Done c = rw (c.both.ensures, c.counts_are_right.ensures, c.byte_at-number.ensures, c.in-Ok.is, c.in-Done.is) refl

pub returns-in-Torn : goal.returns-in-Torn
unfolding insertion_judged
returns-in-Torn c = rw (c.both-in-Torn.ensures, c.counts_are_right-in-Torn.ensures, c.byte_at-number.ensures, c.in-Ok.is, c.in-Torn.is) refl

pub returns-in-Err : goal.returns-in-Err
unfolding insertion_judged
returns-in-Err c = rw (c.number.ensures, c.byte_at-number.ensures, c.in-Err.is) refl
