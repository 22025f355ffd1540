-- `outcome_is_right` meets its contract, by the two cases of an outcome.
use mathlib.Core.Path.{refl}
use Rattle.map_replay.specs.Answers.{outcome_is_right}
use Rattle.map_replay.proofs.answers.outcome_is_right.Goals as goal

pub returns-in-Ok : goal.returns-in-Ok
unfolding outcome_is_right
returns-in-Ok c = rw (c.both.ensures, c.floats_are_right.ensures, c.in-Ok.is) refl

pub returns-in-Err : goal.returns-in-Err
unfolding outcome_is_right
returns-in-Err c = rw (c.both-in-Err.ensures, c.floats_are_right-in-Err.ensures, c.number.ensures, c.in-Err.is) refl
