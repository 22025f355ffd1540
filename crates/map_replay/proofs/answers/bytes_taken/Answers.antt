-- `bytes_taken` meets its contract, by the two cases of an outcome.
use mathlib.Core.Path.{refl}
use Rattle.map_replay.specs.Answers.{bytes_taken}
use Rattle.map_replay.proofs.answers.bytes_taken.Goals as goal

pub returns-in-Ok : goal.returns-in-Ok
unfolding bytes_taken
returns-in-Ok c = rw c.in-Ok.is refl

pub returns-in-Err : goal.returns-in-Err
unfolding bytes_taken
returns-in-Err c = rw c.in-Err.is refl
