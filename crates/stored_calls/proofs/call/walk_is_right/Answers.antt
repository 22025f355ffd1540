-- `walk_is_right` meets its contract, by the two cases of a walk.
use mathlib.Core.Path.{refl}
use Rattle.stored_calls.specs.Call.{walk_is_right}
use Rattle.stored_calls.proofs.call.walk_is_right.Goals as goal

pub returns-in-Ok : goal.returns-in-Ok
unfolding walk_is_right
returns-in-Ok c = rw (c.both-in-Ok-2.ensures, c.both-in-Ok.ensures, c.has_bits.ensures, c.both.ensures, c.in-Ok.is) refl

pub returns-in-Err : goal.returns-in-Err
unfolding walk_is_right
returns-in-Err c = rw (c.number.ensures, c.in-Err.is) refl
