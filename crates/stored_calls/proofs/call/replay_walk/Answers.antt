-- `replay_walk` meets its contract: the walk's arguments and its answer are what was read.
use mathlib.Core.Path.{refl}
use Rattle.stored_calls.specs.Call.{replay_walk}
use Rattle.stored_calls.proofs.call.replay_walk.Goals as goal

pub returns : goal.returns
unfolding replay_walk
returns c = rw (c.walk_bytes-bytes.ensures, c.walk_is_right-right.ensures, c.number_at.ensures, c.byte_at-3.ensures, c.byte_at-2.ensures, c.byte_at-number.ensures, c.navigate_until_con-walk.ensures.is, c.byte_at.ensures, c.direction_at-watch.ensures, c.direction_at-travel.ensures) refl
