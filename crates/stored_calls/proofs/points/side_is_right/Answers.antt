-- `side_is_right` meets its contract, by the three cases of a side.
use mathlib.Core.Path.{refl}
use Rattle.stored_calls.specs.Points.{side_is_right}
use Rattle.stored_calls.proofs.points.side_is_right.Goals as goal

pub returns-in-Link : goal.returns-in-Link
unfolding side_is_right
returns-in-Link c = rw (c.both-in-Link.ensures, c.has_bits.ensures, c.both.ensures, c.in-Link.is) refl

pub returns-in-Border : goal.returns-in-Border
unfolding side_is_right
returns-in-Border c = rw (c.both-in-Border.ensures, c.has_bits-in-Border.ensures, c.in-Border.is) refl

pub returns-in-Opening : goal.returns-in-Opening
unfolding side_is_right
returns-in-Opening c = rw c.in-Opening.is refl
