-- `settle` meets its contract: the outcome's number is compared with the byte read.
use mathlib.Core.Path.{refl}
use Rattle.stored_calls.specs.Call.{settled}
use Rattle.stored_calls.proofs.call.settle.Goals as goal

pub returns : goal.returns
unfolding settled
returns c = rw (c.number_of.ensures, c.byte_at.ensures) refl
