-- The bits of the basis function at what was read are compared with the bits read.
use Rattle.std.proofs.Common.{refl}
use Rattle.basis_replay.specs.Case.{is_right}
use Rattle.basis_replay.proofs.is_right.Goals as goal

pub returns : goal.returns
unfolding is_right
returns c = rw (c.number_at.ensures, c.to_bits.ensures, c.basis_function-value.ensures, c.knots_of.ensures, c.float_at.ensures) refl
