-- Laws of specs/Value.antt: what four numbers written one behind the other leave.
use Prim.Native.Nat.{ℕ}
use mathlib.Core.Path.{◌≡◌, sym, ◌∙◌}
use mathlib.Core.List.{List}
use Rattle.big_endian.specs.Written.{written}
use Rattle.big_endian.proofs.WrittenLaws.{written_number}
use Rattle.surface.specs.declared.evaluation.Evaluation.{Evaluation}
use Rattle.value_bytes.specs.Value.{bits_of, bytes_of_value}

-- the four numbers of a value, each at its place
pub written_value : (out : List ℕ) (value : Evaluation)
    → written (written (written (written out 0 (bits_of value.x)) 8 (bits_of value.y)) 16 (bits_of value.z)) 24 (bits_of value.weight)
    ≡ written out 0 (bytes_of_value value)
written_value out value = sym (written_number out 0 8 _ _ ∙ written_number _ 8 8 _ _ ∙ written_number _ 16 8 _ _)
