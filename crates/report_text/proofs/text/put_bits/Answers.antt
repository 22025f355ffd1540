-- `put_bits` meets its contract: 64 bits have 16 hexadecimal digits.
use Prim.Native.Nat.{ℕ}
use mathlib.Core.Path.{ap, ◌∙◌}
use mathlib.Core.List.{List, ◌∷◌}
use native.Mathlib.Omega.{arith}
use lib.ListN.{length}
use Rattle.report_text.proofs.PutLaws.{put_as}
use Rattle.report_text.proofs.TextLaws.{bits_digits}
use Rattle.report_text.proofs.text.put_bits.Goals as goal

pub put_word-requires : goal.put_word-requires
put_word-requires c = omega (arith, ap length ((ap (λ (text : List ℕ). 32 ∷ text) c.hex-count.ensures.digits ∙ bits_digits _ _ _ c.to_bits.ensures c.to_bits.type_inv c.hex-count.ensures.len)), c.requires)

pub returns : goal.returns
returns c = put_as ((ap (λ (text : List ℕ). 32 ∷ text) c.hex-count.ensures.digits ∙ bits_digits _ _ _ c.to_bits.ensures c.to_bits.type_inv c.hex-count.ensures.len)) c.put_word.ensures
