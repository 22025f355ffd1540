-- `put_number` meets its contract: of a number below 10,000 the fewest digits are the decimal.
use mathlib.Core.Path.{ap, ◌∙◌}
use mathlib.Core.List.{List, ◌∷◌}
use native.Mathlib.Omega.{arith}
use lib.ListN.{length}
use Rattle.report_text.proofs.PutLaws.{put_as}
use Rattle.report_text.proofs.TextLaws.{decimal_digits}
use Rattle.report_text.proofs.text.put_number.Goals as goal

pub put_word-requires : goal.put_word-requires
put_word-requires c = omega (arith, ap length ((c.decimal-count.ensures.digits ∙ decimal_digits _ _ c.requires.few c.decimal-count.ensures.len)), c.requires.fits)

pub returns : goal.returns
returns c = put_as (ap (λ (text : List _). 32 ∷ text) ((c.decimal-count.ensures.digits ∙ decimal_digits _ _ c.requires.few c.decimal-count.ensures.len))) c.put_word.ensures
