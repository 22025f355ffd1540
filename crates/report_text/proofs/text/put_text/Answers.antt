-- `put_text` meets its contract: after i turns the first i bytes of the text are written.
use mathlib.Core.Path.{refl, ◌∙◌}
use native.Mathlib.Omega.{arith}
use Rattle.big_endian.specs.Written.{written}
use Rattle.report_text.proofs.PutLaws.{written_next}
use Rattle.report_text.proofs.text.put_text.Goals as goal

pub loop-i-init : goal.loop-i-init
unfolding written
loop-i-init c = refl

pub loop-i-preserved : goal.loop-i-preserved
loop-i-preserved c = let l = c.loop-i in let a = c.args in c.put_byte.ensures ∙ written_next a.out.now a.at a.text.now l.out l.i (omega arith) l.invariant
