-- `put_text` meets its contract: after i turns the first i bytes of the text are written.
use mathlib.Core.Path.{◌≡◌}
use lib.ListN.{take}
use Rattle.big_endian.specs.Written.{written}
use Rattle.report_text.proofs.text.put_text.Given as goal

abbrev pub invariant-loop-i : goal.invariant-loop-i
invariant-loop-i l = l.out ≡ written l.initial.out l.at (take l.i l.text)
