-- `can_pull` meets its contract: each return picks its case by the first test, and 1.0 / 0.0 is the infinity.
use mathlib.Core.Path.{sym, ap, ◌∙◌}
use mathlib.Core.Bool.{Bool, false, ◌&&◌}
use lib.Ieee.{inf, lt}
use Rattle.float64.proofs.BitsLaws.{infinity}
use Rattle.pull.proofs.can_pull.Goals as goal

pub returns-then-pull : goal.returns-then-pull
returns-then-pull c =
    let pull = c.args.pull in
    ap (lt pull) infinity ∙ ap (λ (b : Bool). b && lt pull (inf false)) (sym c.if-pull.true)
