-- `openings` meets its contract: at each turn the openings among the sides passed are listed.
use mathlib.Core.Path.{◌≡◌}
use Rattle.openings.specs.Openings.{openings_answer}
use Rattle.openings.proofs.OpeningsLaws.{open_below}
use Rattle.openings.proofs.openings.openings.Given as goal

abbrev pub invariant-loop-place : goal.invariant-loop-place
invariant-loop-place l = l.list ≡ openings_answer (open_below l.store l.place)
