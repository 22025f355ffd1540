-- `holds_with_one` meets its contract: what is left decides as all do, until one holds with the window or none is left.
use mathlib.Core.Path.{◌≡◌}
use Rattle.season.specs.Season.{holds_with_one}
use Rattle.season.proofs.holds_with_one.Given as goal

abbrev pub invariant-loop-n : goal.invariant-loop-n
invariant-loop-n l = holds_with_one l.season l.n l.window ≡ holds_with_one l.season l.count l.window
