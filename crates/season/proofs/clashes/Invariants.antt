-- `clashes` meets its contract: what is left decides as all do, until one can't hold, one holds with another, or none is left.
use mathlib.Core.Path.{◌≡◌}
use Rattle.season.specs.Season.{clashes}
use Rattle.season.proofs.clashes.Given as goal

abbrev pub invariant-loop-n : goal.invariant-loop-n
invariant-loop-n l = clashes l.season l.n ≡ clashes l.season l.count
