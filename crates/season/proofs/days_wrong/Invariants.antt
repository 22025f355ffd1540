-- `days_wrong` meets its contract: what is left decides as all do, until one is past the day or none is left.
use mathlib.Core.Path.{◌≡◌}
use Rattle.season.specs.Season.{days_wrong}
use Rattle.season.proofs.days_wrong.Given as goal

abbrev pub invariant-loop-n : goal.invariant-loop-n
invariant-loop-n l = days_wrong l.season l.n ≡ days_wrong l.season l.count
