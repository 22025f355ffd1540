-- `count_listed` meets its contract: the sum counts the numbers passed.
use Rattle.std.proofs.Common.{◌≡◌, false, get_or}
use Rattle.counting.specs.Counting.{count_below}
use Rattle.census.proofs.counts.count_listed.Given as goal

abbrev pub invariant-loop-is_listed : goal.invariant-loop-is_listed
invariant-loop-is_listed l = l.sum ≡ count_below l.is_listed-index (λ n. get_or l.fn.listed n false)
