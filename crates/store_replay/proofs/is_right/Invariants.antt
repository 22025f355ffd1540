-- `is_right` meets its contract: at every turn the calls that are left, from where they stand, are as right as the whole list.
use Rattle.std.specs.Prelude.{◌≡◌, ◌-◌}
use Rattle.big_endian.specs.BigEndian.{number_at}
use Rattle.store_replay.specs.List.{calls_are_right, is_right}
use Rattle.store_replay.proofs.is_right.Given as goal

abbrev pub invariant-loop : goal.invariant-loop
invariant-loop l = calls_are_right (number_at 2 l.list 0 - l.counter) l.rest l.store l.right ≡ is_right l.list
