-- `put_edits` meets its contract: what is left to write gives what was to be written.
use Prim.Native.Nat.{◌+◌, ◌*◌, ◌-◌}
use mathlib.Core.Path.{◌≡◌}
use Rattle.big_endian.specs.Written.{written}
use Rattle.map_format.specs.Format.{edits_at, edit_bytes, bytes_of_edits}
use Rattle.load.specs.Load.{drawn_edits}
use Rattle.load.proofs.put_edits.Given as goal

abbrev pub invariant-loop-n : goal.invariant-loop-n
invariant-loop-n l =
    written l.out (edits_at + l.n * edit_bytes) (bytes_of_edits (drawn_edits (l.count - l.n) l.state)) ≡ written l.initial.out edits_at (bytes_of_edits (drawn_edits l.count l.seed))
