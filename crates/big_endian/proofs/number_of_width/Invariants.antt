-- The loop has read the number of the first bytes, which is below 256 to their count.
use Prim.Native.Nat.{◌<◌, ◌^◌}
use mathlib.Core.Path.{◌≡◌}
use Rattle.big_endian.specs.BigEndian.{number_at}
use Rattle.big_endian.proofs.number_of_width.Given as goal

abbrev pub invariant-loop-i : goal.invariant-loop-i
invariant-loop-i l = (l.number ≡ number_at l.i l.bytes l.at) × (l.number < 256 ^ l.i)
