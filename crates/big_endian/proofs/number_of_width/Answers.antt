-- Each byte of the rest stands at its place in all bytes, and the number of so many bytes leaves room for one more.
use Rattle.std.proofs.Common.{arith, rules}
use Rattle.big_endian.specs.BigEndian.{number_at}
use Rattle.big_endian.proofs.Laws.{number_more, below_more, room}
use Rattle.big_endian.proofs.number_of_width.Goals as goal

pub loop-i-init : goal.loop-i-init
unfolding number_at
loop-i-init c = search rules

pub loop-i-preserved : goal.loop-i-preserved
loop-i-preserved c =
    let l = c.loop-i in (
      number_more l.i c.args.bytes.now c.args.at l.number c.from.result l.invariant.0 cc,
      below_more l.number c.from.result l.i l.invariant.1 (omega arith),
    )

pub overflow_mul-number : goal.overflow_mul-number
overflow_mul-number c = omega (arith, room c.loop-i.number c.loop-i.i (omega arith) c.loop-i.invariant.1)

pub overflow_add-number : goal.overflow_add-number
overflow_add-number c = omega (arith, room c.loop-i.number c.loop-i.i (omega arith) c.loop-i.invariant.1)
