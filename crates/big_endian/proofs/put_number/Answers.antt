-- std's eight bytes are ours.
use Rattle.std.proofs.Common.{ap, ◌∙◌}
use Rattle.big_endian.specs.Written.{written}
use Rattle.big_endian.proofs.WrittenLaws.{bytes_as_std}
use Rattle.big_endian.proofs.put_number.Goals as goal

pub returns : goal.returns
returns c = c.put_bytes.ensures ∙ ap (written c.args.buffer.now c.args.at) (c.to_be_bytes.ensures ∙ bytes_as_std 8 c.args.number)
