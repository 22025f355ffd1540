-- The last four of std's eight bytes are our four.
use Rattle.std.proofs.Common.{ap, ◌∙◌}
use Rattle.std.specs.Prelude.{List, ℕ, drop, take}
use Rattle.big_endian.specs.Written.{written}
use Rattle.big_endian.proofs.WrittenLaws.{bytes_as_std}
use Rattle.big_endian.proofs.put_length.Goals as goal

pub returns : goal.returns
returns c = c.put_bytes.ensures ∙ ap (written c.args.buffer.now c.args.at) (ap (λ (bytes : List ℕ). take 4 (drop 4 bytes)) c.to_be_bytes.ensures ∙ bytes_as_std 4 c.args.size)
