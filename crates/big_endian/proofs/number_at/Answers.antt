-- The first eight bytes of the rest are those from the place on.
use Rattle.std.proofs.Common.{ap, ◌∙◌}
use Rattle.std.specs.Prelude.{take}
use Rattle.big_endian.proofs.Laws.{number_of_chunk}
use Rattle.big_endian.proofs.number_at.Goals as goal

pub returns-in-Some : goal.returns-in-Some
returns-in-Some c =
    c.from_be_bytes.ensures ∙ number_of_chunk c.args.bytes.now _ c.args.at (c.in-Some.ensures.cases.same ∙ ap (take 8) c.after.ensures)
