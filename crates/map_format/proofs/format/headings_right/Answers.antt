-- `headings_right` meets its contract: `all` asks what the definition asks of each edit.
use Rattle.std.proofs.Common.{ℕ, ◌+◌, ◌*◌, ◌∙◌, ltb, rules, arith, refl}
use Rattle.std.proofs.lemmas.Iterator.{YieldsList-from_range}
use Rattle.std.proofs.lemmas.Iterator.Search.{all_from_yields_List}
use borrow.Author.Tests.{tests}
use Rattle.big_endian.specs.BigEndian.{byte_at}
use Rattle.map_format.specs.Format.{edits_at, edit_bytes, direction_in}
use Rattle.map_format.proofs.FormatLaws.{all_headings}
use Rattle.map_format.proofs.format.headings_right.Goals as goal

pub returns : goal.returns
returns c =
    let bytes = c.args.bytes.now in
    let count = c.args.count in
    all_from_yields_List (λ (n : ℕ). ltb (byte_at bytes (edits_at + n * edit_bytes + direction_in)) 4) _ _ _ c.all.ensures.ran (YieldsList-from_range 0 count count refl (omega arith)) (λ x b q k. search (rules, tests))
    ∙ all_headings bytes 0 count
