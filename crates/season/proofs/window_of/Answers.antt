-- `window_of` meets its contract: each number is read at its place behind the first bytes.
use Rattle.season.proofs.SeasonLaws.{window_read}
use Rattle.season.proofs.window_of.Goals as goal

pub returns : goal.returns
returns c =
    let a = c.args in
    window_read a.season.now _ a.n _ _ _ _ _ c.after-place.ensures c.length_at-opening.ensures.value c.length_at-closing.ensures.value c.byte_at-map.ensures c.pair_at-first.ensures.value
    c.pair_at-last.ensures.value
