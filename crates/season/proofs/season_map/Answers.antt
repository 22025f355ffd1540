-- `season_map` meets its contract: a valid season's windows are asked, and a refused one's refusal is handed on.
use mathlib.Core.Path.{sym}
use Rattle.season.proofs.SeasonLaws.{valid_tells}
use Rattle.season.proofs.season_map.Goals as goal

pub map_among-requires : goal.map_among-requires
map_among-requires c =
    (valid_tells _ _ (sym c.in_ok-count.ensures.is)).few
