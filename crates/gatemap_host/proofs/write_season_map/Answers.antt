-- `write_season_map` meets its contract: the answer that is due gives the number and the buffer, at each exit.
use mathlib.Core.Path.{◌≡◌, ap, sym, ◌∙◌}
use Rattle.std.specs.Prelude.{Err}
use Rattle.std.proofs.lemmas.Result.{err_from_is_err_and}
use Rattle.big_endian.specs.Written.{written}
use Rattle.control_point.specs.Told.{number_of}
use Rattle.control_point.specs.declared.refusal.Refusal.TheVariants.{Short}
use Rattle.gatemap_host.specs.SeasonCall.{host_season_number}
use Rattle.gatemap_host.proofs.SeasonCallLaws.{host_season_with, season_short, season_of_file}
use Rattle.gatemap_host.proofs.write_season_map.Goals as goal

pub returns-in_err-has_room : goal.returns-in_err-has_room
returns-in_err-has_room c =
    let a = c.args in
    let left = err_from_is_err_and c.from_residual.result c.from_residual.ensures.1 in
    let short = c.in_err-has_room.ensures in
    let is = left.1 ∙ ap Err (left.2 ∙ short.0) in
    let gives = host_season_with a.season.now a.minute a.out.now (Err Short) (sym (season_short a.season.now a.minute _ short.1)) in
    record { number = ap number_of is ∙ gives.0; buffer = gives.1; told = ap number_of is ∙ gives.2 }

pub returns-in_err-map : goal.returns-in_err-map
returns-in_err-map c =
    let a = c.args in
    let left = err_from_is_err_and c.from_residual-in_err-map.result c.from_residual-in_err-map.ensures.1 in
    let is = left.1 ∙ ap Err left.2 in
    let found = sym (c.in_err-map.ensures.is ∙ season_of_file a.season.now a.minute _ c.in_ok-has_room.ensures) in
    let gives = host_season_with a.season.now a.minute a.out.now _ found in
    record { number = ap number_of is ∙ gives.0; buffer = gives.1; told = ap number_of is ∙ gives.2 }

pub returns : goal.returns
unfolding written
returns c =
    let a = c.args in
    let found = sym (c.in_ok-map.ensures.is ∙ season_of_file a.season.now a.minute _ c.in_ok-has_room.ensures) in
    let gives = host_season_with a.season.now a.minute a.out.now _ found in
    let number : 0 ≡ host_season_number a.season.now a.minute a.out.now = gives.0 in
    record { number = number; buffer = c.put_byte.ensures ∙ gives.1; told = gives.2 }
