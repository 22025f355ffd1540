-- The C call for a season (`gatemap_season`): the season, a minute and a buffer. Refusals in order: a buffer under 1 byte 16, the season's 12, 13, 18, shut 19. Else the answer is 0, and the first byte of
-- the buffer receives the number of the map that is to be used at the minute; the rest of it, and refused all of it, is untouched.
use Rattle.std.specs.Prelude.{ℕ, cond, List, [], ◌∷◌, leb, length, Err, Ok, Result}
use Rattle.big_endian.specs.Written.{written}
use Rattle.control_point.specs.Told.{Told, unless}
use Rattle.control_point.specs.declared.refusal.Refusal.TheVariants.{Short}
use Rattle.season.specs.Season.{season_map, season_number, season_map_table}
use Rattle.control_point.specs.declared.refusal.Refusal.{Refusal}

-- what a map's number takes in the buffer
abbrev pub map_number_bytes : ℕ
map_number_bytes = 1

-- what the call finds, in a buffer of a length
unfoldable pub host_season : List ℕ → ℕ → ℕ → Result ℕ Refusal
host_season season minute room = cond (leb map_number_bytes room) (season_map season minute) (Err Short)

-- the buffer after it
abbrev pub season_buffer_after : Result ℕ Refusal → List ℕ → List ℕ
season_buffer_after (Ok map) out = written out 0 (map ∷ [])
season_buffer_after (Err refusal) out = out

-- the number that it returns, and the buffer that it leaves
abbrev pub host_season_number : List ℕ → ℕ → List ℕ → ℕ
host_season_number season minute out = season_number (host_season season minute (length out))

abbrev pub host_season_buffer : List ℕ → ℕ → List ℕ → List ℕ
host_season_buffer season minute out = season_buffer_after (host_season season minute (length out)) out

-- the table of the call, with a buffer of a length: 16, then the season's table: 12, 13, 18, 19
abbrev pub host_season_table : List ℕ → ℕ → ℕ → Told
host_season_table season minute room = unless 16 (leb map_number_bytes room) (season_map_table season minute)
