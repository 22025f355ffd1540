-- Readings of seasons, computed: the theorems speak of seasons that there are, and the limits are where the rules above them put them. Statements only.
use Rattle.std.specs.Prelude.{ℕ, ◌+◌, ◌*◌, ◌≡◌, List, [], ◌∷◌, ◌++◌, length, Err, Ok}
use Rattle.big_endian.specs.Written.{bytes_of}
use Rattle.control_point.specs.declared.refusal.Refusal.TheVariants.{Length, Version, Clash, Shut}
use Rattle.season_window.specs.declared.Window.{Window}
use Rattle.season.specs.Season.{checked_season, season_map}
use Rattle.season.specs.Theorems.{Reordered}

-- ---- seasons
-- a window of a map: from and to before a minute of the season, from and to before a minute of the day
abbrev pub window : ℕ → ℕ → ℕ → ℕ → ℕ → Window
window map opening closing first last = record { opening = opening; closing = closing; map = map; first = first; last = last }

abbrev pub bytes_of_window : Window → List ℕ
bytes_of_window w = bytes_of 4 w.opening ++ (bytes_of 4 w.closing ++ (w.map ∷ (bytes_of 2 w.first ++ bytes_of 2 w.last)))

abbrev pub bytes_of_windows : List Window → List ℕ
bytes_of_windows [] = []
bytes_of_windows (w ∷ rest) = bytes_of_window w ++ bytes_of_windows rest

-- a file of a version
abbrev pub season_of : ℕ → List Window → List ℕ
season_of version windows = bytes_of 4 (1 + length windows * 13) ++ (version ∷ bytes_of_windows windows)

-- map 0 for thirty days, then map 1 from 06:00 to 22:00 up to the last minute but one: the two touch
abbrev pub frost : List ℕ
frost = season_of 1 (window 0 0 43200 0 1440 ∷ (window 1 43200 4294967295 360 1320 ∷ []))

-- the same, its windows in the other order
abbrev pub turned : List ℕ
turned = season_of 1 (window 1 43200 4294967295 360 1320 ∷ (window 0 0 43200 0 1440 ∷ []))

pub record SeasonReadings : Type 0 where
  -- the first season is accepted, with the windows in either order
  pub accepted : checked_season frost ≡ Ok 2
  pub other_order : checked_season turned ≡ Ok 2
  pub reordered : Reordered frost turned
  -- a window has its opening minute and the one before its closing
  pub opened : season_map frost 0 ≡ Ok 0
  pub not_closed : season_map frost 43199 ≡ Ok 0
  -- and of a day the first minute and the one before the last: 43200 is a midnight
  pub night : season_map frost 43559 ≡ Err Shut
  pub morning : season_map frost 43560 ≡ Ok 1
  pub evening : season_map frost 44519 ≡ Ok 1
  pub late : season_map frost 44520 ≡ Err Shut
  -- at the last minute of 32 bits no window can hold
  pub last_minute : season_map frost 4294967295 ≡ Err Shut
  -- a season of no windows is accepted, and shut
  pub none : checked_season (season_of 1 []) ≡ Ok 0
  pub none_shut : season_map (season_of 1 []) 0 ≡ Err Shut
  -- windows that share one minute, in either order, clash
  pub one_minute : checked_season (season_of 1 (window 0 0 43561 0 1440 ∷ (window 1 43200 4294967295 360 1320 ∷ []))) ≡ Err Clash
  pub one_minute_back : checked_season (season_of 1 (window 1 43200 4294967295 360 1320 ∷ (window 0 0 43561 0 1440 ∷ []))) ≡ Err Clash
  -- windows that share days and no minute of the day do not
  pub by_day : checked_season (season_of 1 (window 0 0 43200 0 720 ∷ (window 1 0 43200 720 1440 ∷ []))) ≡ Ok 2
  -- a window that can hold in no minute: no part of the day, a span that misses its part of the day, the day's end alone, no span
  pub no_part : checked_season (season_of 1 (window 0 0 43200 360 360 ∷ [])) ≡ Err Clash
  pub missed : checked_season (season_of 1 (window 0 1320 1800 360 1320 ∷ [])) ≡ Err Clash
  pub at_day_end : checked_season (season_of 1 (window 0 0 43200 1440 1440 ∷ [])) ≡ Err Clash
  pub closed_before : checked_season (season_of 1 (window 0 43200 0 0 1440 ∷ [])) ≡ Err Clash
  pub no_span : checked_season (season_of 1 (window 0 360 360 0 1440 ∷ [])) ≡ Err Clash
  -- a file of no bytes, a first minute of the day of 1441
  pub no_bytes : checked_season [] ≡ Err Length
  pub first_past : checked_season (season_of 1 (window 0 0 43200 1441 1440 ∷ [])) ≡ Err Length
  -- 12 before 13 before 18
  pub past_day_lem : checked_season (season_of 2 (window 0 0 43200 360 360 ∷ (window 0 0 43200 0 1441 ∷ []))) ≡ Err Length
  pub version : checked_season (season_of 2 (window 0 0 43200 360 360 ∷ [])) ≡ Err Version
