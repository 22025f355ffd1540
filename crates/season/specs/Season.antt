-- The season file: what its bytes say, which files are refused, and which map is to be used at a minute. All numbers are big-endian.
--
--   at    bytes  what
--   0     4      the count of all bytes that follow
--   4     1      the version, 1
--   5     n × 13 up to 64 windows
--
-- A window: 4 bytes the opening minute, 4 bytes the closing minute, 1 byte the map number, 2 bytes the first minute of the day, 2 bytes the last.
--
-- Refusals in order: 12 a file under 4 bytes, a wrong count, or one that is not 1 + 13 × 0..64; 12 a first or last minute of the day above 1440, in any window; 13 a version other than 1;
-- 18 two windows that hold in some common minute, or one that can hold in none. Of a season that is not refused, the answer at a minute is the map number of the window that holds; 19 where none
-- does.
use Rattle.std.specs.Prelude.{ℕ, ◌+◌, ◌*◌, Bool, not, cond, ◌||◌, List, [], ◌∷◌, eqb, Err, Ok, Result}
use Rattle.big_endian.specs.BigEndian.{byte_at, number_at}
use Rattle.control_point.specs.Told.{Told, natural, tells, unless, refusal_told}
use Rattle.control_point.specs.declared.refusal.Refusal.TheVariants.{Length, Version, Clash, Shut}
use Rattle.counted_file.specs.Counted.{version_at, item_count, counted_right}
use Rattle.counting.specs.Counting.{some_below, last_below}
use Rattle.season_window.specs.Window.{past_day, holds_at, can_hold, hold_together}
use Rattle.season_window.specs.declared.Window.{Window}
use Rattle.control_point.specs.declared.refusal.Refusal.{Refusal}

-- ---- sizes and places
abbrev pub the_version : ℕ
the_version = 1

abbrev pub windows_at : ℕ
windows_at = 5

abbrev pub window_bytes : ℕ
window_bytes = 13

abbrev pub most_windows : ℕ
most_windows = 64

-- within a window
abbrev pub closing_in : ℕ
closing_in = 4

abbrev pub map_in : ℕ
map_in = 8

abbrev pub first_in : ℕ
first_in = 9

abbrev pub last_in : ℕ
last_in = 11

-- ---- the windows
abbrev pub window_at : List ℕ → ℕ → Window
window_at season at =
    record {
      opening = number_at 4 season at;
      closing = number_at 4 season (at + closing_in);
      map = byte_at season (at + map_in);
      first = number_at 2 season (at + first_in);
      last = number_at 2 season (at + last_in);
    }

-- that of a number, from 0
unfoldable pub window_of : List ℕ → ℕ → Window
window_of season n = window_at season (windows_at + n * window_bytes)

-- how many a season of this length has room for
abbrev pub window_count : List ℕ → ℕ
window_count = item_count windows_at window_bytes

-- ---- which seasons are refused
-- the count is that of the bytes that follow it, and these are the version and 0 to 64 whole windows
abbrev pub season_length_right : List ℕ → Bool
season_length_right = counted_right windows_at window_bytes most_windows

-- a first or last minute of the day of one of the first so many windows is above 1440
abbrev pub days_wrong : List ℕ → ℕ → Bool
days_wrong season count = some_below count (λ n. past_day (window_of season n))

abbrev pub season_version_right : List ℕ → Bool
season_version_right season = eqb (byte_at season version_at) the_version

-- a window holds in some common minute with one of the first so many
abbrev pub holds_with_one : List ℕ → ℕ → Window → Bool
holds_with_one season count w = some_below count (λ n. hold_together w (window_of season n))

-- of the first so many windows, one can hold in no minute, or holds in some common minute with one before it
abbrev pub clashes : List ℕ → ℕ → Bool
clashes season count = some_below count (λ n. not (can_hold (window_of season n)) || holds_with_one season n (window_of season n))

-- 12, 12 again, 13 and 18 in order; else the count of windows
unfoldable pub checked_season : List ℕ → Result ℕ Refusal
checked_season season =
    cond (season_length_right season)
    (cond (not (days_wrong season (window_count season)))
    (cond (season_version_right season)
    (cond (not (clashes season (window_count season))) (Ok (window_count season)) (Err Clash))
    (Err Version))
    (Err Length))
    (Err Length)

-- ---- the map at a minute
-- some window of the first so many holds
abbrev pub some_holds : List ℕ → ℕ → ℕ → Bool
some_holds season minute count = some_below count (λ n. holds_at (window_of season n) minute)

-- the map of the last of them that holds. Of a season that is not refused one holds at most (theorem `OneHolds`), so that it is the map of the window that does
abbrev pub map_held : List ℕ → ℕ → ℕ → ℕ
map_held season minute count = (window_of season (last_below count (λ n. holds_at (window_of season n) minute))).map

abbrev pub map_among : List ℕ → ℕ → ℕ → Result ℕ Refusal
map_among season minute count = cond (some_holds season minute count) (Ok (map_held season minute count)) (Err Shut)

-- the season's own refusal first
abbrev pub checked_map : List ℕ → ℕ → Result ℕ Refusal → Result ℕ Refusal
checked_map season minute (Ok count) = map_among season minute count
checked_map season minute (Err refusal) = Err refusal

abbrev pub season_map : List ℕ → ℕ → Result ℕ Refusal
season_map season minute = checked_map season minute (checked_season season)

-- ---- what is told
-- the map number, or the refusal's
abbrev pub season_told : Result ℕ Refusal → Told
season_told (Ok map) = tells (natural map ∷ [])
season_told (Err refusal) = refusal_told refusal

abbrev pub season_number : Result ℕ Refusal → ℕ
season_number answer = (season_told answer).number

-- the table of what takes a season: 12, 12, 13, 18, and where it is not refused what is told then
abbrev pub where_season : List ℕ → Told → Told
where_season season next =
    unless 12 (season_length_right season)
    (unless 12 (not (days_wrong season (window_count season)))
    (unless 13 (season_version_right season)
    (unless 18 (not (clashes season (window_count season)))
    next)))

-- the table of its check: the count of its windows
abbrev pub season_table : List ℕ → Told
season_table season = where_season season (tells (natural (window_count season) ∷ []))

-- the table of its map at a minute: 19, and else the map number
abbrev pub season_map_table : List ℕ → ℕ → Told
season_map_table season minute =
    where_season season
    (unless 19 (some_holds season minute (window_count season))
    (tells (natural (map_held season minute (window_count season)) ∷ [])))
