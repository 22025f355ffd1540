-- A window of a season: the minutes at which a map is to be used. Minutes have 32 bits and count from the season's start at midnight, so that m % 1440 is the minute of the day.
use Rattle.std.specs.Prelude.{ℕ, ◌%◌, ◌^◌, Bool, ◌&&◌, ◌||◌, leb, ltb}
use Rattle.counting.specs.Counting.{some_below}
use Rattle.season_window.specs.declared.Window.{Window}

-- the minutes that there are
unfoldable pub season_minutes : ℕ
season_minutes = 2 ^ 32

-- the minutes of a day
abbrev pub day_minutes : ℕ
day_minutes = 1440

-- a first or last minute of the day above 1440; a last one of 1440 is allowed
abbrev pub past_day : Window → Bool
past_day w = ltb day_minutes w.first || ltb day_minutes w.last

-- it holds at minute m when opening ≤ m < closing and first ≤ m modulo 1440 < last
unfoldable pub holds_at : Window → ℕ → Bool
holds_at w m = (leb w.opening m && ltb m w.closing) && (leb w.first (m % day_minutes) && ltb (m % day_minutes) w.last)

-- it can hold: there is a minute at which it does
abbrev pub can_hold : Window → Bool
can_hold w = some_below season_minutes (holds_at w)

-- two hold in some common minute
abbrev pub hold_together : Window → Window → Bool
hold_together w v = some_below season_minutes (λ m. holds_at w m && holds_at v m)
