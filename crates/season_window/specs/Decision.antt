-- How code decides in constant time whether windows hold in some minute: two hold together where the part that they share can hold, and a window can hold where the first minute of
-- its part of the day, from its opening on, comes before its closing. That this is right is proved in proofs/DecisionLaws.antt.
use Rattle.std.specs.Prelude.{ℕ, ◌+◌, ◌-◌, ◌%◌, min, max, Bool, cond, ◌&&◌, ltb}
use Rattle.season_window.specs.Window.{day_minutes}
use Rattle.season_window.specs.declared.Window.{Window}

-- the part of a window in which another holds too
unfoldable pub common : Window → Window → Window
common w v =
    record {
      opening = max w.opening v.opening;
      closing = min w.closing v.closing;
      map = w.map;
      first = max w.first v.first;
      last = min w.last v.last;
    }

-- the first minute from `opening` on whose minute of the day is from `first` on and before `last`, where first < last ≤ 1440
abbrev pub first_minute : ℕ → ℕ → ℕ → ℕ
first_minute opening first last =
    let day = opening % day_minutes in
    cond (ltb day first) (opening + (first - day)) (cond (ltb day last) opening (opening + (day_minutes - day) + first))

-- the window can hold; no minute of the day is 1440 or more
abbrev pub decided : Window → Bool
decided w =
    let last = min w.last day_minutes in
    ltb w.first last && ltb (first_minute w.opening w.first last) w.closing
