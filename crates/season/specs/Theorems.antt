-- Theorems on seasons: statements only, with what they speak of. A season is any list of bytes; `checked_season` and `season_map` are the definitions that the contracts of the code cite, and `Holds` has a
-- window's four inequalities.
use Rattle.std.specs.Prelude.{ℕ, ◌^◌, ◌<◌, ◌≡◌, true, false, List, ◌↔◌, ◌⊎◌, length, Err, Ok}
use Rattle.big_endian.specs.BigEndian.{byte_at}
use Rattle.control_point.specs.declared.refusal.Refusal.TheVariants.{Clash, Shut}
use Rattle.season_window.specs.Theorems.{Holds, Ever, Together}
use Rattle.season.specs.Season.{windows_at, window_of, window_count, season_length_right, days_wrong, season_version_right, checked_season, season_map}

-- ---- 18 IS THE EXISTENCE
-- past both 12 and 13
abbrev pub Readable : List ℕ → Type 0
Readable season = (season_length_right season ≡ true) × (days_wrong season (window_count season) ≡ false) × (season_version_right season ≡ true)

-- of the first so many windows, one can hold in no minute, or two hold in some common minute
abbrev pub Clashing : List ℕ → ℕ → Type 0
Clashing season n =
    ((i : ℕ) × (i < n) × (Ever (window_of season i) → ⊥)) ⊎ ((i : ℕ) × (j : ℕ) × (i < j) × (j < n) × Together (window_of season i) (window_of season j))

-- A season is refused 18 exactly where it is past 12 and 13, and two of its windows hold in some common minute or one can hold in none.
abbrev pub ClashIsExistence : Type 0
ClashIsExistence = (season : List ℕ) → (checked_season season ≡ Err Clash) ↔ (Readable season × Clashing season (window_count season))

-- ---- OF AN ACCEPTED SEASON
-- At each minute at most one window holds.
abbrev pub OneHolds : Type 0
OneHolds =
    (season : List ℕ) (n : ℕ) → checked_season season ≡ Ok n
    → (m i j : ℕ) → m < 2 ^ 32 → i < n → j < n → Holds (window_of season i) m → Holds (window_of season j) m → i ≡ j

-- Every window holds at some minute.
abbrev pub EachHolds : Type 0
EachHolds = (season : List ℕ) (n : ℕ) → checked_season season ≡ Ok n → (i : ℕ) → i < n → Ever (window_of season i)

-- The answer at a minute is a map number exactly where a window of that map holds,
abbrev pub MapAnswered : Type 0
MapAnswered =
    (season : List ℕ) (n : ℕ) → checked_season season ≡ Ok n
    → (m map : ℕ) → m < 2 ^ 32 → (season_map season m ≡ Ok map) ↔ ((i : ℕ) × (i < n) × Holds (window_of season i) m × ((window_of season i).map ≡ map))

-- and 19 exactly where none holds.
abbrev pub ShutAnswered : Type 0
ShutAnswered =
    (season : List ℕ) (n : ℕ) → checked_season season ≡ Ok n
    → (m : ℕ) → (season_map season m ≡ Err Shut) ↔ ((i : ℕ) → i < n → Holds (window_of season i) m → ⊥)

-- ---- THE ORDER OF THE WINDOWS IS NOT SEEN
-- one season is another with its windows in another order: the same length, the same count and version, and each window of the one stands in the other once
pub record Reordered (season other : List ℕ) : Type 0 where
  pub lengths : length season ≡ length other
  pub heads : (at : ℕ) → at < windows_at → byte_at season at ≡ byte_at other at
  pub moved : ℕ → ℕ
  pub back : ℕ → ℕ
  pub moved_in : (i : ℕ) → i < window_count season → moved i < window_count season
  pub back_in : (i : ℕ) → i < window_count season → back i < window_count season
  pub moved_back : (i : ℕ) → i < window_count season → moved (back i) ≡ i
  pub back_moved : (i : ℕ) → i < window_count season → back (moved i) ≡ i
  pub windows : (i : ℕ) → i < window_count season → window_of other (moved i) ≡ window_of season i

-- Then both are refused alike, and at every minute they have the same answer.
abbrev pub OrderUnseen : Type 0
OrderUnseen =
    (season other : List ℕ) → Reordered season other → (checked_season season ≡ checked_season other) × ((m : ℕ) → m < 2 ^ 32 → season_map season m ≡ season_map other m)
