-- Laws of specs/Season.antt: what stands after the first bytes, one window more, and that what a check and an answer tell is what their tables say.
use Rattle.std.specs.List.{list_any, range_with_len}
use Rattle.std.specs.Prelude.{ℕ, zero, suc, ◌+◌, ◌*◌, ◌-◌, ◌≤◌, ◌<◌, ◌≡◌, refl, Bool, true, false, cond, ◌||◌, List, [], ◌∷◌, drop, Err, Ok, Result}
use Rattle.std.proofs.Common.{sym, ◌∙◌, add_assoc, arith, get_or-drop}
use Rattle.std.proofs.Math.Path.{ap}
use Rattle.std.proofs.Math.Bool.{not}
use Rattle.std.proofs.lemmas.Bool.{not-true}
use Rattle.big_endian.specs.BigEndian.{byte_at, number_at}
use Rattle.big_endian.proofs.BigEndianLaws.{number_after}
use Rattle.control_point.specs.Told.{Told, natural, tells, unless, refusal_told}
use Rattle.control_point.specs.declared.refusal.Refusal.{Refusal}
use Rattle.control_point.specs.declared.refusal.Refusal.TheVariants.{Length, Version, Clash, Shut}
use Rattle.counted_file.specs.Counted.{file_told}
use Rattle.counted_file.proofs.CountedLaws.{length_tells, valid_refused}
use Rattle.counting.proofs.BoolLaws.{or_second}
use Rattle.counting.specs.Counting.{some_below, last_below}
use Rattle.counting.proofs.SomeLaws.{some_none, some_here, some_before, last_here, last_before}
use Rattle.season_window.specs.Window.{holds_at, can_hold}
use Rattle.season_window.specs.declared.Window.{Window}
use Rattle.season.specs.Season.{windows_at, window_bytes, most_windows, closing_in, map_in, first_in, last_in, window_at, window_of, window_count, season_length_right, days_wrong, season_version_right, holds_with_one, clashes, checked_season, some_holds, map_held, map_among, checked_map, season_map, season_told, where_season, season_table, season_map_table}

-- ---- what stands after the first bytes stands in all bytes, that many places on
window_after : (season : List ℕ) (count at : ℕ) → window_at (drop count season) at ≡ window_at season (count + at)
window_after season count at = simp (number_after, get_or-drop, add_assoc)

window_behind : (season : List ℕ) (n : ℕ) → window_at (drop (windows_at + n * window_bytes) season) 0 ≡ window_of season n
unfolding window_of
window_behind season n = window_after season (windows_at + n * window_bytes) 0 ∙ ap (window_at season) (omega arith)

-- a window read there, number by number
pub window_read : (season place : List ℕ) (n opening closing map first last : ℕ) → place ≡ drop (windows_at + n * window_bytes) season
    → opening ≡ number_at 4 place 0
    → closing ≡ number_at 4 place closing_in
    → map ≡ byte_at place map_in
    → first ≡ number_at 2 place first_in
    → last ≡ number_at 2 place last_in
    → record { opening = opening; closing = closing; map = map; first = first; last = last } ≡ window_of season n
window_read season place n opening closing map first last there o c m f l = rw (o, c, m, f, l) (ap (λ (bytes : List ℕ). window_at bytes 0) there ∙ window_behind season n)

-- ---- `any` over the numbers below one
any_last : (test : ℕ → Bool) (a n : ℕ) → list_any test (range_with_len a (suc n)) ≡ (test (a + n) || list_any test (range_with_len a n))
any_last test a zero = ap (λ (k : ℕ). test k || false) (omega arith)
any_last test a (suc n) =
    ap (λ (rest : Bool). test a || rest) (any_last test (a + 1) n) ∙ or_turned (test a) (test (a + 1 + n)) _
    ∙ ap (λ (k : ℕ). test k || list_any test (range_with_len a (suc n))) (omega arith)
  where
    or_turned : (x y z : Bool) → (x || (y || z)) ≡ (y || (x || z))
    or_turned true true z = refl
    or_turned true false z = refl
    or_turned false y z = refl

pub any_below : (test : ℕ → Bool) (n : ℕ) → list_any test (range_with_len 0 n) ≡ some_below n test
unfolding some_below
any_below test zero = refl
any_below test (suc n) =
    let at : 0 + n ≡ n = omega arith in
    any_last test 0 n ∙ ap (λ (k : ℕ). test k || list_any test (range_with_len 0 n)) at ∙ ap (λ (rest : Bool). test n || rest) (any_below test n)

-- ---- one window more
pub map_none : (season : List ℕ) (minute count : ℕ) → count ≤ 0 → Err Shut ≡ map_among season minute count
map_none season minute count none =
    ap (λ (some : Bool). cond some (Ok (map_held season minute count)) (Err Shut)) (some_none count (λ n. holds_at (window_of season n) minute) none)

module _ (season : List ℕ) (count : ℕ) (some : 0 < count) where
  newest : Window
  newest = window_of season (count - 1)

  pub clash_alone : can_hold (window_of season (count - 1)) ≡ false → true ≡ clashes season count
  unfolding newest
  clash_alone never = some_here count _ some (ap (λ (can : Bool). not can || holds_with_one season (count - 1) newest) never)

  pub clash_with : holds_with_one season (count - 1) (window_of season (count - 1)) ≡ true → true ≡ clashes season count
  unfolding newest
  clash_with meets = some_here count _ some (or_second (not (can_hold newest)) (holds_with_one season (count - 1) newest) meets)

  pub clash_before : can_hold (window_of season (count - 1)) ≡ true → holds_with_one season (count - 1) (window_of season (count - 1)) ≡ false
      → clashes season (count - 1) ≡ clashes season count
  unfolding newest
  clash_before can apart =
      some_before count _ some (ap (λ (can : Bool). not can || holds_with_one season (count - 1) newest) can ∙ apart)

module _ (season : List ℕ) (minute count : ℕ) (some : 0 < count) where
  holds : ℕ → Bool
  holds n = holds_at (window_of season n) minute

  held : Bool → ℕ → Result ℕ Refusal
  held here n = cond here (Ok (window_of season n).map) (Err Shut)

  pub map_here : holds_at (window_of season (count - 1)) minute ≡ true → Ok (window_of season (count - 1)).map ≡ map_among season minute count
  unfolding holds held
  map_here here = ap (held true) (last_here count holds some here) ∙ ap (λ (b : Bool). held b (last_below count holds)) (some_here count holds some here)

  pub map_before : holds_at (window_of season (count - 1)) minute ≡ false → map_among season minute (count - 1) ≡ map_among season minute count
  unfolding holds held
  map_before other =
      ap (λ (b : Bool). held b (last_below (count - 1) holds)) (some_before count holds some other) ∙ ap (held (some_below count holds)) (last_before count holds some other)

-- ---- what takes a season tells what its table says, if of a refused one it tells the refusal
where_season_told : (season : List ℕ) (told : Result ℕ Refusal → Told) → ((refusal : Refusal) → told (Err refusal) ≡ refusal_told refusal)
    → told (checked_season season) ≡ where_season season (told (Ok (window_count season)))
unfolding checked_season
where_season_told season told refused =
    by_tests (season_length_right season) (not (days_wrong season (window_count season))) (season_version_right season) (not (clashes season (window_count season)))
  where
    by_tests : (long days version apart : Bool)
        → told (cond long (cond days (cond version (cond apart (Ok (window_count season)) (Err Clash)) (Err Version)) (Err Length)) (Err Length))
        ≡ unless 12 long (unless 12 days (unless 13 version (unless 18 apart (told (Ok (window_count season))))))
    by_tests true true true true = refl
    by_tests true true true false = refused Clash
    by_tests true true false apart = refused Version
    by_tests true false version apart = refused Length
    by_tests false days version apart = refused Length

pub check_told : (season : List ℕ) → file_told (checked_season season) ≡ season_table season
check_told season = where_season_told season file_told (λ refusal. refl)

-- where four tests in a row make it valid, the first and the last held, and the count is that of the windows
valid_right : (long days version apart : Bool) (count n : ℕ)
    → cond long (cond days (cond version (cond apart (Ok count) (Err Clash)) (Err Version)) (Err Length)) (Err Length) ≡ Ok n
    → (long ≡ true) × (apart ≡ true) × (count ≡ n)
valid_right true true true true count n valid = (refl, refl, cc)
valid_right true true true false count n valid = absurd (valid_refused Clash n valid)
valid_right true true false apart count n valid = absurd (valid_refused Version n valid)
valid_right true false version apart count n valid = absurd (valid_refused Length n valid)
valid_right false days version apart count n valid = absurd (valid_refused Length n valid)

-- what a valid season tells: how many windows it has, and that none clash
pub record ValidSeason (season : List ℕ) (n : ℕ) : Type 0 where
  pub counted : window_count season ≡ n
  pub few : n ≤ most_windows
  pub apart : clashes season n ≡ false

pub valid_tells : (season : List ℕ) (n : ℕ) → checked_season season ≡ Ok n → ValidSeason season n
unfolding checked_season
valid_tells season n valid =
    let count = window_count season in
    let right = valid_right (season_length_right season) (not (days_wrong season count)) (season_version_right season) (not (clashes season count)) count n valid in
    record {
      counted = right.2;
      few = omega (arith, (length_tells windows_at window_bytes most_windows season right.0).few, right.2);
      apart = ap (clashes season) (sym right.2) ∙ not-true (clashes season count) right.1;
    }

pub map_told : (season : List ℕ) (minute : ℕ) → season_told (season_map season minute) ≡ season_map_table season minute
map_told season minute =
    where_season_told season (λ (check : Result ℕ Refusal). season_told (checked_map season minute check)) (λ refusal. refl)
    ∙ ap (where_season season) (by_test (some_holds season minute (window_count season)))
  where
    by_test : (some : Bool) → season_told (cond some (Ok (map_held season minute (window_count season))) (Err Shut))
        ≡ unless 19 some (tells (natural (map_held season minute (window_count season)) ∷ []))
    by_test true = refl
    by_test false = refl
