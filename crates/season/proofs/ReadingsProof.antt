-- The readings: where every closing minute has 32 bits, the test of all windows is what code decides of them, and that is computed.
use Rattle.std.specs.Prelude.{ℕ, zero, suc, ◌-◌, ◌^◌, ◌≤◌, ◌<◌, ◌≡◌, refl, Bool, true, false, not, cond, ◌||◌, List, [], ltb, Err, Ok, Result}
use Rattle.std.proofs.Common.{sym, ap, ◌∙◌, arith, ltb-false}
use Rattle.big_endian.specs.BigEndian.{byte_at, number_at}
use Rattle.big_endian.specs.Written.{bytes_of}
use Rattle.control_point.specs.declared.refusal.Refusal.TheVariants.{Length, Version, Clash, Shut}
use Rattle.counted_file.specs.Counted.{counted_right}
use Rattle.counting.proofs.BoolLaws.{both_ways}
use Rattle.counting.specs.Counting.{some_below, last_below}
use Rattle.counting.proofs.SomeLaws.{some_shows, some_same}
use Rattle.season_window.specs.Decision.{common, decided}
use Rattle.season_window.proofs.DecisionLaws.{decided_right, decided_together}
use Rattle.season_window.specs.Window.{holds_at, can_hold, hold_together}
use Rattle.season.specs.Readings.{season_of, frost, turned, SeasonReadings}
use Rattle.season.specs.Season.{window_of, window_count, season_length_right, days_wrong, season_version_right, holds_with_one, clashes, checked_season, checked_map, map_among, season_map}
use Rattle.season.specs.Theorems.{Reordered}
use Rattle.control_point.specs.declared.refusal.Refusal.{Refusal}

-- ---- what code decides
abbrev decided_at : List ℕ → ℕ → Bool
decided_at season i = not (decided (window_of season i)) || some_below i (λ k. decided (common (window_of season i) (window_of season k)))

-- every closing minute has 32 bits
abbrev ClosingsFit : List ℕ → ℕ → Type 0
ClosingsFit season n = (i : ℕ) → i < n → (window_of season i).closing ≤ 2 ^ 32

clashes_decided : (season : List ℕ) (n : ℕ) → ClosingsFit season n → some_below n (decided_at season) ≡ clashes season n
clashes_decided season n closed = some_same n (decided_at season) (λ i. not (can_hold (window_of season i)) || holds_with_one season i (window_of season i)) one
  where
    one : (i : ℕ) → i < n → decided_at season i ≡ (not (can_hold (window_of season i)) || holds_with_one season i (window_of season i))
    one i below =
        let w = window_of season i in
        ap (λ (can : Bool). not can || some_below i (λ k. decided (common w (window_of season k)))) (decided_right w (closed i below))
        ∙ ap (λ (meets : Bool). not (can_hold w) || meets)
        (some_same i (λ k. decided (common w (window_of season k))) (λ k. hold_together w (window_of season k)) (λ k h. decided_together w (window_of season k) (closed i below)))

-- the check, with what code decides in place of the test of all windows
unfoldable decided_season : List ℕ → Result ℕ Refusal
decided_season season =
    cond (season_length_right season)
    (cond (not (days_wrong season (window_count season)))
    (cond (season_version_right season)
    (cond (not (some_below (window_count season) (decided_at season))) (Ok (window_count season)) (Err Clash))
    (Err Version))
    (Err Length))
    (Err Length)

season_decided : (season : List ℕ) → ClosingsFit season (window_count season) → decided_season season ≡ checked_season season
unfolding decided_season checked_season
season_decided season closed = rw (clashes_decided season (window_count season) closed) refl

closed_by : (season : List ℕ) (n : ℕ) → some_below n (λ i. ltb (2 ^ 32) (window_of season i).closing) ≡ false → ClosingsFit season n
closed_by season n none i below =
    by_test (ltb (2 ^ 32) (window_of season i).closing) refl
  where
    by_test : (over : Bool) → ltb (2 ^ 32) (window_of season i).closing ≡ over → (window_of season i).closing ≤ 2 ^ 32
    by_test true over = both_ways (some_below n (λ k. ltb (2 ^ 32) (window_of season k).closing)) (some_shows n (λ k. ltb (2 ^ 32) (window_of season k).closing) i below over) none
    by_test false over = ltb-false (2 ^ 32) (window_of season i).closing over

-- a check that is computed
computed : (season : List ℕ) (check : Result ℕ Refusal) → some_below (window_count season) (λ i. ltb (2 ^ 32) (window_of season i).closing) ≡ false → decided_season season ≡ check → checked_season season ≡ check
computed season check closed is = sym (season_decided season (closed_by season (window_count season) closed)) ∙ is

frost_accepted : checked_season frost ≡ Ok 2
unfolding decided_season counted_right common window_of number_at bytes_of some_below
frost_accepted = computed frost (Ok 2) refl refl

-- the answer of the first season at a minute
frost_at : (m : ℕ) (answer : Result ℕ Refusal) → map_among frost m 2 ≡ answer → season_map frost m ≡ answer
frost_at m answer is = ap (checked_map frost m) frost_accepted ∙ is

-- each of its two windows stands in the other place
frost_reordered : Reordered frost turned
unfolding window_of number_at bytes_of
frost_reordered =
    record {
      lengths = refl;
      heads = λ at below. head at below;
      moved = λ i. 1 - i;
      back = λ i. 1 - i;
      moved_in = λ i below. omega arith;
      back_in = λ i below. omega arith;
      moved_back = λ i below. omega arith;
      back_moved = λ i below. omega arith;
      windows = one;
    }
  where
    head : (at : ℕ) → at < 5 → byte_at frost at ≡ byte_at turned at
    head zero below = refl
    head (suc zero) below = refl
    head (suc (suc zero)) below = refl
    head (suc (suc (suc zero))) below = refl
    head (suc (suc (suc (suc zero)))) below = refl
    head (suc (suc (suc (suc (suc at))))) below = absurd (omega arith)

    one : (i : ℕ) → i < 2 → window_of turned (1 - i) ≡ window_of frost i
    one zero below = refl
    one (suc zero) below = refl
    one (suc (suc i)) below = absurd (omega arith)

pub season_readings : SeasonReadings
unfolding decided_season counted_right common window_of number_at bytes_of some_below last_below holds_at
season_readings =
    record {
      accepted = frost_accepted;
      other_order = computed turned (Ok 2) refl refl;
      reordered = frost_reordered;
      opened = frost_at 0 (Ok 0) refl;
      not_closed = frost_at 43199 (Ok 0) refl;
      night = frost_at 43559 (Err Shut) refl;
      morning = frost_at 43560 (Ok 1) refl;
      evening = frost_at 44519 (Ok 1) refl;
      late = frost_at 44520 (Err Shut) refl;
      last_minute = frost_at 4294967295 (Err Shut) refl;
      none = computed _ (Ok 0) refl refl;
      none_shut = ap (checked_map (season_of 1 []) 0) (computed (season_of 1 []) (Ok 0) refl refl) ∙ refl;
      one_minute = computed _ (Err Clash) refl refl;
      one_minute_back = computed _ (Err Clash) refl refl;
      by_day = computed _ (Ok 2) refl refl;
      no_part = computed _ (Err Clash) refl refl;
      missed = computed _ (Err Clash) refl refl;
      at_day_end = computed _ (Err Clash) refl refl;
      closed_before = computed _ (Err Clash) refl refl;
      no_span = computed _ (Err Clash) refl refl;
      no_bytes = computed [] (Err Length) refl refl;
      first_past = computed _ (Err Length) refl refl;
      past_day_lem = computed _ (Err Length) refl refl;
      version = computed _ (Err Version) refl refl;
    }
