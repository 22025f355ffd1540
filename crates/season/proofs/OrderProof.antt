-- The order of the windows is not seen: what is said of some window, of some two windows, and of the one window that holds does not depend on their numbers.
use Rattle.std.specs.Prelude.{ℕ, ◌-◌, ◌/◌, ◌^◌, ◌<◌, ◌≡◌, Bool, true, false, List, eqb, Err, Ok, Result}
use Rattle.std.proofs.Math.Path.{refl}
use Rattle.std.proofs.Common.{sym, ap, ◌∙◌, subst, inl, ⊎_elim, arith}
use Rattle.big_endian.specs.BigEndian.{number_at}
use Rattle.counted_file.specs.Counted.{count_bytes, version_at, counted_right}
use Rattle.counting.proofs.BoolLaws.{same_tests}
use Rattle.counting.specs.Counting.{some_below}
use Rattle.counting.proofs.SomeLaws.{some_tells, some_shows}
use Rattle.season_window.specs.Theorems.{Holds, Ever, Together}
use Rattle.season_window.specs.Window.{past_day, holds_at}
use Rattle.season_window.specs.declared.Window.{Window}
use Rattle.season.specs.Season.{windows_at, window_bytes, the_version, window_of, window_count, season_length_right, days_wrong, season_version_right, clashes, checked_season, some_holds, checked_map, season_map}
use Rattle.season.proofs.SeasonLaws.{valid_tells}
use Rattle.season.specs.Theorems.{Clashing, Reordered, OrderUnseen}
use Rattle.season.proofs.TheoremsProof.{pair_clashes, clash_tells, clash_shows, holding_found, map_of_holding, map_of_none}
use Rattle.control_point.specs.declared.refusal.Refusal.{Refusal}

same_count : (season other : List ℕ) → Reordered season other → window_count season ≡ window_count other
same_count season other r = ap (λ (n : ℕ). (n - windows_at) / window_bytes) r.lengths

-- ---- the other way round it is the same
turned : (season other : List ℕ) → Reordered season other → Reordered other season
turned season other r =
    record {
      lengths = sym r.lengths;
      heads = λ at h. sym (r.heads at h);
      moved = r.back;
      back = r.moved;
      moved_in = λ i h. over (r.back i) (r.back_in i (under i h));
      back_in = λ i h. over (r.moved i) (r.moved_in i (under i h));
      moved_back = λ i h. r.back_moved i (under i h);
      back_moved = λ i h. r.moved_back i (under i h);
      windows = λ i h. sym (r.windows (r.back i) (r.back_in i (under i h))) ∙ ap (window_of other) (r.moved_back i (under i h));
    }
  where
    over : (i : ℕ) → i < window_count season → i < window_count other
    over i = subst (λ (n : ℕ). i < n) (same_count season other r)

    under : (i : ℕ) → i < window_count other → i < window_count season
    under i = subst (λ (n : ℕ). i < n) (sym (same_count season other r))

-- ---- what is true of the one is true of the other
module _ (season other : List ℕ) (r : Reordered season other) where
  there : (i : ℕ) → i < window_count season → r.moved i < window_count other
  there i below = subst (λ (n : ℕ). r.moved i < n) (same_count season other r) (r.moved_in i below)

  -- of some window
  some_moved : (test : Window → Bool) → some_below (window_count season) (λ i. test (window_of season i)) ≡ true → some_below (window_count other) (λ i. test (window_of other i)) ≡ true
  some_moved test some =
      let found = some_tells (window_count season) (λ i. test (window_of season i)) some in
      let i = found.0 in
      some_shows (window_count other) (λ k. test (window_of other k)) (r.moved i) (there i found.1)
      (ap test (r.windows i found.1) ∙ found.2)

  -- of two windows: their numbers stay apart
  still_apart : (i j : ℕ) → i < j → j < window_count season → r.moved i ≡ r.moved j → ⊥
  still_apart i j order below same =
      let one : i ≡ j = sym (r.back_moved i (omega (arith, order, below))) ∙ ap r.back same ∙ r.back_moved j below in
      omega (arith, order, one)

  clash_moved : clashes season (window_count season) ≡ true → clashes other (window_count other) ≡ true
  clash_moved clash =
      clash_shows other (window_count other)
      (⊎_elim (λ a. alone a.0 a.1 a.2) (λ a. pair a.0 a.1 a.2 a.3 a.4) (clash_tells season (window_count season) clash))
    where
      alone : (i : ℕ) → i < window_count season → (Ever (window_of season i) → ⊥) → Clashing other (window_count other)
      alone i below never = inl (r.moved i, there i below, subst (λ (w : Window). Ever w → ⊥) (sym (r.windows i below)) never)

      pair : (i j : ℕ) → i < j → j < window_count season → Together (window_of season i) (window_of season j) → Clashing other (window_count other)
      pair i j order below meet =
          let first : i < window_count season = omega (arith, order, below) in
          pair_clashes other (window_count other) (r.moved i) (r.moved j) (still_apart i j order below) (there i first) (there j below)
          (subst (λ (w : Window). Together w (window_of other (r.moved j))) (sym (r.windows i first))
          (subst (λ (w : Window). Together (window_of season i) w) (sym (r.windows j below)) meet))

-- ---- so each test of one is that of the other
module _ (season other : List ℕ) (r : Reordered season other) where
  same_number : number_at count_bytes season 0 ≡ number_at count_bytes other 0
  unfolding number_at
  same_number = rw (r.heads 0 (omega arith), r.heads 1 (omega arith), r.heads 2 (omega arith), r.heads 3 (omega arith)) refl

  same_length : season_length_right season ≡ season_length_right other
  unfolding counted_right
  same_length = rw (r.lengths, same_number) refl

  same_days : days_wrong season (window_count season) ≡ days_wrong other (window_count other)
  same_days = same_tests _ _ (some_moved season other r past_day) (some_moved other season (turned season other r) past_day)

  same_version : season_version_right season ≡ season_version_right other
  same_version = ap (λ (version : ℕ). eqb version the_version) (r.heads version_at (omega arith))

  same_clashes : clashes season (window_count season) ≡ clashes other (window_count other)
  same_clashes = same_tests _ _ (clash_moved season other r) (clash_moved other season (turned season other r))

  same_check : checked_season season ≡ checked_season other
  unfolding checked_season
  same_check = rw (same_length, same_days, same_version, same_clashes, same_count season other r) refl

  same_holding : (m : ℕ) → some_holds season m (window_count season) ≡ some_holds other m (window_count other)
  same_holding m = same_tests _ _ (some_moved season other r (λ w. holds_at w m)) (some_moved other season (turned season other r) (λ w. holds_at w m))

  -- where both are valid, the window that holds is the same, and so is its map
  same_valid : (m n : ℕ) → m < 2 ^ 32 → checked_season season ≡ Ok n → season_map season m ≡ season_map other m
  same_valid m n bits valid = by_test (some_holds season m n) refl
    where
      other_valid : checked_season other ≡ Ok n
      other_valid = sym same_check ∙ valid

      count : window_count season ≡ n
      count = (valid_tells season n valid).counted

      by_test : (some : Bool) → some_holds season m n ≡ some → season_map season m ≡ season_map other m
      by_test true some =
          let found = holding_found season n m some in
          let i = found.0 in
          let below = subst (λ (k : ℕ). i < k) (sym count) found.1 in
          let same = r.windows i below in
          let held = map_of_holding other n other_valid m (r.moved i) bits (subst (λ (k : ℕ). r.moved i < k) count (r.moved_in i below)) (subst (λ (w : Window). Holds w m) (sym same) found.2) in
          map_of_holding season n valid m i bits found.1 found.2 ∙ sym (held ∙ ap (λ (w : Window). Ok w.map) same)
      by_test false none =
          let here = ap (some_holds season m) count ∙ none in
          let there = ap (some_holds other m) (sym (valid_tells other n other_valid).counted) ∙ sym (same_holding m) ∙ here in
          map_of_none season n valid m none ∙ sym (map_of_none other n other_valid m there)

pub order_unseen : OrderUnseen
order_unseen season other r = (same_check season other r, λ m bits. by_check m bits (checked_season season) refl)
  where
    by_check : (m : ℕ) → m < 2 ^ 32 → (check : Result ℕ Refusal) → checked_season season ≡ check → season_map season m ≡ season_map other m
    by_check m bits (Ok n) valid = same_valid season other r m n bits valid
    by_check m bits (Err refusal) refused = ap (checked_map season m) refused ∙ sym (ap (checked_map other m) (sym (same_check season other r) ∙ refused))
