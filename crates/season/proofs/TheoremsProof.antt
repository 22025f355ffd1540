-- The theorems on seasons: a test over all windows that is true names one of them, and where none clash two that hold at a minute are one.
use Rattle.std.specs.Prelude.{ℕ, ◌^◌, ◌<◌, ◌≡◌, refl, Bool, true, false, not, cond, ◌||◌, List, eqb, ltb, Err, Ok, Result}
use Rattle.std.proofs.Common.{sym, ap, ◌∙◌, inl, inr, ⊎_elim, arith, eqb-true, ltb-true, ltb-false}
use Rattle.std.proofs.lemmas.Bool.{not-true, not-false, eqb-false}
use Rattle.control_point.specs.declared.refusal.Refusal.TheVariants.{Length, Version, Clash, Shut}
use Rattle.counted_file.specs.Counted.{file_told}
use Rattle.counted_file.proofs.CountedLaws.{valid_refused}
use Rattle.counting.proofs.BoolLaws.{both_ways, not_held, or_case, or_first, or_second}
use Rattle.counting.specs.Counting.{last_below}
use Rattle.counting.proofs.SomeLaws.{some_tells, some_shows, last_passes}
use Rattle.season_window.specs.Theorems.{Holds, Ever, Together}
use Rattle.season_window.proofs.TheoremsProof.{holds_as_written, can_hold_is_ever, hold_together_is_together}
use Rattle.season_window.specs.Window.{holds_at, can_hold, hold_together}
use Rattle.season_window.specs.declared.Window.{Window}
use Rattle.season.specs.Season.{window_of, window_count, season_length_right, days_wrong, season_version_right, holds_with_one, clashes, checked_season, some_holds, map_held, map_among, checked_map, season_map}
use Rattle.season.proofs.SeasonLaws.{valid_tells}
use Rattle.season.specs.Theorems.{Readable, Clashing, ClashIsExistence, OneHolds, EachHolds, MapAnswered, ShutAnswered}
use Rattle.control_point.specs.declared.refusal.Refusal.{Refusal}

-- ---- the test of all windows
-- what it says of one
abbrev clashes_at : List ℕ → ℕ → Bool
clashes_at season n = not (can_hold (window_of season n)) || holds_with_one season n (window_of season n)

swapped : {w v : Window} → Together w v → Together v w
swapped meet = (meet.0, meet.1, meet.3, meet.2)

pub clash_tells : (season : List ℕ) (n : ℕ) → clashes season n ≡ true → Clashing season n
clash_tells season n clash =
    let found = some_tells n (clashes_at season) clash in
    let i = found.0 in
    or_case (not (can_hold (window_of season i))) (holds_with_one season i (window_of season i)) found.2
    (λ never. inl (i, found.1, λ ever. both_ways (can_hold (window_of season i)) ((can_hold_is_ever (window_of season i)).1 ever) (not-true (can_hold (window_of season i)) never)))
    (λ meets.
    let other = some_tells i (λ k. hold_together (window_of season i) (window_of season k)) meets in
    let k = other.0 in
    inr (k, i, other.1, found.1, swapped ((hold_together_is_together (window_of season i) (window_of season k)).0 other.2)))

pub clash_shows : (season : List ℕ) (n : ℕ) → Clashing season n → clashes season n ≡ true
clash_shows season n = ⊎_elim (λ a. alone a.0 a.1 a.2) (λ a. pair a.0 a.1 a.2 a.3 a.4)
  where
    alone : (i : ℕ) → i < n → (Ever (window_of season i) → ⊥) → clashes season n ≡ true
    alone i below never =
        some_shows n (clashes_at season) i below
        (or_first (not (can_hold (window_of season i))) (holds_with_one season i (window_of season i))
        (ap not (not_held (can_hold (window_of season i)) (λ can. never ((can_hold_is_ever (window_of season i)).0 can)))))

    pair : (i j : ℕ) → i < j → j < n → Together (window_of season i) (window_of season j) → clashes season n ≡ true
    pair i j order below meet =
        some_shows n (clashes_at season) j below
        (or_second (not (can_hold (window_of season j))) (holds_with_one season j (window_of season j))
        (some_shows j (λ k. hold_together (window_of season j) (window_of season k)) i order ((hold_together_is_together (window_of season j) (window_of season i)).1 (swapped meet))))

-- two windows that hold together clash, whatever their order
pub pair_clashes : (season : List ℕ) (n i j : ℕ) → (i ≡ j → ⊥) → i < n → j < n → Together (window_of season i) (window_of season j) → Clashing season n
pair_clashes season n i j two i-below j-below meet = by_order (ltb i j) refl
  where
    by_order : (before : Bool) → ltb i j ≡ before → Clashing season n
    by_order true h = inr (i, j, ltb-true i j h, j-below, meet)
    by_order false h = let above = ltb-false i j h in inr (j, i, omega (arith, above, two), i-below, swapped meet)

-- ---- 18
-- where four tests in a row refuse by 18, the first three held and the last did not
clash_tests : (long days version apart : Bool) (count : ℕ)
    → cond long (cond days (cond version (cond apart (Ok count) (Err Clash)) (Err Version)) (Err Length)) (Err Length) ≡ Err Clash
    → (long ≡ true) × (days ≡ true) × (version ≡ true) × (apart ≡ false)
clash_tests true true true false count refused = (refl, refl, refl, refl)
clash_tests true true true true count refused = absurd (valid_refused Clash count (sym refused))
clash_tests true true false apart count refused = let z : ◌≡◌ {A = ℕ} 13 18 = ap (λ (check : Result ℕ Refusal). (file_told check).number) refused in absurd (omega arith)
clash_tests true false version apart count refused = let z : ◌≡◌ {A = ℕ} 12 18 = ap (λ (check : Result ℕ Refusal). (file_told check).number) refused in absurd (omega arith)
clash_tests false days version apart count refused = let z : ◌≡◌ {A = ℕ} 12 18 = ap (λ (check : Result ℕ Refusal). (file_told check).number) refused in absurd (omega arith)

pub clash_is_existence : ClashIsExistence
unfolding checked_season
clash_is_existence season = (tells, shows)
  where
    n : ℕ
    n = window_count season

    tells : checked_season season ≡ Err Clash → Readable season × Clashing season n
    tells refused =
        let tests = clash_tests (season_length_right season) (not (days_wrong season n)) (season_version_right season) (not (clashes season n)) n refused in
        ((tests.0, not-true (days_wrong season n) tests.1, tests.2), clash_tells season n (not-false (clashes season n) tests.3))

    shows : Readable season × Clashing season n → checked_season season ≡ Err Clash
    shows h = let readable = h.0 in rw (readable.0, readable.1, readable.2, clash_shows season n h.1) refl

-- ---- an accepted season
-- none of its windows clash
apart : (season : List ℕ) (n : ℕ) → checked_season season ≡ Ok n → Clashing season n → ⊥
apart season n valid clash = both_ways (clashes season n) (clash_shows season n clash) (valid_tells season n valid).apart

pub one_holds : OneHolds
one_holds season n valid m i j bits i-below j-below i-holds j-holds = by_test (eqb i j) refl
  where
    by_test : (same : Bool) → eqb i j ≡ same → i ≡ j
    by_test true same = eqb-true i j same
    by_test false other = absurd (apart season n valid (pair_clashes season n i j (eqb-false i j other) i-below j-below (m, bits, i-holds, j-holds)))

pub each_holds : EachHolds
each_holds season n valid i below = by_test (can_hold (window_of season i)) refl
  where
    by_test : (can : Bool) → can_hold (window_of season i) ≡ can → Ever (window_of season i)
    by_test true can = (can_hold_is_ever (window_of season i)).0 can
    by_test false can = absurd (apart season n valid (inl (i, below, λ ever. both_ways (can_hold (window_of season i)) ((can_hold_is_ever (window_of season i)).1 ever) can)))

-- ---- the map at a minute
abbrev holding : List ℕ → ℕ → ℕ → Bool
holding season m i = holds_at (window_of season i) m

known : (season : List ℕ) (n m : ℕ) → checked_season season ≡ Ok n → season_map season m ≡ map_among season m n
known season n m valid = ap (checked_map season m) valid

-- the map of a window that holds is the answer
pub map_of_holding : (season : List ℕ) (n : ℕ) → checked_season season ≡ Ok n → (m i : ℕ) → m < 2 ^ 32 → i < n → Holds (window_of season i) m → season_map season m ≡ Ok (window_of season i).map
map_of_holding season n valid m i bits below holds =
    let some = some_shows n (holding season m) i below ((holds_as_written (window_of season i) m).1 holds) in
    let last = last_passes n (holding season m) some in
    let at = last_below n (holding season m) in
    let same = one_holds season n valid m at i bits last.0 below ((holds_as_written (window_of season at) m).0 last.1) holds in
    known season n m valid ∙ ap (λ (b : Bool). cond b (Ok (map_held season m n)) (Err Shut)) some ∙ ap (λ (k : ℕ). Ok (window_of season k).map) same

-- where none holds it is 19
pub map_of_none : (season : List ℕ) (n : ℕ) → checked_season season ≡ Ok n → (m : ℕ) → some_holds season m n ≡ false → season_map season m ≡ Err Shut
map_of_none season n valid m none = known season n m valid ∙ ap (λ (b : Bool). cond b (Ok (map_held season m n)) (Err Shut)) none

shut_no_map : (map : ℕ) → Err Shut ≡ Ok map → ⊥
shut_no_map map same = let z : ◌≡◌ {A = ℕ} 0 1 = cc in omega arith

is_map : (a b : ℕ) → ◌≡◌ {A = Result ℕ Refusal} (Ok a) (Ok b) → a ≡ b
is_map a b same = cc

-- the number of a window that holds, where there is one
pub holding_found : (season : List ℕ) (n m : ℕ) → some_holds season m n ≡ true → (i : ℕ) × (i < n) × Holds (window_of season i) m
holding_found season n m some = let one = some_tells n (holding season m) some in (one.0, one.1, (holds_as_written (window_of season one.0) m).0 one.2)

pub map_answered : MapAnswered
map_answered season n valid m map bits = (
  λ answered. by_test answered (some_holds season m n) refl,
  λ h. map_of_holding season n valid m h.0 bits h.1 h.2 ∙ ap Ok h.3,
)
  where
    by_test : season_map season m ≡ Ok map → (some : Bool) → some_holds season m n ≡ some → (i : ℕ) × (i < n) × Holds (window_of season i) m × ((window_of season i).map ≡ map)
    by_test answered true some =
        let one = holding_found season n m some in
        (one.0, one.1, one.2, is_map (window_of season one.0).map map (sym (map_of_holding season n valid m one.0 bits one.1 one.2) ∙ answered))
    by_test answered false none = absurd (shut_no_map map (sym (map_of_none season n valid m none) ∙ answered))

pub shut_answered : ShutAnswered
shut_answered season n valid m = (
  λ shut i below holds.
      shut_no_map _ (sym shut ∙ known season n m valid ∙ ap (λ (b : Bool). cond b (Ok (map_held season m n)) (Err Shut)) (some_shows n (holding season m) i below ((holds_as_written (window_of season i) m).1 holds))),
  λ none. by_test none (some_holds season m n) refl,
)
  where
    by_test : ((i : ℕ) → i < n → Holds (window_of season i) m → ⊥) → (some : Bool) → some_holds season m n ≡ some → season_map season m ≡ Err Shut
    by_test none true some = let one = holding_found season n m some in absurd (none one.0 one.1 one.2)
    by_test none false some = map_of_none season n valid m some
