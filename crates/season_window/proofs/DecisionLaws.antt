-- What code decides is right: the first minute of a window's part of the day, from its opening on, is a minute at which it holds if there is one; and the part that two windows share
-- holds where both do.
use Rattle.std.specs.Prelude.{ℕ, ◌+◌, ◌-◌, ◌%◌, ◌^◌, ◌≤◌, ◌<◌, min, ◌≡◌, refl, Bool, true, false, cond, ◌&&◌, leb, ltb}
use Rattle.std.proofs.Math.Path.{sym}
use Rattle.std.proofs.Common.{ap, ◌∙◌, arith, lt-ltb, le-ltb, le-leb, ltb-true, ltb-false, leb-true}
use Rattle.std.proofs.Math.Nat.{le-max_left, le-max_right, min-le_left, min-le_right, max-le, le-min}
use Rattle.counting.proofs.BoolLaws.{and_both, not_held, same_tests}
use Rattle.counting.proofs.SomeLaws.{some_is, some_same}
use Rattle.season_window.specs.Decision.{common, first_minute, decided}
use Rattle.season_window.specs.Theorems.{Holds}
use Rattle.season_window.specs.Window.{season_minutes, day_minutes, holds_at, can_hold, hold_together}
use Rattle.season_window.specs.declared.Window.{Window}

pub minutes_are : season_minutes ≡ 2 ^ 32
unfolding season_minutes
minutes_are = refl

-- ---- what it is to hold
pub holds_tells : (w : Window) (m : ℕ) → holds_at w m ≡ true → Holds w m
unfolding holds_at
holds_tells w m holds =
    let parts = and_both (leb w.opening m && ltb m w.closing) _ holds in
    let season = and_both (leb w.opening m) _ parts.0 in
    let day = and_both (leb w.first (m % day_minutes)) _ parts.1 in
    record {
      opened = leb-true w.opening m season.0;
      unclosed = ltb-true m w.closing season.1;
      begun = leb-true w.first (m % day_minutes) day.0;
      unended = ltb-true (m % day_minutes) w.last day.1;
    }

pub holds_shows : (w : Window) (m : ℕ) → Holds w m → holds_at w m ≡ true
unfolding holds_at
holds_shows w m h =
    rw (
      le-leb w.opening m h.opened,
      lt-ltb m w.closing h.unclosed,
      le-leb w.first (m % day_minutes) h.begun,
      lt-ltb (m % day_minutes) w.last h.unended,
    )

never : (w : Window) (m : ℕ) → (Holds w m → ⊥) → holds_at w m ≡ false
never w m out = not_held (holds_at w m) (λ holds. out (holds_tells w m holds))

-- a minute out of the window, on one side or the other, in the season or in the day
pub before_opening : (w : Window) (m : ℕ) → m < w.opening → false ≡ holds_at w m
before_opening w m out = sym (never w m (λ h. let opened = h.opened in omega arith))

pub from_closing : (w : Window) (m : ℕ) → w.closing ≤ m → false ≡ holds_at w m
from_closing w m out = sym (never w m (λ h. let unclosed = h.unclosed in omega arith))

pub before_first : (w : Window) (m : ℕ) → m % day_minutes < w.first → false ≡ holds_at w m
before_first w m out = sym (never w m (λ h. let begun = h.begun in omega arith))

-- on none of these three, the last minute decides
pub last_decides : (w : Window) (m : ℕ) → w.opening ≤ m → m < w.closing → w.first ≤ m % day_minutes → ltb (m % day_minutes) w.last ≡ holds_at w m
unfolding holds_at
last_decides w m opened unclosed begun = rw (le-leb w.opening m opened, lt-ltb m w.closing unclosed, le-leb w.first (m % day_minutes) begun) refl

-- ---- the first minute
pub first_today : (opening first last : ℕ) → opening % day_minutes < first → opening + (first - opening % day_minutes) ≡ first_minute opening first last
first_today opening first last before = rw (lt-ltb (opening % day_minutes) first before) refl

pub first_now : (opening first last : ℕ) → first ≤ opening % day_minutes → opening % day_minutes < last → opening ≡ first_minute opening first last
first_now opening first last begun inside = rw (le-ltb (opening % day_minutes) first begun, lt-ltb (opening % day_minutes) last inside) refl

pub first_tomorrow : (opening first last : ℕ) → first ≤ opening % day_minutes → last ≤ opening % day_minutes
    → opening + (day_minutes - opening % day_minutes) + first ≡ first_minute opening first last
first_tomorrow opening first last begun beyond = rw (le-ltb (opening % day_minutes) first begun, le-ltb (opening % day_minutes) last beyond) refl

-- it is one of the day's part, from the opening on, and none before it is
first_in_lem : (opening first last : ℕ) → first < last → last ≤ day_minutes
    → (opening ≤ first_minute opening first last) × (first ≤ first_minute opening first last % day_minutes) × (first_minute opening first last % day_minutes < last)
first_in_lem opening first last some whole = by_day (ltb day first) (ltb day last) refl refl
  where
    day : ℕ
    day = opening % day_minutes

    by_day : (before inside : Bool) → ltb day first ≡ before → ltb day last ≡ inside
        → let at = cond before (opening + (first - day)) (cond inside opening (opening + (day_minutes - day) + first)) in
        (opening ≤ at) × (first ≤ at % day_minutes) × (at % day_minutes < last)
    by_day true inside h k = let below = ltb-true day first h in (omega arith, omega arith, omega arith)
    by_day false true h k = let above = ltb-false day first h in let below = ltb-true day last k in (omega arith, omega arith, omega arith)
    by_day false false h k = let above = ltb-false day first h in let beyond = ltb-false day last k in (omega arith, omega arith, omega arith)

first_least : (opening first last m : ℕ) → opening ≤ m → first ≤ m % day_minutes → m % day_minutes < last → first_minute opening first last ≤ m
first_least opening first last m opened begun unended = by_day (ltb day first) (ltb day last) refl refl
  where
    day : ℕ
    day = opening % day_minutes

    by_day : (before inside : Bool) → ltb day first ≡ before → ltb day last ≡ inside
        → cond before (opening + (first - day)) (cond inside opening (opening + (day_minutes - day) + first)) ≤ m
    by_day true inside h k = let below = ltb-true day first h in omega arith
    by_day false true h k = opened
    by_day false false h k = let above = ltb-false day first h in let beyond = ltb-false day last k in omega arith

-- ---- a window can hold where that is decided
pub decided_right : (w : Window) → w.closing ≤ 2 ^ 32 → decided w ≡ can_hold w
decided_right w bits = some_is season_minutes (holds_at w) (decided w) found least
  where
    last : ℕ
    last = min w.last day_minutes

    at : ℕ
    at = first_minute w.opening w.first last

    found : decided w ≡ true → (m : ℕ) × (m < season_minutes) × (holds_at w m ≡ true)
    found test =
        let tests = and_both (ltb w.first last) (ltb at w.closing) test in
        let own = min-le_left w.last day_minutes in
        let in-part = first_in_lem w.opening w.first last (ltb-true w.first last tests.0) (min-le_right w.last day_minutes) in
        let unclosed = ltb-true at w.closing tests.1 in
        let unended = in-part.2 in
        (at, omega (arith, minutes_are), holds_shows w at (record { opened = in-part.0; unclosed = unclosed; begun = in-part.1; unended = omega arith }))

    least : (m : ℕ) → m < season_minutes → holds_at w m ≡ true → decided w ≡ true
    least m below holds =
        let h = holds_tells w m holds in
        let begun = h.begun in
        let unclosed = h.unclosed in
        let unended : m % day_minutes < last = le-min h.unended (omega arith) in
        rw (lt-ltb w.first last (omega arith)) (lt-ltb at w.closing (omega (arith, first_least w.opening w.first last m h.opened begun unended)))

-- where its part of the day is empty, and where it is not
module _ (w : Window) (bits : w.closing ≤ 2 ^ 32) where
  last : ℕ
  last = min w.last day_minutes

  unclosed : Bool
  unclosed = ltb (first_minute w.opening w.first last) w.closing

  pub never_held : min w.last day_minutes ≤ w.first → false ≡ can_hold w
  unfolding last unclosed
  never_held empty = sym (ap (λ (some : Bool). some && unclosed) (le-ltb w.first last empty)) ∙ decided_right w bits

  pub first_decides : w.first < min w.last day_minutes → ltb (first_minute w.opening w.first (min w.last day_minutes)) w.closing ≡ can_hold w
  unfolding last unclosed
  first_decides some = sym (ap (λ (begun : Bool). begun && unclosed) (lt-ltb w.first last some)) ∙ decided_right w bits

-- ---- what two windows share
common_holds : (w v : Window) (m : ℕ) → holds_at (common w v) m ≡ (holds_at w m && holds_at v m)
unfolding common
common_holds w v m = same_tests (holds_at (common w v) m) (holds_at w m && holds_at v m) both shared
  where
    both : holds_at (common w v) m ≡ true → (holds_at w m && holds_at v m) ≡ true
    both holds =
        let h = holds_tells (common w v) m holds in
        let opened = h.opened in
        let unclosed = h.unclosed in
        let begun = h.begun in
        let unended = h.unended in
        let opening-w = le-max_left w.opening v.opening in
        let opening-v = le-max_right w.opening v.opening in
        let closing-w = min-le_left w.closing v.closing in
        let closing-v = min-le_right w.closing v.closing in
        let first-w = le-max_left w.first v.first in
        let first-v = le-max_right w.first v.first in
        let last-w = min-le_left w.last v.last in
        let last-v = min-le_right w.last v.last in
        rw (
          holds_shows w m (record { opened = omega arith; unclosed = omega arith; begun = omega arith; unended = omega arith }),
          holds_shows v m (record { opened = omega arith; unclosed = omega arith; begun = omega arith; unended = omega arith }),
        )

    shared : (holds_at w m && holds_at v m) ≡ true → holds_at (common w v) m ≡ true
    shared hold =
        let tests = and_both (holds_at w m) (holds_at v m) hold in
        let a = holds_tells w m tests.0 in
        let b = holds_tells v m tests.1 in
        holds_shows (common w v) m
        (record {
          opened = max-le a.opened b.opened;
          unclosed = le-min a.unclosed b.unclosed;
          begun = max-le a.begun b.begun;
          unended = le-min a.unended b.unended;
        })

pub common_can_hold : (w v : Window) → can_hold (common w v) ≡ hold_together w v
common_can_hold w v = some_same season_minutes (holds_at (common w v)) (λ m. holds_at w m && holds_at v m) (λ m below. common_holds w v m)

-- two windows hold together where that is decided of what they share
pub decided_together : (w v : Window) → w.closing ≤ 2 ^ 32 → decided (common w v) ≡ hold_together w v
unfolding common
decided_together w v bits = decided_right (common w v) (omega (arith, bits, min-le_left w.closing v.closing)) ∙ common_can_hold w v
