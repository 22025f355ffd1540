-- The theorems on windows: a test over all minutes that is true names one of them, and a minute that is named makes it true.
use Rattle.std.proofs.Common.{sym, ◌∙◌, arith}
use Rattle.std.specs.Prelude.{◌&&◌}
use Rattle.counting.proofs.BoolLaws.{and_both}
use Rattle.counting.proofs.SomeLaws.{some_tells, some_shows}
use Rattle.season_window.proofs.DecisionLaws.{minutes_are, holds_tells, holds_shows, decided_right, decided_together}
use Rattle.season_window.specs.Theorems.{HoldsAsWritten, CanHoldIsEver, HoldTogetherIsTogether, DecisionIsExistence}
use Rattle.season_window.specs.Window.{season_minutes, holds_at}

pub holds_as_written : HoldsAsWritten
holds_as_written w m = (holds_tells w m, holds_shows w m)

pub can_hold_is_ever : CanHoldIsEver
can_hold_is_ever w = (
  λ can. let found = some_tells season_minutes (holds_at w) can in let below = found.1 in (found.0, omega (arith, minutes_are), holds_tells w found.0 found.2),
  λ ever. let below = ever.1 in some_shows season_minutes (holds_at w) ever.0 (omega (arith, minutes_are)) (holds_shows w ever.0 ever.2),
)

pub hold_together_is_together : HoldTogetherIsTogether
hold_together_is_together w v = (
  λ meet.
      let found = some_tells season_minutes (λ m. holds_at w m && holds_at v m) meet in
      let below = found.1 in
      let both = and_both (holds_at w found.0) (holds_at v found.0) found.2 in
      (found.0, omega (arith, minutes_are), holds_tells w found.0 both.0, holds_tells v found.0 both.1),
  λ together.
      let m = together.0 in
      let below = together.1 in
      some_shows season_minutes (λ m. holds_at w m && holds_at v m) m (omega (arith, minutes_are)) (rw (holds_shows w m together.2, holds_shows v m together.3)),
)

pub decision_is_existence : DecisionIsExistence
decision_is_existence w bits = (
  (λ test. (can_hold_is_ever w).0 (sym (decided_right w bits) ∙ test), λ ever. decided_right w bits ∙ (can_hold_is_ever w).1 ever),
  λ v. (
    λ test. (hold_together_is_together w v).0 (sym (decided_together w v bits) ∙ test),
    λ together. decided_together w v bits ∙ (hold_together_is_together w v).1 together,
  ),
)
