-- Theorems on windows: statements only, with what they speak of.
use Rattle.std.specs.Prelude.{ℕ, ◌%◌, ◌^◌, ◌≤◌, ◌<◌, ◌≡◌, true, ◌↔◌}
use Rattle.season_window.specs.Decision.{common, decided}
use Rattle.season_window.specs.Window.{day_minutes, holds_at, can_hold, hold_together}
use Rattle.season_window.specs.declared.Window.{Window}

-- a window holds at minute m, by its inequalities
pub record Holds (w : Window) (m : ℕ) : Type 0 where
  pub opened : w.opening ≤ m
  pub unclosed : m < w.closing
  pub begun : w.first ≤ m % day_minutes
  pub unended : m % day_minutes < w.last

-- there is a minute of 32 bits at which it holds
abbrev pub Ever : Window → Type 0
Ever w = (m : ℕ) × (m < 2 ^ 32) × Holds w m

-- there is a minute of 32 bits at which both hold
abbrev pub Together : Window → Window → Type 0
Together w v = (m : ℕ) × (m < 2 ^ 32) × Holds w m × Holds v m

-- ---- the definitions are these
abbrev pub HoldsAsWritten : Type 0
HoldsAsWritten = (w : Window) (m : ℕ) → (holds_at w m ≡ true) ↔ Holds w m

abbrev pub CanHoldIsEver : Type 0
CanHoldIsEver = (w : Window) → (can_hold w ≡ true) ↔ Ever w

abbrev pub HoldTogetherIsTogether : Type 0
HoldTogetherIsTogether = (w v : Window) → (hold_together w v ≡ true) ↔ Together w v

-- ---- THE DECISION IS THE EXISTENCE
-- `decided`, the arithmetic that `can_hold` follows in constant time, is true of a window exactly where there is such a minute, and of what two windows share exactly where there is a common one. A closing
-- minute of 32 bits is below 2 ^ 32; nothing else is asked. The contracts of `can_hold` and `holds_with` promise the existence itself.
abbrev pub DecisionIsExistence : Type 0
DecisionIsExistence =
    (w : Window) → w.closing ≤ 2 ^ 32 → ((decided w ≡ true) ↔ Ever w) × ((v : Window) → (decided (common w v) ≡ true) ↔ Together w v)
