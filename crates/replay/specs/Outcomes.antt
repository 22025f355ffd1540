-- The outcomes of all stored cases, counted.
use Rattle.std.specs.Prelude.{◌≡◌, ℕ, ◌<◌, Bool, not, List, length, Some, None, Ok, count_by}
use Rattle.std.specs.declared.option.Option.{Option}
use Rattle.std.specs.declared.result.Result.{Result}
use Rattle.std.specs.List.{FoldsTo}
use Rattle.replay.specs.declared.Tally.{Tally}

-- how many cases are replayed at most
abbrev pub most_cases : ℕ
most_cases = 1000000

-- A tally counts the outcomes that the calls of a closure gave one after the other, up to the first call that gave none.
pub record CountsOutcomes {N E : Type 0} (step : N → Result (Option Bool) E → N → Type 0) (next : N) (tally : Tally) : Type 0 where
  pub outcomes : List Bool
  pub last : N
  pub given : FoldsTo (λ from is_right to. step from (Ok (Some is_right)) to) next outcomes last
  pub ended : length outcomes < most_cases → (after : N) × step last (Ok None) after
  pub right : tally.right ≡ count_by (λ is_right. is_right) outcomes
  pub wrong : tally.wrong ≡ count_by not outcomes
