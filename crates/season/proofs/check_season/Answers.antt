-- `check_season` meets its contract: the tests are made in the order of the definition, and a right length keeps the count small.
use Prim.Native.Nat.{ℕ}
use mathlib.Core.Path.{◌≡◌, sym, ◌∙◌}
use mathlib.Core.List.{List}
use native.Mathlib.Omega.{arith}
use borrow.Author.Tests.{eq-eqb, ne_eqb}
use Rattle.control_point.proofs.ToldLaws.{beside}
use Rattle.counted_file.specs.Counted.{file_told}
use Rattle.counted_file.proofs.CountedLaws.{length_tells}
use Rattle.season.specs.Season.{windows_at, window_bytes, most_windows, the_version, checked_season, season_table}
use Rattle.season.proofs.SeasonLaws.{check_told}
use Rattle.season.proofs.check_season.Goals as goal
use Rattle.std.specs.Prelude.{Result}
use Rattle.control_point.specs.declared.refusal.Refusal.{Refusal}

-- what it tells follows from what it is
told : (season : List ℕ) (r : Result ℕ Refusal) → r ≡ checked_season season → (r ≡ checked_season season) × (file_told r ≡ season_table season)
told season = beside file_told (checked_season season) (season_table season) (check_told season)

pub returns-then-not-counted_right : goal.returns-then-not-counted_right
unfolding checked_season
returns-then-not-counted_right c =
    let all = (told _ _ (rw (sym c.counted_right.ensures ∙ c.if-not-counted_right.true))) in record { is = all.0; told = all.1 }

pub overflow_sub-count : goal.overflow_sub-count
overflow_sub-count c = omega (arith, (length_tells windows_at window_bytes most_windows _ (sym c.counted_right.ensures ∙ c.if-not-counted_right.false)).headed)

pub days_wrong-requires : goal.days_wrong-requires
days_wrong-requires c = (length_tells windows_at window_bytes most_windows _ ((sym c.counted_right.ensures ∙ c.if-not-counted_right.false))).few

pub returns-then-days_wrong : goal.returns-then-days_wrong
unfolding checked_season
returns-then-days_wrong c =
    let all = (told _ _ (rw ((sym c.counted_right.ensures ∙ c.if-not-counted_right.false), sym c.days_wrong.ensures ∙ c.if-days_wrong.true))) in record { is = all.0; told = all.1 }

pub returns-then-byte_at-ne-THE_VERSION : goal.returns-then-byte_at-ne-THE_VERSION
unfolding checked_season
returns-then-byte_at-ne-THE_VERSION c =
    let all = (told _ _ (rw ((sym c.counted_right.ensures ∙ c.if-not-counted_right.false), (sym c.days_wrong.ensures ∙ c.if-days_wrong.false), ne_eqb _ the_version (λ same. c.if-byte_at-ne-THE_VERSION.true (c.byte_at.ensures ∙ same))))) in record { is = all.0; told = all.1 }

pub clashes-requires : goal.clashes-requires
clashes-requires c = (length_tells windows_at window_bytes most_windows _ ((sym c.counted_right.ensures ∙ c.if-not-counted_right.false))).few

pub returns-then-clashes : goal.returns-then-clashes
unfolding checked_season
returns-then-clashes c =
    let all = (told _ _ (rw ((sym c.counted_right.ensures ∙ c.if-not-counted_right.false), (sym c.days_wrong.ensures ∙ c.if-days_wrong.false), (eq-eqb _ the_version (sym c.byte_at.ensures ∙ c.if-byte_at-ne-THE_VERSION.false)), sym c.clashes.ensures ∙ c.if-clashes.true))) in record { is = all.0; told = all.1 }

pub returns : goal.returns
unfolding checked_season
returns c =
    let all = (told _ _ (rw ((sym c.counted_right.ensures ∙ c.if-not-counted_right.false), (sym c.days_wrong.ensures ∙ c.if-days_wrong.false), (eq-eqb _ the_version (sym c.byte_at.ensures ∙ c.if-byte_at-ne-THE_VERSION.false)), sym c.clashes.ensures ∙ c.if-clashes.false))) in record { is = all.0; told = all.1 }
