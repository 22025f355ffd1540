-- The outcomes counted so far, and one more.
use Rattle.std.specs.Prelude.{◌≡◌, ℕ, ◌+◌, ◌<◌, Bool, true, false, not, cond, List, [], ◌∷◌, ◌++◌, length, Some, None, Ok, count_by}
use Rattle.std.specs.declared.option.Option.{Option}
use Rattle.std.specs.declared.result.Result.{Result}
use Rattle.std.specs.List.{FoldsTo}
use Rattle.std.proofs.Common.{refl, arith, lt-ltb}
use Rattle.std.proofs.lemmas.Fn.{FoldsTo-push}
use Rattle.std.proofs.lemmas.List.{length_push}
use Rattle.std.proofs.lemmas.List.Sums.{sum_by_push, count_by-le-length}
use Rattle.replay.specs.declared.Tally.{Tally}
use Rattle.replay.specs.Tally.{one_more, counted}
use Rattle.replay.specs.Outcomes.{CountsOutcomes, most_cases}

pub record CountsSoFar {N E : Type 0} (step : N → Result (Option Bool) E → N → Type 0) (next : N) (count : ℕ) (last : N) (tally : Tally) : Type 0 where
  pub outcomes : List Bool
  pub given : FoldsTo (λ from is_right to. step from (Ok (Some is_right)) to) next outcomes last
  pub many : length outcomes ≡ count
  pub right : tally.right ≡ count_by (λ is_right. is_right) outcomes
  pub wrong : tally.wrong ≡ count_by not outcomes

-- no count is so large that one more would not fit
one_more_counts : (p : Bool → Bool) (outcomes : List Bool) (outcome : Bool) (counts : ℕ) → length outcomes < most_cases → counts ≡ count_by p outcomes → p outcome ≡ true → one_more counts ≡ count_by p (outcomes ++ outcome ∷ [])
one_more_counts p outcomes outcome counts few is passes =
    rw (lt-ltb counts 0xffff_ffff_ffff_ffff (omega (arith, is, few, count_by-le-length p outcomes)), sum_by_push (λ x. cond (p x) 1 0) outcomes outcome, passes) (omega (arith, is))

same_counts : (p : Bool → Bool) (outcomes : List Bool) (outcome : Bool) (counts : ℕ) → counts ≡ count_by p outcomes → p outcome ≡ false → counts ≡ count_by p (outcomes ++ outcome ∷ [])
same_counts p outcomes outcome counts is fails = rw (sum_by_push (λ x. cond (p x) 1 0) outcomes outcome, fails) (omega (arith, is))

module _ {N E : Type 0} (step : N → Result (Option Bool) E → N → Type 0) (next : N) where
  pub counts_none : CountsSoFar step next 0 next (record { right = 0; wrong = 0 })
  counts_none = record { outcomes = []; given = refl; many = refl; right = refl; wrong = refl }

  pub counts_more : (count : ℕ) (last after : N) (tally : Tally) (outcome : Bool) → count < most_cases → CountsSoFar step next count last tally → step last (Ok (Some outcome)) after
      → CountsSoFar step next (count + 1) after (counted tally outcome)
  counts_more count last after tally true few h s = record {
    outcomes = h.outcomes ++ true ∷ [];
    given = FoldsTo-push _ next h.outcomes last true after h.given s;
    many = omega (arith, h.many, length_push h.outcomes true);
    right = one_more_counts (λ is_right. is_right) h.outcomes true tally.right (omega (arith, h.many, few)) h.right refl;
    wrong = same_counts not h.outcomes true tally.wrong h.wrong refl;
  }
  counts_more count last after tally false few h s = record {
    outcomes = h.outcomes ++ false ∷ [];
    given = FoldsTo-push _ next h.outcomes last false after h.given s;
    many = omega (arith, h.many, length_push h.outcomes false);
    right = same_counts (λ is_right. is_right) h.outcomes false tally.right h.right refl;
    wrong = one_more_counts not h.outcomes false tally.wrong (omega (arith, h.many, few)) h.wrong refl;
  }

  pub counts_all : (count : ℕ) (last : N) (tally : Tally) → CountsSoFar step next count last tally → (count < most_cases → (after : N) × step last (Ok None) after) → CountsOutcomes step next tally
  counts_all count last tally h stops = record {
    outcomes = h.outcomes;
    last = last;
    given = h.given;
    ended = λ few. stops (omega (arith, h.many, few));
    right = h.right;
    wrong = h.wrong;
  }
