-- Where u lies among five knots that never fall: once it lies below a knot, it lies below all the later ones.
use mathlib.Core.Path.{◌≡◌, refl, sym}
use mathlib.Core.Bool.{Bool, true, false, true≢false}
use Prim.Native.Nat.{ℕ}
use Rattle.basis.specs.Formula.{Arithmetic}
use Rattle.basis_recursion.proofs.Field.{Order}

-- The outcomes of the five tests u < a i, by the place of u.
pub data Place : Bool → Bool → Bool → Bool → Bool → Type 0 where
  before_all : Place true true true true true
  first_gap : Place false true true true true
  second_gap : Place false false true true true
  third_gap : Place false false false true true
  fourth_gap : Place false false false false true
  after_all : Place false false false false false

-- Tests of which each implies the next have such an outcome.
placed : (b c d e f : Bool) → (b ≡ true → c ≡ true) → (c ≡ true → d ≡ true) → (d ≡ true → e ≡ true) → (e ≡ true → f ≡ true) → Place b c d e f
placed true true true true true bc cd de ef = before_all
placed false true true true true bc cd de ef = first_gap
placed false false true true true bc cd de ef = second_gap
placed false false false true true bc cd de ef = third_gap
placed false false false false true bc cd de ef = fourth_gap
placed false false false false false bc cd de ef = after_all
placed true false d e f bc cd de ef = absurd (true≢false (sym (bc refl)))
placed true true false e f bc cd de ef = absurd (true≢false (sym (cd refl)))
placed true true true false f bc cd de ef = absurd (true≢false (sym (de refl)))
placed true true true true false bc cd de ef = absurd (true≢false (sym (ef refl)))
placed false true false e f bc cd de ef = absurd (true≢false (sym (cd refl)))
placed false true true false f bc cd de ef = absurd (true≢false (sym (de refl)))
placed false true true true false bc cd de ef = absurd (true≢false (sym (ef refl)))
placed false false true false f bc cd de ef = absurd (true≢false (sym (de refl)))
placed false false true true false bc cd de ef = absurd (true≢false (sym (ef refl)))
placed false false false true false bc cd de ef = absurd (true≢false (sym (ef refl)))

-- Knots that never fall, in any arithmetic.
pub record Ascending {F : Type 0} (arithmetic : Arithmetic F) (a : ℕ → F) : Type 0 where
  pub first : arithmetic.le (a 0) (a 1) ≡ true
  pub second : arithmetic.le (a 1) (a 2) ≡ true
  pub third : arithmetic.le (a 2) (a 3) ≡ true
  pub fourth : arithmetic.le (a 3) (a 4) ≡ true

pub place : {F : Type 0} (arithmetic : Arithmetic F) → Order arithmetic → (u : F) (a : ℕ → F) → Ascending arithmetic a
    → Place (arithmetic.lt u (a 0)) (arithmetic.lt u (a 1)) (arithmetic.lt u (a 2)) (arithmetic.lt u (a 3)) (arithmetic.lt u (a 4))
place arithmetic order u a k = placed _ _ _ _ _
    (λ h. order.lt_le u (a 0) (a 1) h k.first) (λ h. order.lt_le u (a 1) (a 2) h k.second)
    (λ h. order.lt_le u (a 2) (a 3) h k.third) (λ h. order.lt_le u (a 3) (a 4) h k.fourth)
