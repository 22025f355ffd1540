-- Worked values of the basis function, each computed by the formula and by the recursion; the last two in binary64, by the formula alone.
use Rattle.std.specs.Prelude.{List, [], ◌∷◌, ◌≡◌, refl, ℕ, suc, ℤ, pos, negsuc, get_or}
use Rattle.std.proofs.Common.{zero-lt-suc}
use Rattle.std.specs.Float.Ieee as Ieee
use Rattle.std.specs.Float.{binary64}
use Rattle.std.specs.Float.Ieee.{of_bits}
use Rattle.basis.specs.Binary64.{binary64_arithmetic, knots}
use Rattle.basis.specs.Formula.{formula, sum_of_terms}
use Rattle.basis_recursion.specs.Fraction.{Fraction, ◌≈◌, whole, plus, minus, times, turned, over, fraction_arithmetic}
use Rattle.basis_recursion.specs.Recursion.{basis, recursion}

-- n / (d + 1).
abbrev pub fraction : ℤ → ℕ → Fraction
fraction n d = record { numerator = n; denominator = suc d; positive = zero-lt-suc d }

-- Whole numbers as knots.
abbrev pub wholes : List ℤ → ℕ → Fraction
wholes list i = whole (get_or list i (pos 0))

-- The formula and the recursion both give the value at u.
abbrev pub Both : Fraction → List ℤ → Fraction → Type 0
Both u list value = (formula fraction_arithmetic u (wholes list) ≈ value) × (recursion fraction_arithmetic u (wholes list) ≈ value)

-- Knots 0, 1, 2, 3, 4 at 2: 2/3.
pub middle : Both (fraction (pos 2) 0) (pos 0 ∷ pos 1 ∷ pos 2 ∷ pos 3 ∷ pos 4 ∷ []) (fraction (pos 2) 2)
unfolding formula sum_of_terms basis plus minus times over turned
middle = (refl, refl)

-- Knots 0, 1, 2, 3, 4 at 1/2: 1/48.
pub first_segment_lem : Both (fraction (pos 1) 1) (pos 0 ∷ pos 1 ∷ pos 2 ∷ pos 3 ∷ pos 4 ∷ []) (fraction (pos 1) 47)
unfolding formula sum_of_terms basis plus minus times over turned
first_segment_lem = (refl, refl)

-- Knots 0, 0, 0, 1, 2 at 1/2: 19/32.
pub threefold : Both (fraction (pos 1) 1) (pos 0 ∷ pos 0 ∷ pos 0 ∷ pos 1 ∷ pos 2 ∷ []) (fraction (pos 19) 31)
unfolding formula sum_of_terms basis plus minus times over turned
threefold = (refl, refl)

-- Knots -2, -2, -1, -1, 0 at -3/2: 7/16.
pub negative : Both (fraction (negsuc 2) 1) (negsuc 1 ∷ negsuc 1 ∷ negsuc 0 ∷ negsuc 0 ∷ pos 0 ∷ []) (fraction (pos 7) 15)
unfolding formula sum_of_terms basis plus minus times over turned
negative = (refl, refl)

-- Knots 1, 1, 1, 1, 1 at 1: 0, since 1 ≤ u < 1 holds of no u.
pub fivefold : Both (fraction (pos 1) 0) (pos 1 ∷ pos 1 ∷ pos 1 ∷ pos 1 ∷ pos 1 ∷ []) (fraction (pos 0) 0)
unfolding formula sum_of_terms basis plus minus times over turned
fivefold = (refl, refl)

-- Knots -1, -1, 0, 1, 2 at 1/2: 15/32.
pub plate : Both (fraction (pos 1) 1) (negsuc 0 ∷ negsuc 0 ∷ pos 0 ∷ pos 1 ∷ pos 2 ∷ []) (fraction (pos 15) 31)
unfolding formula sum_of_terms basis plus minus times over turned
plate = (refl, refl)

-- The same in binary64: knots -1.0, -1.0, 0.0, 1.0, 2.0 at 0.5 give 0.46875.
pub plate_binary64 : formula binary64_arithmetic (of_bits binary64 0x3fe0_0000_0000_0000)
    (knots (of_bits binary64 0xbff0_0000_0000_0000 ∷ of_bits binary64 0xbff0_0000_0000_0000 ∷ of_bits binary64 0 ∷ of_bits binary64 0x3ff0_0000_0000_0000 ∷ of_bits binary64 0x4000_0000_0000_0000 ∷ []))
    ≡ of_bits binary64 0x3fde_0000_0000_0000
unfolding formula sum_of_terms of_bits Ieee.of_fields Ieee.add Ieee.sub Ieee.mul Ieee.div Ieee.lt Ieee.le Ieee.neg Ieee.sum Ieee.round Ieee.units Ieee.odd Ieee.size Ieee.span Ieee.climb
plate_binary64 = refl

-- Knots 0.0, 0.0, 1.0, -1.0, 1.0 at 0.0 give 0.0: the second segment's three terms are -0.0, and they are added to 0.0.
pub negative_zeros : formula binary64_arithmetic (of_bits binary64 0)
    (knots (of_bits binary64 0 ∷ of_bits binary64 0 ∷ of_bits binary64 0x3ff0_0000_0000_0000 ∷ of_bits binary64 0xbff0_0000_0000_0000 ∷ of_bits binary64 0x3ff0_0000_0000_0000 ∷ []))
    ≡ of_bits binary64 0
unfolding formula sum_of_terms of_bits Ieee.of_fields Ieee.add Ieee.sub Ieee.mul Ieee.div Ieee.lt Ieee.le Ieee.neg Ieee.sum Ieee.round Ieee.units Ieee.odd Ieee.size Ieee.span Ieee.climb
negative_zeros = refl
