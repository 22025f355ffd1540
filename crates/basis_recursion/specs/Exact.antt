-- What the basis formula is, read as exact arithmetic: two statements about five whole numbers that never fall, taken as knots, and any
-- fraction u.
--
-- First: the formula's value at u and the value that the recursion of Cox and de Boor gives at u are the same number.
--
-- Second: in computing the formula's value no quotient by zero is met. (Fractions give such a quotient a value, so the first statement
-- would hold on the strength of that convention if one were met.) It is said in an arithmetic in which a quotient by zero is undefined and
-- everything that is computed from something undefined is undefined too: the formula's value there is defined, and is the same fraction.
use Rattle.std.specs.Prelude.{false, cond, ◌≡◌, ℕ, ℤ, ◌≤ℤ◌}
use Rattle.std.proofs.Math.Option.{Option, some, none}
use Rattle.basis.specs.Formula.{Arithmetic, formula}
use Rattle.basis_recursion.specs.Fraction.{Fraction, fraction_arithmetic, whole, ◌≈◌}
use Rattle.basis_recursion.specs.Recursion.{recursion}

-- The five whole numbers k 0 to k 4 never fall.
pub record NeverFall (k : ℕ → ℤ) : Type 0 where
  pub first : k 0 ≤ℤ k 1
  pub second : k 1 ≤ℤ k 2
  pub third : k 2 ≤ℤ k 3
  pub fourth : k 3 ≤ℤ k 4

-- For whole numbers k 0 ≤ k 1 ≤ k 2 ≤ k 3 ≤ k 4 and every fraction u, formula and recursion are the same number at u.
abbrev pub FormulaIsRecursion : Type 0
FormulaIsRecursion = (u : Fraction) (k : ℕ → ℤ) → NeverFall k
    → formula fraction_arithmetic u (λ i. whole (k i)) ≈ recursion fraction_arithmetic u (λ i. whole (k i))

-- What f makes of two values, both defined; `undefined` where one is not.
abbrev pub of_defined : {A B : Type 0} → B → (A → A → B) → Option A → Option A → B
of_defined undefined f none y = undefined
of_defined undefined f (some x) none = undefined
of_defined undefined f (some x) (some y) = f x y

-- An arithmetic made strict: a quotient by zero is undefined (`none`), so is every result of something undefined, and a test of it is false.
abbrev pub strict : {F : Type 0} → Arithmetic F → Arithmetic (Option F)
strict arithmetic = record {
  zero = some arithmetic.zero;
  one = some arithmetic.one;
  add = of_defined none (λ x y. some (arithmetic.add x y));
  sub = of_defined none (λ x y. some (arithmetic.sub x y));
  mul = of_defined none (λ x y. some (arithmetic.mul x y));
  div = of_defined none (λ x y. cond (arithmetic.eq y arithmetic.zero) none (some (arithmetic.div x y)));
  lt = of_defined false arithmetic.lt;
  le = of_defined false arithmetic.le;
  eq = of_defined false arithmetic.eq;
}

-- For whole numbers k 0 ≤ k 1 ≤ k 2 ≤ k 3 ≤ k 4 and every fraction u, the formula's value in strict arithmetic is defined, and is its value.
abbrev pub NoQuotientByZero : Type 0
NoQuotientByZero = (u : Fraction) (k : ℕ → ℤ) → NeverFall k
    → formula (strict fraction_arithmetic) (some u) (λ i. some (whole (k i))) ≡ some (formula fraction_arithmetic u (λ i. whole (k i)))
