-- A map that keeps an arithmetic's numbers, operations and tests keeps the values of the formula and of the recursion: they are made of these alone.
use mathlib.Core.Path.{◌≡◌, refl, ◌∙◌}
use mathlib.Core.Bool.{Bool, true, false, cond}
use Prim.Native.Nat.{ℕ, zero, suc, ◌+◌}
use Rattle.basis.specs.Formula.{Arithmetic, formula, sum_of_terms}
use Rattle.basis_recursion.specs.Recursion.{blend, basis}

-- A map that keeps them.
pub record Homomorphism {F G : Type 0} (from : Arithmetic F) (to : Arithmetic G) (map : F → G) : Type 0 where
  pub zero : map from.zero ≡ to.zero
  pub one : map from.one ≡ to.one
  pub add : (x y : F) → map (from.add x y) ≡ to.add (map x) (map y)
  pub sub : (x y : F) → map (from.sub x y) ≡ to.sub (map x) (map y)
  pub mul : (x y : F) → map (from.mul x y) ≡ to.mul (map x) (map y)
  pub div : (x y : F) → map (from.div x y) ≡ to.div (map x) (map y)
  pub lt : (x y : F) → from.lt x y ≡ to.lt (map x) (map y)
  pub le : (x y : F) → from.le x y ≡ to.le (map x) (map y)
  pub eq : (x y : F) → from.eq x y ≡ to.eq (map x) (map y)

module _ {F G : Type 0} {from : Arithmetic F} {to : Arithmetic G} (map : F → G) (kept : Homomorphism from to map) where
  map_cond : (b : Bool) (x y : F) → map (cond b x y) ≡ cond b (map x) (map y)
  map_cond true x y = refl
  map_cond false x y = refl

  map_blend : (n d v : F) → map (blend from n d v) ≡ blend to (map n) (map d) (map v)
  unfolding blend
  map_blend n d v = simp (map_cond, kept.zero, kept.mul, kept.div, kept.eq)

  pub map_basis : (u : F) (a : ℕ → F) (order i : ℕ) → map (basis from u a order i) ≡ basis to (map u) (λ j. map (a j)) order i
  unfolding basis
  map_basis u a zero i = simp (map_cond, kept.zero, kept.one, kept.lt, kept.le)
  map_basis u a (suc order) i = kept.add _ _ ∙ simp (map_blend, kept.sub, map_basis u a order i, map_basis u a order (i + 1))

  pub map_formula : (u : F) (a : ℕ → F) → map (formula from u a) ≡ formula to (map u) (λ j. map (a j))
  unfolding formula sum_of_terms
  map_formula u a = simp (map_cond, kept.zero, kept.one, kept.add, kept.sub, kept.mul, kept.div, kept.lt, kept.le)
