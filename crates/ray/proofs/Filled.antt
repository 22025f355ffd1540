-- A list that is filled from the front with one value.
use Prim.Native.Nat.{ℕ, ◌+◌, ◌<◌}
use mathlib.Core.Path.{◌≡◌, ◌∙◌, sym, ap}
use mathlib.Core.List.{List, [], ◌∷◌, ◌++◌}
use native.Mathlib.Numerals.{add-one}
use native.Mathlib.Omega.{arith}
use lib.ListN.{length, take, set, replicate, replicate-append-replicate}
use lib.Seq.{take-suc-set, take_all}

module _ {A : Type 0} (z : A) where
  pub filled_more : (l : List A) (i : ℕ) → i < length l → take i l ≡ replicate i z → take (i + 1) (set l i z) ≡ replicate (i + 1) z
  filled_more l i h e =
      ap (λ (n : ℕ). take n (set l i z)) (add-one i)
      ∙ take-suc-set l i z h
      ∙ ap (λ (t : List A). t ++ (z ∷ [])) e
      ∙ replicate-append-replicate i 1 z

  pub filled_all : (l : List A) (i n : ℕ) → length l ≡ n → i ≡ n → take i l ≡ replicate i z → l ≡ replicate n z
  filled_all l i n h k e = sym (take_all i l (omega arith)) ∙ e ∙ ap (λ (m : ℕ). replicate m z) k
