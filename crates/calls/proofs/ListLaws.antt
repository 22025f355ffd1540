-- Laws of lists: what holds of each element of a list holds after a change of the list.
use Rattle.std.specs.Prelude.{ℕ, zero, suc, List, [], ◌∷◌, get_or, set, replicate}

module _ {A : Type 0} (P : A → Type 0) where
  -- an element of a list with another one stored, which has the property
  pub set_case : (l : List A) (n m : ℕ) (x d : A) → P x → P (get_or l m d) → P (get_or (set l n x) m d)
  set_case [] n m x d h k = k
  set_case (y ∷ l) zero zero x d h k = h
  set_case (y ∷ l) zero (suc m) x d h k = k
  set_case (y ∷ l) (suc n) zero x d h k = k
  set_case (y ∷ l) (suc n) (suc m) x d h k = set_case l n m x d h k

  -- an element of a list of so many equal ones
  pub replicate_case : (n m : ℕ) (x d : A) → P x → P d → P (get_or (replicate n x) m d)
  replicate_case zero m x d h k = k
  replicate_case (suc n) zero x d h k = h
  replicate_case (suc n) (suc m) x d h k = replicate_case n m x d h k
