-- Laws of lists that are the values of a function: their length, their elements, that a list with these is that list; and an array stored as such a list, one
-- element after another.
use Rattle.std.specs.Prelude.{ℕ, zero, suc, ◌<◌, ◌+◌, ◌≡◌, refl, Bool, true, false, List, eqb, length, get_or, set}
use Rattle.std.proofs.Common.{sym, ap, ◌∙◌, arith, eqb-true, length-set, get_or-set_same, get_or-set_other, ext_get_or}
use Rattle.std.proofs.lemmas.Bool.{eqb-false}
use Rattle.values.specs.Values.{values_from}

pub values_length : {A : Type 0} (f : ℕ → A) (left n : ℕ) → length (values_from f left n) ≡ left
unfolding values_from
values_length f zero n = refl
values_length f (suc left) n = ap suc (values_length f left (n + 1))

pub values_at : {A : Type 0} (f : ℕ → A) (d : A) (left n m : ℕ) → m < left → get_or (values_from f left n) m d ≡ f (n + m)
unfolding values_from
values_at f d zero n m h = absurd (omega (arith, h))
values_at f d (suc left) n zero h = ap f (omega arith)
values_at f d (suc left) n (suc m) h = values_at f d left (n + 1) m (omega (arith, h)) ∙ ap f (omega arith)

-- those from 0 on
pub values_first : {A : Type 0} (f : ℕ → A) (d : A) (left m : ℕ) → m < left → get_or (values_from f left 0) m d ≡ f m
values_first f d left m h = values_at f d left 0 m h ∙ ap f (omega arith)

-- a list that has them is that list
pub values_are : {A : Type 0} (f : ℕ → A) (d : A) (count : ℕ) (list : List A) → length list ≡ count → ((n : ℕ) → n < count → get_or list n d ≡ f n) → list ≡ values_from f count 0
values_are f d count list room same =
    ext_get_or d list (values_from f count 0) (room ∙ sym (values_length f count 0))
    (λ n h. same n (omega (arith, h, room)) ∙ sym (values_first f d count n (omega (arith, h, room))))

-- functions that agree on them have the same list
pub values_same : {A : Type 0} (f g : ℕ → A) (d : A) (count : ℕ) → ((n : ℕ) → n < count → f n ≡ g n) → values_from f count 0 ≡ values_from g count 0
values_same f g d count same = values_are g d count (values_from f count 0) (values_length f count 0) (λ n h. values_first f d count n h ∙ same n h)

-- ---- an array of a length, stored one element after another
pub record StoredTo {A : Type 0} (f : ℕ → A) (d : A) (room count : ℕ) (array : List A) : Type 0 where
  pub full : length array ≡ room
  pub stored : (n : ℕ) → n < count → get_or array n d ≡ f n

module _ {A : Type 0} (f : ℕ → A) (d : A) (room : ℕ) where
  pub stored_none : (array : List A) → length array ≡ room → StoredTo f d room 0 array
  stored_none array full = record { full = full; stored = λ n h. absurd (omega (arith, h)) }

  pub stored_more : (count : ℕ) (array after : List A) → count < room → after ≡ set array count (f count) → StoredTo f d room count array → StoredTo f d room (count + 1) after
  stored_more count array after h e so_far =
      rw e (record { full = length-set array count _ ∙ so_far.full; stored = λ n l. by_test n (eqb n count) refl l })
    where
      by_test : (n : ℕ) (b : Bool) → eqb n count ≡ b → n < count + 1 → get_or (set array count (f count)) n d ≡ f n
      by_test n true x l =
          ap (λ (m : ℕ). get_or (set array count (f count)) m d) (eqb-true n count x)
          ∙ get_or-set_same array count (f count) d (omega (arith, h, so_far.full))
          ∙ ap f (sym (eqb-true n count x))
      by_test n false x l = get_or-set_other array count n (f count) d (eqb-false n count x) ∙ so_far.stored n (omega (arith, l, eqb-false n count x))

  pub stored_all : (count : ℕ) (array : List A) → count ≡ room → StoredTo f d room count array → array ≡ values_from f room 0
  stored_all count array e so_far = values_are f d room array so_far.full (λ n h. so_far.stored n (omega (arith, h, e)))
