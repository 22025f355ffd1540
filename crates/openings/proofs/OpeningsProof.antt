-- The theorems on the list of openings hold: all sides stand in the order of their places, each once, and choosing the openings among them keeps both.
use Prim.Native.Nat.{ℕ, zero, suc, ◌+◌, ◌<◌, ◌≤◌}
use Rattle.std.specs.Prelude.{◌≡◌, Bool, ◌&&◌, ltb, eqb, length}
use Rattle.std.proofs.Math.Path.{refl, ap}
use Rattle.std.proofs.Common.{sym, ◌∙◌, subst, true≢false, inl, inr, add-one, arith, ltb-true, ltb-false, lt-ltb, le-ltb, eqb-true, eq-eqb, lit≤}
use Rattle.std.proofs.Math.Bool.{true, false, cond}
use Rattle.std.proofs.lemmas.Bool.{false≢true, eqb-false}
use mathlib.Core.List.{List, [], ◌∷◌, ◌++◌}
use Rattle.control_point.specs.Direction.{direction_number, same_direction}
use Rattle.control_point.proofs.DirectionLaws.{number_small, same_self}
use Rattle.control_point.specs.Point.{is_made, is_opening}
use Rattle.control_point.proofs.PointLaws.{is_made_room}
use Rattle.control_point.specs.declared.t_mesh_direction.TmeshDirection.{TmeshDirection}
use Rattle.store.specs.Store.{store_sides}
use Rattle.store.specs.declared.store.Store.{Store}
use Rattle.openings.specs.Openings.{PointSide, sides_below, is_open, open_among, openings_of}
use Rattle.openings.proofs.OpeningsLaws.{below_few, below_all}
use Rattle.openings.proofs.PlaceLaws.{place_of, standing, place_back, standing_back, places_below, places_are_sides}
use Rattle.openings.specs.Theorems.{same_side, occurrences, Before, BeforeEach, InOrder, OpeningsListed, OpeningsInOrder, OneList, FewOpenings, SameOpenings}

pub few_openings : FewOpenings
few_openings store = omega (arith, below_few store 512, ap length (below_all store))

-- ---- equal sides of made points, equal lists
module _
    (store other : Store)
    (made : store.made ≡ other.made)
    (sides : (n : ℕ) (d : TmeshDirection) → is_made store.made n ≡ true → store_sides store n d ≡ store_sides other n d) where
  same_by : (n : ℕ) (d : TmeshDirection) (b : Bool) → is_made store.made n ≡ b
      → (b && is_opening (store_sides store n d)) ≡ (b && is_opening (store_sides other n d))
  same_by n d true is = ap is_opening (sides n d is)
  same_by n d false is = refl

  same_open : (side : PointSide) → is_open store side ≡ is_open other side
  same_open side =
      same_by side.point side.direction (is_made store.made side.point) refl
      ∙ ap (λ (count : ℕ). is_made count side.point && is_opening (store_sides other side.point side.direction)) made

  same_among : (list : List PointSide) → open_among store list ≡ open_among other list
  unfolding open_among
  same_among [] = refl
  same_among (side ∷ rest) =
      ap (λ (b : Bool). cond b (side ∷ open_among store rest) (open_among store rest)) (same_open side)
      ∙ ap (λ (chosen : List PointSide). cond (is_open other side) (side ∷ chosen) chosen) (same_among rest)

pub same_openings : SameOpenings
same_openings store other made sides = same_among store other made sides (sides_below 128)

-- ---- in order
-- the places of a list's sides rise, from one bound on and below another
abbrev Rising : ℕ → ℕ → List PointSide → Type 0
Rising low high [] = low ≤ high
Rising low high (side ∷ rest) = (low ≤ place_of side) × Rising (place_of side + 1) high rest

rising_from : (low from high : ℕ) (list : List PointSide) → low ≤ from → Rising from high list → Rising low high list
rising_from low from high [] h r = omega (arith, h, r)
rising_from low from high (side ∷ rest) h r = (omega (arith, h, r.0), r.1)

rising_append : (low middle high : ℕ) (first then : List PointSide) → Rising low middle first → Rising middle high then → Rising low high (first ++ then)
rising_append low middle high [] then r t = rising_from low middle high then r t
rising_append low middle high (side ∷ rest) then r t = (r.0, rising_append (place_of side + 1) middle high rest then r.1 t)

rising_places : (i : ℕ) → Rising 0 i (places_below i)
unfolding places_below
rising_places zero = lit≤ tt
rising_places (suc i) =
    rising_append 0 i (suc i) (places_below i) (standing i ∷ []) (rising_places i)
    (omega (arith, place_back i), omega (arith, place_back i, add-one i))

rising_open : (store : Store) (low high : ℕ) (list : List PointSide) → Rising low high list → Rising low high (open_among store list)
unfolding open_among
rising_open store low high [] r = r
rising_open store low high (side ∷ rest) r = by_test (is_open store side) (rising_open store (place_of side + 1) high rest r.1)
  where
    by_test : (b : Bool) → Rising (place_of side + 1) high (open_among store rest)
        → Rising low high (cond b (side ∷ open_among store rest) (open_among store rest))
    by_test true chosen = (r.0, chosen)
    by_test false chosen = rising_from low (place_of side + 1) high (open_among store rest) (omega (arith, r.0)) chosen

-- the side with the lower place comes before the other, and the other way round
before_higher : (side other : PointSide) → place_of side < place_of other → Before side other
before_higher side other lower = by_test (ltb side.point other.point) refl
  where
    by_test : (b : Bool) → ltb side.point other.point ≡ b → Before side other
    by_test true h = inl (ltb-true side.point other.point h)
    by_test false h =
        let same : side.point ≡ other.point = omega (arith, lower, ltb-false side.point other.point h, number_small side.direction, number_small other.direction) in
        inr (same, omega (arith, lower, same))

higher_behind : (side other : PointSide) → Before side other → place_of side < place_of other
higher_behind side other (inl lower) = omega (arith, lower, number_small side.direction)
higher_behind side other (inr (same, lower)) = omega (arith, same, lower)

before_rising : (side : PointSide) (low high : ℕ) (list : List PointSide) → place_of side < low → Rising low high list → BeforeEach side list
before_rising side low high [] h r = tt
before_rising side low high (other ∷ rest) h r =
    (before_higher side other (omega (arith, h, r.0)), before_rising side (place_of other + 1) high rest (omega (arith, h, r.0)) r.1)

rising_in_order : (low high : ℕ) (list : List PointSide) → Rising low high list → InOrder list
rising_in_order low high [] r = tt
rising_in_order low high (side ∷ rest) r =
    (before_rising side (place_of side + 1) high rest (omega arith) r.1, rising_in_order (place_of side + 1) high rest r.1)

pub openings_in_order : OpeningsInOrder
openings_in_order store =
    rising_in_order 0 512 (openings_of store)
    (rising_open store 0 512 (sides_below 128) (subst (Rising 0 512) (places_are_sides 128) (rising_places 512)))

-- ---- the same side, and another
same_place : (side other : PointSide) → same_side side other ≡ true → place_of side ≡ place_of other
same_place side other = by_tests (eqb side.point other.point) (same_direction side.direction other.direction) refl refl
  where
    by_tests : (a b : Bool) → eqb side.point other.point ≡ a → same_direction side.direction other.direction ≡ b
        → (a && b) ≡ true → place_of side ≡ place_of other
    by_tests true true p q h =
        omega (arith, eqb-true side.point other.point p, eqb-true (direction_number side.direction) (direction_number other.direction) q)
    by_tests true false p q h = absurd (false≢true h)
    by_tests false b p q h = absurd (false≢true h)

one_place : (side other : PointSide) → place_of side ≡ place_of other → side ≡ other
one_place side other e = sym (standing_back side) ∙ ap standing e ∙ standing_back other

same_itself : (side : PointSide) → same_side side side ≡ true
same_itself side = rw (eq-eqb side.point side.point refl) (same_self side.direction)

another : (side other : PointSide) → (side ≡ other → ⊥) → same_side side other ≡ false
another side other differ = by_test (same_side side other) refl
  where
    by_test : (b : Bool) → same_side side other ≡ b → b ≡ false
    by_test true h = absurd (differ (one_place side other (same_place side other h)))
    by_test false h = refl

another_place : (side other : PointSide) → (place_of side ≡ place_of other → ⊥) → same_side side other ≡ false
another_place side other differ = another side other (λ (e : side ≡ other). differ (ap place_of e))

-- ---- each once
pub occurrences_append : (side : PointSide) (list rest : List PointSide) → occurrences side (list ++ rest) ≡ occurrences side list + occurrences side rest
unfolding occurrences
occurrences_append side [] rest = omega arith
occurrences_append side (entry ∷ list) rest = omega (arith, occurrences_append side list rest)

module _ (side : PointSide) where
  -- one place more
  place_more : (i : ℕ) (b : Bool) → eqb (place_of side) i ≡ b
      → cond {A = ℕ} (ltb (place_of side) i) 1 0 + cond (same_side side (standing i)) 1 0 ≡ cond (ltb (place_of side) (suc i)) 1 0
  place_more i true h =
      let here : place_of side ≡ i = eqb-true (place_of side) i h in
      let same : same_side side (standing i) ≡ true = sym (ap (same_side side) (sym (standing_back side) ∙ ap standing here)) ∙ same_itself side in
      rw (le-ltb (place_of side) i (omega arith), same, lt-ltb (place_of side) (suc i) (omega (arith, add-one i))) refl
  place_more i false h =
      let away : place_of side ≡ i → ⊥ = eqb-false (place_of side) i h in
      rw (another_place side (standing i) (λ (e : place_of side ≡ place_of (standing i)). away (e ∙ place_back i))) (by_test (ltb (place_of side) i) refl)
    where
      by_test : (b : Bool) → ltb (place_of side) i ≡ b → cond {A = ℕ} b 1 0 + 0 ≡ cond (ltb (place_of side) (suc i)) 1 0
      by_test true l = rw (lt-ltb (place_of side) (suc i) (omega (arith, add-one i, ltb-true (place_of side) i l))) refl
      by_test false l = rw (le-ltb (place_of side) (suc i) (omega (arith, add-one i, ltb-false (place_of side) i l, eqb-false (place_of side) i h))) refl

  once_below : (i : ℕ) → occurrences side (places_below i) ≡ cond (ltb (place_of side) i) 1 0
  unfolding occurrences places_below
  once_below zero = rw (le-ltb (place_of side) 0 (omega arith)) refl
  once_below (suc i) =
      omega (arith, occurrences_append side (places_below i) (standing i ∷ []), once_below i, place_more i (eqb (place_of side) i) refl)

  module _ (store : Store) where
    -- a side that is open stays where the openings are chosen, and one that is not goes
    apart : (entry : PointSide) (b c : Bool) → is_open store side ≡ b → is_open store entry ≡ c → (b ≡ c → ⊥) → same_side side entry ≡ false
    apart entry b c p q differ = another side entry (λ (e : side ≡ entry). differ (sym p ∙ ap (is_open store) e ∙ q))

    open_stays : is_open store side ≡ true → (list : List PointSide) → occurrences side (open_among store list) ≡ occurrences side list
    unfolding open_among occurrences
    open_stays is [] = refl
    open_stays is (entry ∷ rest) = by_test (is_open store entry) refl (open_stays is rest)
      where
        by_test : (b : Bool) → is_open store entry ≡ b → occurrences side (open_among store rest) ≡ occurrences side rest
            → occurrences side (cond b (entry ∷ open_among store rest) (open_among store rest)) ≡ cond (same_side side entry) 1 0 + occurrences side rest
        by_test true q stays = ap (λ (times : ℕ). cond (same_side side entry) 1 0 + times) stays
        by_test false q stays = rw (apart entry true false is q true≢false) (omega (arith, stays))

    other_goes : is_open store side ≡ false → (list : List PointSide) → occurrences side (open_among store list) ≡ 0
    unfolding open_among occurrences
    other_goes is [] = refl
    other_goes is (entry ∷ rest) = by_test (is_open store entry) refl (other_goes is rest)
      where
        by_test : (b : Bool) → is_open store entry ≡ b → occurrences side (open_among store rest) ≡ 0
            → occurrences side (cond b (entry ∷ open_among store rest) (open_among store rest)) ≡ 0
        by_test true q goes = rw (apart entry false true is q false≢true) (omega (arith, goes))
        by_test false q goes = goes

    listed_by : (made b : Bool) → is_made store.made side.point ≡ made → is_open store side ≡ b
        → occurrences side (openings_of store) ≡ cond b 1 0
    listed_by true true m is =
        open_stays is (sides_below 128)
        ∙ ap (occurrences side) (sym (places_are_sides 128))
        ∙ once_below 512
        ∙ rw (lt-ltb (place_of side) 512 (omega (arith, is_made_room store.made side.point m, number_small side.direction))) refl
    listed_by false true m is = absurd (true≢false (sym is ∙ rw m refl))
    listed_by made false m is = other_goes is (sides_below 128)

pub openings_listed : OpeningsListed
openings_listed store side = listed_by side store (is_made store.made side.point) (is_open store side) refl refl

-- ---- no other list
-- a side is not among those that an entry behind it comes before
absent : (side entry : PointSide) (list : List PointSide) → place_of side ≤ place_of entry → BeforeEach entry list → occurrences side list ≡ 0
unfolding occurrences
absent side entry [] h o = refl
absent side entry (other ∷ rest) h o =
    let behind : place_of entry < place_of other = higher_behind entry other o.0 in
    rw (another_place side other (λ (e : place_of side ≡ place_of other). omega (arith, h, behind, e))) (omega (arith, absent side entry rest h o.1))

absent_before : (side entry : PointSide) (list : List PointSide) → place_of side < place_of entry → BeforeEach entry list → occurrences side (entry ∷ list) ≡ 0
unfolding occurrences
absent_before side entry list h o =
    rw (another_place side entry (λ (e : place_of side ≡ place_of entry). omega (arith, h, e))) (omega (arith, absent side entry list (omega (arith, h)) o))

present : (side : PointSide) (list : List PointSide) → 1 ≤ occurrences side (side ∷ list)
unfolding occurrences
present side list = rw (same_itself side) (omega arith)

one_in_order : (list other : List PointSide) → InOrder list → InOrder other → ((side : PointSide) → occurrences side list ≡ occurrences side other) → list ≡ other
unfolding occurrences
one_in_order [] [] p q h = refl
one_in_order [] (entry ∷ others) p q h = absurd (omega (arith, h entry, present entry others))
one_in_order (side ∷ rest) [] p q h = absurd (omega (arith, h side, present side rest))
one_in_order (side ∷ rest) (entry ∷ others) p q h =
    by_order (ltb (place_of side) (place_of entry)) (ltb (place_of entry) (place_of side)) refl refl (one_in_order rest others p.1 q.1)
  where
    by_order : (a b : Bool) → ltb (place_of side) (place_of entry) ≡ a → ltb (place_of entry) (place_of side) ≡ b
        → (((x : PointSide) → occurrences x rest ≡ occurrences x others) → rest ≡ others) → side ∷ rest ≡ entry ∷ others
    by_order true b e f behind =
        absurd (omega (arith, h side, present side rest, absent_before side entry others (ltb-true (place_of side) (place_of entry) e) q.0))
    by_order false true e f behind =
        absurd (omega (arith, h entry, present entry others, absent_before entry side rest (ltb-true (place_of entry) (place_of side) f) p.0))
    by_order false false e f behind =
        let first : side ≡ entry = one_place side entry (omega (arith, ltb-false (place_of side) (place_of entry) e, ltb-false (place_of entry) (place_of side) f)) in
        ap (λ (x : PointSide). x ∷ rest) first
        ∙ ap (λ (list : List PointSide). entry ∷ list)
        (behind (λ (x : PointSide). omega (arith, h x, ap (λ (y : PointSide). cond {A = ℕ} (same_side x y) 1 0) first)))

pub one_list : OneList
one_list store sides lists order =
    one_in_order sides (openings_of store) order (openings_in_order store) (λ (side : PointSide). lists side ∙ sym (openings_listed store side))
