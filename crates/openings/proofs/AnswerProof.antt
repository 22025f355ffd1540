-- `OpeningsAnswered` holds: the entries of the answer are those of the list, of which `OpeningsListed` speaks.
use Prim.Native.Nat.{ℕ, zero, suc, ◌+◌, ◌-◌, ◌<◌, ◌≤◌}
use Rattle.std.specs.Prelude.{◌≡◌, Bool, true, false, ◌&&◌, List, [], ◌∷◌, ◌++◌, map, ltb, eqb, get_or, take, replicate}
use Rattle.std.proofs.Math.Path.{refl, ap}
use Rattle.std.proofs.Common.{sym, ◌∙◌, arith, ltb-true, ltb-false, eqb-true, eq-eqb, ne_eqb, take-suc, get_or-append-add}
use Rattle.std.proofs.Math.Bool.{cond, and-false}
use Rattle.std.proofs.Math.Numerals.{add-one}
use Rattle.std.proofs.lemmas.Bool.{eqb-false}
use Rattle.std.proofs.Math.ListN.{length, get_or-eq_default}
use Rattle.std.proofs.lemmas.List.{length-map, length-replicate, get_or-replicate}
use Rattle.std.proofs.Math.Seq.{take-length}
use Rattle.counting.specs.Counting.{count_below}
use Rattle.control_point.specs.Direction.{direction_number, direction_numbered}
use Rattle.control_point.proofs.DirectionLaws.{number_small}
use Rattle.store.specs.declared.store.Store.{Store}
use Rattle.openings.specs.Openings.{PointSide, point_side, is_open, openings_of, point_entry, direction_entry, padded, openings_answer}
use Rattle.openings.proofs.OpeningsLaws.{no_side, answer_count, answer_point, answer_direction}
use Rattle.openings.proofs.OpeningsProof.{few_openings, occurrences_append, openings_listed}
use Rattle.openings.proofs.PlaceLaws.{number_numbered}
use Rattle.openings.specs.Theorems.{same_side, occurrences, entries_of, OpeningsAnswered}
use Rattle.openings.specs.declared.list.Openings.{Openings}

-- ---- behind the entries
zero_at : (room i : ℕ) (b : Bool) → ltb i room ≡ b → get_or {A = ℕ} (replicate room 0) i 0 ≡ 0
zero_at room i true h = get_or-replicate room i 0 0 (ltb-true i room h)
zero_at room i false h = get_or-eq_default (replicate room 0) 0 (omega (arith, length-replicate {A = ℕ} room 0, ltb-false i room h))

column_behind : (room : ℕ) (column : PointSide → ℕ) (sides : List PointSide) (i : ℕ) → length sides ≤ i → get_or (padded room (map column sides)) i 0 ≡ 0
unfolding padded
column_behind room column sides i past =
    let numbers = map column sides in
    let zeros = replicate {A = ℕ} (room - length numbers) 0 in
    let more = i - length numbers in
    let at : i ≡ length numbers + more = omega (arith, length-map sides column) in
    ap (λ (j : ℕ). get_or (numbers ++ zeros) j 0) at
    ∙ get_or-append-add numbers zeros more 0
    ∙ zero_at (room - length numbers) more (ltb more (room - length numbers)) refl

answer_behind : (sides : List PointSide) (i : ℕ) → length sides ≤ i
    → (get_or (openings_answer sides).points i 0 ≡ 0) × (get_or (openings_answer sides).directions i 0 ≡ 0)
unfolding openings_answer
answer_behind sides i past = (column_behind 512 point_entry sides i past, column_behind 512 direction_entry sides i past)

-- ---- each once
eqb_turned : (a b : ℕ) (c : Bool) → eqb a b ≡ c → c ≡ eqb b a
eqb_turned a b true h = sym (eq-eqb b a (sym (eqb-true a b h)))
eqb_turned a b false h = sym (ne_eqb b a (λ (e : b ≡ a). eqb-false a b h (sym e)))

module _ (sides : List PointSide) (n k : ℕ) where
  abbrev answer : Openings
  answer = openings_answer sides

  -- whether an entry of the answer has the numbers
  abbrev is_it : ℕ → Bool
  is_it i = eqb (get_or answer.points i 0) n && eqb (get_or answer.directions i 0) k

  read : (i : ℕ) → i < length sides → let entry = get_or sides i no_side in
      is_it i ≡ (eqb n entry.point && eqb k (direction_number entry.direction))
  read i h =
      let entry = get_or sides i no_side in
      ap (λ (m : ℕ). eqb m n && eqb (get_or answer.directions i 0) k) (answer_point sides i h)
      ∙ ap (λ (j : ℕ). eqb entry.point n && eqb j k) (answer_direction sides i h)
      ∙ ap (λ (b : Bool). b && eqb (direction_number entry.direction) k) (eqb_turned entry.point n (eqb entry.point n) refl)
      ∙ ap (λ (b : Bool). eqb n entry.point && b) (eqb_turned (direction_number entry.direction) k (eqb (direction_number entry.direction) k) refl)

  -- below 4 the numbers are those of a side, which the list has as often
  module _ (few : k < 4) where
    abbrev side : PointSide
    side = point_side n (direction_numbered k)

    is_side_lem : (i : ℕ) → i < length sides → is_it i ≡ same_side side (get_or sides i no_side)
    is_side_lem i h = read i h ∙ ap (λ (j : ℕ). eqb n (get_or sides i no_side).point && eqb j (direction_number (get_or sides i no_side).direction)) (sym (number_numbered k few))

    as_often : (i : ℕ) → i ≤ length sides → entries_of i answer n k ≡ occurrences side (take i sides)
    unfolding count_below occurrences
    as_often zero h = refl
    as_often (suc i) h =
        let inside : i < length sides = h in
        let next = ap (occurrences side) (take-suc sides i no_side inside) ∙ occurrences_append side (take i sides) (get_or sides i no_side ∷ []) in
        omega (arith, next, as_often i (omega (arith, h, add-one i)), ap (λ (b : Bool). cond {A = ℕ} b 1 0) (is_side_lem i inside))

    all_as_often : entries_of answer.count answer n k ≡ occurrences side sides
    all_as_often =
        ap (λ (i : ℕ). entries_of i answer n k) (answer_count sides)
        ∙ as_often (length sides) (omega arith)
        ∙ ap (occurrences side) (take-length sides)

  -- no direction has the number 4 or a higher one
  module _ (many : 4 ≤ k) where
    no_entry : (i : ℕ) → i < length sides → is_it i ≡ false
    no_entry i h =
        let entry = get_or sides i no_side in
        read i h
        ∙ ap (λ (b : Bool). eqb n entry.point && b) (ne_eqb k (direction_number entry.direction) (λ (e : k ≡ direction_number entry.direction). omega (arith, e, many, number_small entry.direction)))
        ∙ and-false (eqb n entry.point)

    never : (i : ℕ) → i ≤ length sides → entries_of i answer n k ≡ 0
    unfolding count_below
    never zero h = refl
    never (suc i) h = omega (arith, never i (omega (arith, h, add-one i)), ap (λ (b : Bool). cond {A = ℕ} b 1 0) (no_entry i h))

    none : entries_of answer.count answer n k ≡ 0
    none = ap (λ (i : ℕ). entries_of i answer n k) (answer_count sides) ∙ never (length sides) (omega arith)

answered_once : (store : Store) (n k : ℕ) (b : Bool) → ltb k 4 ≡ b → let answer = openings_answer (openings_of store) in
    entries_of answer.count answer n k ≡ cond (b && is_open store (point_side n (direction_numbered k))) 1 0
answered_once store n k true h = all_as_often (openings_of store) n k (ltb-true k 4 h) ∙ openings_listed store (point_side n (direction_numbered k))
answered_once store n k false h = none (openings_of store) n k (ltb-false k 4 h)

pub openings_answered : OpeningsAnswered
openings_answered store =
    let sides = openings_of store in
    record {
      few = omega (arith, answer_count sides, few_openings store);
      once = λ (n k : ℕ). answered_once store n k (ltb k 4) refl;
      behind = λ (i : ℕ) past. answer_behind sides i (omega (arith, answer_count sides, past));
    }
