-- Laws of the list of openings: what a side more adds to it, how the answer of the call grows with it, and what is read of the answer.
use Rattle.std.specs.Prelude.{ℕ, suc, ◌+◌, ◌-◌, ◌/◌, ◌%◌, ◌<◌, ◌≤◌, ◌≡◌, Bool, ◌&&◌, get_or, set, replicate}
use Rattle.std.proofs.Math.Path.{refl, ap}
use Rattle.std.proofs.Common.{sym, ◌∙◌, add-one, arith, length-append}
use Rattle.std.proofs.Math.Bool.{true, false, cond}
use mathlib.Core.List.{List, [], ◌∷◌, ◌++◌, map, map-append, append-nil}
use Rattle.std.proofs.Math.Dec.{lit≤}
use Rattle.std.proofs.Math.ListN.{length, get_or-append, get_or-map}
use Rattle.std.proofs.lemmas.List.{length-map}
use Rattle.std.proofs.Math.Seq.{set-append_seam, append_snoc}
use Rattle.control_point.specs.Direction.{direction_numbered}
use Rattle.control_point.specs.Point.{is_made, is_opening, side_of}
use Rattle.control_point.specs.declared.t_mesh_control_point.Side.{Side}
use Rattle.control_point.specs.declared.t_mesh_direction.TmeshDirection.TheVariants.{Up}
use Rattle.store.specs.Store.{store_point}
use Rattle.store.proofs.StoreLaws.{side_read}
use Rattle.store.specs.declared.store.Store.{Store}
use Rattle.openings.specs.Openings.{PointSide, point_side, is_open, open_among, openings_of, point_entry, direction_entry, padded, openings_answer}
use Rattle.openings.proofs.PlaceLaws.{number_numbered, standing, places_below, places_none, places_next, places_length, places_are_sides}
use Rattle.openings.specs.declared.list.Openings.{Openings}

-- ---- the openings among some sides
module _ (store : Store) where
  pub open_append : (sides rest : List PointSide) → open_among store (sides ++ rest) ≡ open_among store sides ++ open_among store rest
  unfolding open_among
  open_append [] rest = refl
  open_append (side ∷ sides) rest =
      ap (λ (chosen : List PointSide). cond (is_open store side) (side ∷ chosen) chosen) (open_append sides rest)
      ∙ by_test (is_open store side)
    where
      by_test : (b : Bool) → let first = open_among store sides in let then = open_among store rest in
          cond b (side ∷ (first ++ then)) (first ++ then) ≡ cond b (side ∷ first) first ++ then
      by_test true = refl
      by_test false = refl

  open_few : (sides : List PointSide) → length (open_among store sides) ≤ length sides
  unfolding open_among
  open_few [] = lit≤ tt
  open_few (side ∷ rest) = by_test (is_open store side) (open_few rest)
    where
      by_test : (b : Bool) → length (open_among store rest) ≤ length rest → length (cond b (side ∷ open_among store rest) (open_among store rest)) ≤ length (side ∷ rest)
      by_test true few = omega (arith, few)
      by_test false few = omega (arith, few)

  -- below a place
  abbrev pub open_below : ℕ → List PointSide
  open_below i = open_among store (places_below i)

  pub below_none : open_below 0 ≡ []
  unfolding open_among
  below_none = ap (open_among store) places_none

  below_next : (i : ℕ) → open_below (i + 1) ≡ open_below i ++ cond (is_open store (standing i)) (standing i ∷ []) []
  unfolding open_among
  below_next i = ap (open_among store) (places_next i) ∙ open_append (places_below i) (standing i ∷ [])

  pub below_few : (i : ℕ) → length (open_below i) ≤ i
  below_few i = omega (arith, open_few (places_below i), places_length i)

  pub below_all : open_below 512 ≡ openings_of store
  below_all = ap (open_among store) (places_are_sides 128)

-- ---- the answer, with a side more
-- an answer with an entry more
abbrev longer : Openings → ℕ → ℕ → Openings
longer list n k =
    record {
      count = list.count + 1;
      points = set list.points list.count n;
      directions = set list.directions list.count k;
    }

zeros_split : (room n : ℕ) → n < room → replicate {A = ℕ} (room - n) 0 ≡ 0 ∷ replicate (room - (n + 1)) 0
zeros_split room n h =
    let left : room - n ≡ suc (room - (n + 1)) = omega (arith, add-one (room - (n + 1))) in
    ap (λ (count : ℕ). replicate {A = ℕ} count 0) left

-- one more number, right behind them
padded_next : (room : ℕ) (numbers : List ℕ) (n number : ℕ) → length numbers ≡ n → n < room
    → set (padded room numbers) n number ≡ padded room (numbers ++ (number ∷ []))
unfolding padded
padded_next room numbers n number e h =
    ap (λ (at : ℕ). set (numbers ++ replicate (room - at) 0) n number) e
    ∙ ap (λ (zeros : List ℕ). set (numbers ++ zeros) n number) (zeros_split room n h)
    ∙ ap (λ (at : ℕ). set (numbers ++ 0 ∷ replicate (room - (n + 1)) 0) at number) (sym e)
    ∙ set-append_seam numbers 0 (replicate (room - (n + 1)) 0) number
    ∙ sym (append_snoc numbers number (replicate (room - (n + 1)) 0))
    ∙ ap (λ (at : ℕ). (numbers ++ (number ∷ [])) ++ replicate (room - at) 0) longer_by_one
  where
    longer_by_one : n + 1 ≡ length (numbers ++ (number ∷ []))
    longer_by_one = omega (arith, length-append numbers (number ∷ []))

pub answer_none : openings_answer [] ≡ record { count = 0; points = replicate 512 0; directions = replicate 512 0 }
unfolding openings_answer padded
answer_none = refl

-- a column of the answer
column_next : (room : ℕ) (column : PointSide → ℕ) (sides : List PointSide) (side : PointSide) → length sides < room
    → set (padded room (map column sides)) (length sides) (column side) ≡ padded room (map column (sides ++ (side ∷ [])))
column_next room column sides side h =
    padded_next room (map column sides) (length sides) (column side) (length-map sides column) h ∙ ap (padded room) (sym (map-append column sides (side ∷ [])))

-- an answer of two columns
abbrev columns : ℕ → List ℕ → List ℕ → Openings
columns count points directions = record { count = count; points = points; directions = directions }

answer_longer : (sides : List PointSide) (side : PointSide) → length sides < 512
    → longer (openings_answer sides) (point_entry side) (direction_entry side) ≡ openings_answer (sides ++ (side ∷ []))
unfolding openings_answer
answer_longer sides side h =
    let count = length sides in
    let after = sides ++ (side ∷ []) in
    ap (λ (points : List ℕ). columns (count + 1) points (set (padded 512 (map direction_entry sides)) count (direction_entry side))) (column_next 512 point_entry sides side h)
    ∙ ap (columns (count + 1) (padded 512 (map point_entry after))) (column_next 512 direction_entry sides side h)
    ∙ ap (λ (n : ℕ). columns n (padded 512 (map point_entry after)) (padded 512 (map direction_entry after))) (sym (length-append sides (side ∷ [])))

answer_by_lem : (sides : List PointSide) (side : PointSide) (opening : Bool) → length sides < 512
    → cond opening (longer (openings_answer sides) (point_entry side) (direction_entry side)) (openings_answer sides)
    ≡ openings_answer (sides ++ cond opening (side ∷ []) [])
answer_by_lem sides side true h = answer_longer sides side h
answer_by_lem sides side false h = ap openings_answer (sym (append-nil sides))

pub answer_count : (sides : List PointSide) → (openings_answer sides).count ≡ length sides
unfolding openings_answer
answer_count sides = refl

-- no more are listed than there are places before
pub room_left : (store : Store) (i : ℕ) (list : Openings) → i < 512 → list ≡ openings_answer (open_below store i) → list.count < 512
room_left store i list h e = omega (arith, ap (λ (list : Openings). list.count) e, answer_count (open_below store i), below_few store i)

-- behind the last place all are listed
pub all_listed : (store : Store) (i : ℕ) (list : Openings) → i ≡ 512 → list ≡ openings_answer (open_below store i) → list ≡ openings_answer (openings_of store)
all_listed store i list e so_far = so_far ∙ ap (λ (place : ℕ). openings_answer (open_below store place)) e ∙ ap openings_answer (below_all store)

-- the answer after the side at a place
pub answer_after : (store : Store) (i : ℕ) (list after : Openings) (opening : Bool) → i < 512 → list ≡ openings_answer (open_below store i) → let n = i / 4 in let k = i % 4 in
    opening ≡ (is_made store.made n && is_opening (side_of (store_point store n) (direction_numbered k)))
    → after ≡ cond opening (longer list n k) list
    → after ≡ openings_answer (open_below store (i + 1))
answer_after store i list after opening h e is so =
    let n = i / 4 in
    let k = i % 4 in
    let side = standing i in
    so
    ∙ ap (λ (b : Bool). cond b (longer list n k) list) is
    ∙ ap (λ (read : Side). cond (is_made store.made n && is_opening read) (longer list n k) list) (sym (side_read store n (direction_numbered k) (omega arith)))
    ∙ ap (λ (j : ℕ). cond (is_open store side) (longer list n j) list) (sym (number_numbered k (omega arith)))
    ∙ ap (λ (before : Openings). cond (is_open store side) (longer before n (direction_entry side)) before) e
    ∙ answer_by_lem (open_below store i) side (is_open store side) (omega (arith, below_few store i))
    ∙ ap openings_answer (sym (below_next store i))

-- what a loop over the places says of the list
pub ruleset list_so_far = (below_none, room_left, all_listed)

-- ---- reading the answer
-- what is read past the end of a list of sides
abbrev pub no_side : PointSide
no_side = point_side 0 Up

-- an entry of a column
column_at : (room : ℕ) (column : PointSide → ℕ) (sides : List PointSide) (i : ℕ) → column no_side ≡ 0 → i < length sides
    → get_or (padded room (map column sides)) i 0 ≡ column (get_or sides i no_side)
unfolding padded
column_at room column sides i none h =
    get_or-append (map column sides) (replicate (room - length (map column sides)) 0) 0 i (omega (arith, length-map sides column))
    ∙ ap (get_or (map column sides) i) (sym none)
    ∙ get_or-map column sides i no_side

pub answer_point : (sides : List PointSide) (i : ℕ) → i < length sides → get_or (openings_answer sides).points i 0 ≡ point_entry (get_or sides i no_side)
unfolding openings_answer
answer_point sides i h = column_at 512 point_entry sides i refl h

pub answer_direction : (sides : List PointSide) (i : ℕ) → i < length sides → get_or (openings_answer sides).directions i 0 ≡ direction_entry (get_or sides i no_side)
unfolding openings_answer
answer_direction sides i h = column_at 512 direction_entry sides i refl h
