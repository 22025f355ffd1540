-- Theorems on the list of openings, for every store: statements only.
use Rattle.std.specs.Prelude.{ℕ, ◌+◌, ◌<◌, ◌≤◌, Bool, true, cond, ◌&&◌, List, [], ◌∷◌, ◌⊎◌, ◌≡◌, eqb, ltb, length, get_or}
use Rattle.counting.specs.Counting.{count_below}
use Rattle.control_point.specs.Direction.{direction_number, direction_numbered, same_direction}
use Rattle.control_point.specs.Point.{is_made}
use Rattle.control_point.specs.declared.t_mesh_direction.TmeshDirection.{TmeshDirection}
use Rattle.store.specs.Store.{store_sides}
use Rattle.store.specs.declared.store.Store.{Store}
use Rattle.openings.specs.Openings.{PointSide, point_side, is_open, openings_of, openings_answer}
use Rattle.openings.specs.declared.list.Openings.{Openings}

-- ---- what is in a list, and in which order
-- the same point and the same direction
abbrev pub same_side : PointSide → PointSide → Bool
same_side side other = eqb side.point other.point && same_direction side.direction other.direction

-- how often a side stands in a list
unfoldable pub occurrences : PointSide → List PointSide → ℕ
occurrences side [] = 0
occurrences side (entry ∷ rest) = cond (same_side side entry) 1 0 + occurrences side rest

-- each opening of a made point stands in the list once, and nothing else does
abbrev pub ListsOpenings : Store → List PointSide → Type 0
ListsOpenings store sides = (side : PointSide) → occurrences side sides ≡ cond (is_open store side) 1 0

-- a side comes before another: its point's number is lower, or the points are the same and its direction's number is lower
abbrev pub Before : PointSide → PointSide → Type 0
Before side other =
    (side.point < other.point)
    ⊎ ((side.point ≡ other.point) × (direction_number side.direction < direction_number other.direction))

-- it comes before each side of a list
abbrev pub BeforeEach : PointSide → List PointSide → Type 0
BeforeEach side [] = Unit {0}
BeforeEach side (other ∷ rest) = Before side other × BeforeEach side rest

-- each entry of a list comes before each behind it
abbrev pub InOrder : List PointSide → Type 0
InOrder [] = Unit {0}
InOrder (side ∷ rest) = BeforeEach side rest × InOrder rest

-- ---- the answer of the call
-- how often the numbers of a point and of a direction stand together among the first so many entries of an answer
abbrev pub entries_of : ℕ → Openings → ℕ → ℕ → ℕ
entries_of i answer n k = count_below i (λ (j : ℕ). eqb (get_or answer.points j 0) n && eqb (get_or answer.directions j 0) k)

-- there are at most 512 entries; the numbers of each opening of a made point stand among them once, and no others do; behind them stands 0
pub record AnswersOpenings (store : Store) (answer : Openings) : Type 0 where
  pub few : answer.count ≤ 512
  pub once : (n k : ℕ) → entries_of answer.count answer n k ≡ cond (ltb k 4 && is_open store (point_side n (direction_numbered k))) 1 0
  pub behind : (i : ℕ) → answer.count ≤ i → (get_or answer.points i 0 ≡ 0) × (get_or answer.directions i 0 ≡ 0)

-- ---- the theorems
-- The list of openings has each opening of a made point once, and nothing else.
abbrev pub OpeningsListed : Type 0
OpeningsListed = (store : Store) → ListsOpenings store (openings_of store)

-- It is in order.
abbrev pub OpeningsInOrder : Type 0
OpeningsInOrder = (store : Store) → InOrder (openings_of store)

-- A list that has each opening of a made point once, and nothing else, and is in order is this one.
abbrev pub OneList : Type 0
OneList = (store : Store) (sides : List PointSide) → ListsOpenings store sides → InOrder sides → sides ≡ openings_of store

-- There are at most 512.
abbrev pub FewOpenings : Type 0
FewOpenings = (store : Store) → length (openings_of store) ≤ 512

-- Two stores with equally many points made, whose made points have equal sides, have equal lists, whatever stands at numbers never made.
abbrev pub SameOpenings : Type 0
SameOpenings =
    (store other : Store)
    → store.made ≡ other.made
    → ((n : ℕ) (d : TmeshDirection) → is_made store.made n ≡ true → store_sides store n d ≡ store_sides other n d)
    → openings_of store ≡ openings_of other

-- The answer of the call has each opening of a made point once, and nothing else.
abbrev pub OpeningsAnswered : Type 0
OpeningsAnswered = (store : Store) → AnswersOpenings store (openings_answer (openings_of store))
