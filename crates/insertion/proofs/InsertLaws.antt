-- Laws of insertion. Refused, it leaves the store as it was. In a store with room for 128 points the two connections that place p succeed,
-- and so does that of an inferred link; the store after each is a linking.
use Rattle.std.specs.Prelude.{ℕ, ◌<◌, ◌+◌, ◌≡◌, Bool, ◌&&◌, ◌||◌, eqb, Float, length, Err, None, Ok, Option, Result, Some, ⊤}
use Rattle.std.proofs.Math.Path.{refl, ap}
use Rattle.std.proofs.Common.{sym, ◌∙◌, arith, lit<, length-set}
use Rattle.std.proofs.Math.Bool.{true, false, cond}
use borrow.Author.Tests.{ltb-true, ne_eqb, eq-eqb}
use Rattle.std.proofs.Math.Dec.{ltb}
use Rattle.std.specs.Float.Ieee.{binary64, sub, mul}
use Rattle.float64.specs.Literals.{one_literal}
use Rattle.float64.specs.Unit.{in_unit}
use Rattle.control_point.specs.Connect.{connectable}
use Rattle.control_point.specs.Direction.{clockwise_of, anti_clockwise_of, flip_of, same_direction}
use Rattle.control_point.proofs.DirectionLaws.{same_self}
use Rattle.control_point.specs.Point.{side_of, with_side, is_made, is_opening, link_end}
use Rattle.control_point.proofs.PointLaws.{is_made_made, is_made_room, made_is_made}
use Rattle.control_point.specs.Sides.{Sides, side_at, sides_with, sides_with_point}
use Rattle.control_point.proofs.SidesLaws.{Agree}
use Rattle.control_point.specs.Small.{small}
use Rattle.control_point.specs.declared.refusal.Refusal.{Refusal}
use Rattle.control_point.specs.declared.refusal.Refusal.TheVariants.{NoPoint, Itself, Taken, Ratio, Foreign, Interval, Full}
use Rattle.control_point.specs.declared.t_mesh_control_point.Side.{Side}
use Rattle.control_point.specs.declared.t_mesh_control_point.Side.TheVariants.{Link, Border, Opening}
use Rattle.control_point.specs.declared.t_mesh_direction.TmeshDirection.{TmeshDirection}
use Rattle.control_point.specs.declared.t_mesh_direction.TmeshDirection.TheVariants.{Up, Right, Down, Left}
use Rattle.search.specs.Search.{find_inferred_connection}
use Rattle.search.proofs.SearchLaws.{MayConnect, found_connects}
use Rattle.store.specs.Store.{store_sides, store_point, with_side_at, linked, done, connect_points}
use Rattle.store.proofs.StoreLaws.{room_kept, sides_side, sides_new, sides_linked}
use Rattle.store.specs.declared.store.Changed.{Changed}
use Rattle.store.specs.declared.store.Store.{Store}
use Rattle.insertion.specs.Insert.{checked_intervals, checked_facing, checked_side, checked, checked_link, cut, point_in_line, parted, near_joined, far_joined, placed, sought_side, border_or, new_side, with_new_side, tears, unless_torn, opened_count, inferred_count, counted_answer, first_side, with_first, second_side, sided, passed, insert_point}
use Rattle.insertion.specs.declared.insertion.NewSide.{NewSide}
use Rattle.insertion.specs.declared.insertion.NewSide.TheVariants.{Takes, Joins, Opens, Tears, Stays}
use Rattle.insertion.specs.declared.insertion.Inserted.{Inserted}
use Rattle.control_point.specs.declared.t_mesh_control_point.LinkEnd.{LinkEnd}

-- ---- connecting
-- points that may be connected are linked
connected : (store : Store) (first other : ℕ) (d : TmeshDirection) (interval : Float) → connectable (store_sides store) store.made first other d ≡ Ok tt
    → connect_points store first other d interval ≡ done (linked store first other d interval)
unfolding connect_points
connected store first other d interval h = simp h

module _ (sides : Sides) (made first other : ℕ) (d : TmeshDirection) where
  connectable_done : is_made made first ≡ true → is_made made other ≡ true → (first ≡ other → ⊥) → sides first d ≡ Opening → sides other (flip_of d) ≡ Opening
      → connectable sides made first other d ≡ Ok tt
  unfolding connectable
  connectable_done f o apart x y = simp (f, o, ne_eqb first other apart, x, y)

  refused_not : {A : Type 0} (refusal : Refusal) → ◌≡◌ {A = Result ⊤ Refusal} (Err refusal) (Ok tt) → A
  refused_not refusal h = let z : ◌≡◌ {A = ℕ} 0 1 = cc in absurd (omega arith)

  -- the other point is made, and is not the first
  pub connectable_other : connectable sides made first other d ≡ Ok tt → (is_made made other ≡ true) × (eqb first other ≡ false)
  unfolding connectable
  connectable_other h = by_tests (is_made made first) (is_made made other) (eqb first other) h
    where
      by_tests : (a b c : Bool)
          → ◌≡◌ {A = Result ⊤ Refusal} (cond (a && b) (cond c (Err Itself) (cond (is_opening (sides first d) && is_opening (sides other (flip_of d))) (Ok tt) (Err Taken))) (Err NoPoint)) (Ok tt)
          → (b ≡ true) × (c ≡ false)
      by_tests true true false g = (refl, refl)
      by_tests true true true g = refused_not Itself g
      by_tests true false c g = refused_not NoPoint g
      by_tests false b c g = refused_not NoPoint g

-- ---- a new side: where p joins a point, the two may be connected
abbrev pub MayJoin : Sides → ℕ → ℕ → TmeshDirection → NewSide → Type 0
MayJoin sides made p f (Takes weight) = Unit {0}
MayJoin sides made p f (Joins n interval) = connectable (sides_with sides p f Opening) made p n f ≡ Ok tt
MayJoin sides made p f Opens = Unit {0}
MayJoin sides made p f Tears = Unit {0}
MayJoin sides made p f Stays = Unit {0}

module _ (sides : Sides) (made p : ℕ) (f : TmeshDirection) where
  found_joins : (found : Result (Option LinkEnd) Refusal) → MayConnect (sides_with sides p f Opening) made p f found → MayJoin sides made p f (sought_side found)
  found_joins (Ok (Some end)) h = h
  found_joins (Ok None) h = tt
  found_joins (Err refusal) h = tt

  border_joins : (side : Side) (new : NewSide) → MayJoin sides made p f new → MayJoin sides made p f (border_or side new)
  border_joins (Border weight) new h = tt
  border_joins (Link n interval) new h = h
  border_joins Opening new h = h

  new_joins : (e : Float) (con : ℕ) → MayJoin sides made p f (new_side e sides made con p f)
  unfolding new_side
  new_joins e con =
      border_joins (sides con f) _
      (found_joins (find_inferred_connection e (sides_with sides p f Opening) made p f) (found_connects e (sides_with sides p f Opening) made p f))

  unless_joins : (first second : NewSide) → MayJoin sides made p f second → MayJoin sides made p f (unless_torn first second)
  unless_joins first second h = by_test (tears first)
    where
      by_test : (b : Bool) → MayJoin sides made p f (cond b Stays second)
      by_test true = tt
      by_test false = h

module _ (store : Store) (room : length store.points ≡ 128) (p : ℕ) (h : p < 128) (f : TmeshDirection) where
  abbrev opened_at : Store
  opened_at = with_side_at store p f Opening

  room_opened : length opened_at.points ≡ 128
  room_opened = room_kept store room p (with_side (store_point store p) f Opening)

  sides_opened_lem : store_sides opened_at ≡ sides_with (store_sides store) p f Opening
  sides_opened_lem = sides_side store room p h f Opening

  -- where p joins a point, it is connected to it
  module _ (n : ℕ) (interval : Float) (j : connectable (sides_with (store_sides store) p f Opening) store.made p n f ≡ Ok tt) where
    pub joined_linked : connect_points opened_at p n f interval ≡ done (linked opened_at p n f interval)
    joined_linked = connected opened_at p n f interval (ap (λ (sides : Sides). connectable sides store.made p n f) sides_opened_lem ∙ j)

  pub made_new_side : (side : NewSide) → MayJoin (store_sides store) store.made p f side → (with_new_side store p f side).made ≡ store.made
  made_new_side (Takes weight) j = refl
  made_new_side (Joins n interval) j = ap (λ (c : Changed). c.store.made) (joined_linked n interval j)
  made_new_side Opens j = refl
  made_new_side Tears j = refl
  made_new_side Stays j = refl

  room_new_side : (side : NewSide) → MayJoin (store_sides store) store.made p f side → length (with_new_side store p f side).points ≡ 128
  room_new_side (Takes weight) j = room_kept store room p _
  room_new_side (Joins n interval) j =
      ap (λ (c : Changed). length c.store.points) (joined_linked n interval j) ∙ rw (length-set, length-set, length-set) room
  room_new_side Opens j = room_opened
  room_new_side Tears j = room_opened
  room_new_side Stays j = room

-- ---- both sides of p
module _ (e : Float) (store : Store) (room : length store.points ≡ 128) (con p : ℕ) (h : p < 128) (d : TmeshDirection) where
  pub first_joins : MayJoin (store_sides store) store.made p (clockwise_of d) (first_side e store con p d)
  unfolding first_side
  first_joins = new_joins (store_sides store) store.made p (clockwise_of d) e con

  pub room_first : length (with_first e store con p d).points ≡ 128
  unfolding with_first
  room_first = room_new_side store room p h (clockwise_of d) (first_side e store con p d) first_joins

  pub made_first : (with_first e store con p d).made ≡ store.made
  unfolding with_first
  made_first = made_new_side store room p h (clockwise_of d) (first_side e store con p d) first_joins

  pub second_joins : MayJoin (store_sides (with_first e store con p d)) (with_first e store con p d).made p (anti_clockwise_of d) (second_side e store con p d)
  unfolding second_side
  second_joins =
      rw made_first
      (unless_joins (store_sides (with_first e store con p d)) store.made p (anti_clockwise_of d) (first_side e store con p d) _
      (new_joins (store_sides (with_first e store con p d)) store.made p (anti_clockwise_of d) e con))

-- ---- placing p
module _ (store : Store) (room : length store.points ≡ 128) (roomy : store.made < 128) (con other : ℕ) (hc : is_made store.made con ≡ true) (ho : is_made store.made other ≡ true) (d : TmeshDirection) where
  con_apart : con ≡ store.made → ⊥
  con_apart e = let k = is_made_made store.made con hc in omega arith

  other_apart : other ≡ store.made → ⊥
  other_apart e = let k = is_made_made store.made other ho in omega arith

  one_more : (n : ℕ) → n < store.made + 1 → is_made (store.made + 1) n ≡ true
  one_more n k = made_is_made (store.made + 1) n (omega arith) k

  room_cut : length (cut store con other d).points ≡ 128
  room_cut = rw (length-set, length-set) room

  sides_cut : store_sides (cut store con other d) ≡ sides_with (sides_with (store_sides store) con d Opening) other (flip_of d) Opening
  sides_cut =
      sides_side (with_side_at store con d Opening) (room_kept store room con _) other (is_made_room store.made other ho) (flip_of d) Opening
      ∙ ap (λ (sides : Sides). sides_with sides other (flip_of d) Opening) (sides_side store room con (is_made_room store.made con hc) d Opening)

  sides_parted : store_sides (parted store con other d) ≡ sides_with_point (sides_with (sides_with (store_sides store) con d Opening) other (flip_of d) Opening) store.made (point_in_line d)
  sides_parted =
      sides_new (cut store con other d) room_cut (point_in_line d) roomy
      ∙ ap (λ (sides : Sides). sides_with_point sides store.made (point_in_line d)) sides_cut

  room_parted : length (parted store con other d).points ≡ 128
  room_parted = rw (length-set, length-set, length-set) room

  -- the sides that are to be connected
  opening_either : (b : Bool) (side : Side) → side ≡ Opening → cond b Opening side ≡ Opening
  opening_either true side e = refl
  opening_either false side e = e

  con_opened : store_sides (parted store con other d) con d ≡ Opening
  con_opened =
      ap (λ (sides : Sides). sides con d) sides_parted
      ∙ simp (ne_eqb con store.made con_apart)
      (opening_either (eqb con other && same_direction d (flip_of d)) _ (simp (eq-eqb con con refl, same_self d)))

  other_opened : store_sides (parted store con other d) other (flip_of d) ≡ Opening
  other_opened =
      ap (λ (sides : Sides). sides other (flip_of d)) sides_parted
      ∙ simp (ne_eqb other store.made other_apart, eq-eqb other other refl, same_self (flip_of d))

  p_side : (f : TmeshDirection) → store_sides (parted store con other d) store.made f ≡ side_of (point_in_line d) f
  p_side f = ap (λ (sides : Sides). sides store.made f) sides_parted ∙ simp (eq-eqb store.made store.made refl)

  line_ahead : (d : TmeshDirection) → side_of (point_in_line d) d ≡ Opening
  line_ahead Up = refl
  line_ahead Right = refl
  line_ahead Down = refl
  line_ahead Left = refl

  line_back : (d : TmeshDirection) → side_of (point_in_line d) (flip_of d) ≡ Opening
  line_back Up = refl
  line_back Right = refl
  line_back Down = refl
  line_back Left = refl

  turned : (d : TmeshDirection) → same_direction d (flip_of d) ≡ false
  turned Up = refl
  turned Right = refl
  turned Down = refl
  turned Left = refl

  turned_back : (d : TmeshDirection) → same_direction (flip_of d) d ≡ false
  turned_back Up = refl
  turned_back Right = refl
  turned_back Down = refl
  turned_back Left = refl

  module _ (interval ratio : Float) where
    abbrev half : Store
    half = linked (parted store con other d) con store.made d (mul binary64 interval ratio)

    -- con joins p
    pub near_done : near_joined store con other d interval ratio ≡ done half
    near_done =
        connected (parted store con other d) con store.made d (mul binary64 interval ratio)
        (connectable_done _ (store.made + 1) con store.made d
        (one_more con (let k = is_made_made store.made con hc in omega arith))
        (one_more store.made (omega arith))
        con_apart
        con_opened
        (p_side (flip_of d) ∙ line_back d))

    sides_half : store_sides half ≡ sides_with (sides_with (store_sides (parted store con other d)) con d (Link store.made (mul binary64 interval ratio))) store.made (flip_of d) (Link con (mul binary64 interval ratio))
    sides_half = sides_linked (parted store con other d) room_parted con store.made d (mul binary64 interval ratio) (is_made_room store.made con hc) roomy (λ e. con_apart (sym e))

    -- and p joins the other
    half_done : (y : Float) → connect_points half store.made other d y ≡ done (linked half store.made other d y)
    half_done y =
        connected half store.made other d y
        (connectable_done _ (store.made + 1) store.made other d
        (one_more store.made (omega arith))
        (one_more other (let k = is_made_made store.made other ho in omega arith))
        (λ e. other_apart (sym e))
        (ap (λ (sides : Sides). sides store.made d) sides_half
        ∙ simp (eq-eqb store.made store.made refl, turned d, ne_eqb store.made con (λ e. con_apart (sym e))) (p_side d ∙ line_ahead d))
        (ap (λ (sides : Sides). sides other (flip_of d)) sides_half
        ∙ simp (ne_eqb other store.made other_apart) (by_test (eqb other con))))
      where
        by_test : (b : Bool) → cond (b && same_direction (flip_of d) d) (Link store.made (mul binary64 interval ratio)) (store_sides (parted store con other d) other (flip_of d)) ≡ Opening
        by_test true = simp (turned_back d) other_opened
        by_test false = other_opened

    pub far_done : far_joined store con other d interval ratio ≡ done (linked half store.made other d (mul binary64 interval (sub binary64 one_literal ratio)))
    far_done = ap (λ (c : Changed). connect_points c.store store.made other d (mul binary64 interval (sub binary64 one_literal ratio))) near_done ∙ half_done _

    -- THE CONNECTIONS THAT PLACE A POINT SUCCEED, and the store is a chain of linkings
    pub placed_linked : placed store con other d interval ratio ≡ linked half store.made other d (mul binary64 interval (sub binary64 one_literal ratio))
    unfolding placed
    placed_linked = ap (λ (c : Changed). c.store) far_done

    pub room_placed : length (placed store con other d interval ratio).points ≡ 128
    room_placed = ap (λ (s : Store). length s.points) placed_linked ∙ rw (length-set, length-set, length-set, length-set) room_parted

-- ---- the checks
-- asked of sides that agree on all made numbers
module _ (made : ℕ) (sides others : Sides) (agree : Agree made sides others) where
  side_agrees : (n : ℕ) (d : TmeshDirection) → side_at sides made n d ≡ side_at others made n d
  side_agrees n d = by_test (is_made made n) refl
    where
      by_test : (b : Bool) → is_made made n ≡ b → cond b (Ok (sides n d)) (Err NoPoint) ≡ cond b (Ok (others n d)) (Err NoPoint)
      by_test true h = ap Ok (agree n d h)
      by_test false h = refl

  pub checked_agrees : (e ratio : Float) (listed : Bool) (con : ℕ) (d : TmeshDirection) → checked_link e ratio listed sides made con d ≡ checked_link e ratio listed others made con d
  checked_agrees e ratio listed con d = λ i. checked e ratio listed made (side_agrees con d i) (λ other. side_agrees other (flip_of d) i)

-- what they say where they are passed
pub record Passing (made con other : ℕ) : Type 0 where
  pub con_made : is_made made con ≡ true
  pub other_made : is_made made other ≡ true
  pub roomy : made < 128

module _ (e ratio : Float) (listed : Bool) (made con : ℕ) (end : LinkEnd) where
  refused_passes : {A : Type 0} (refusal : Refusal) → ◌≡◌ {A = Result LinkEnd Refusal} (Err refusal) (Ok end) → A
  refused_passes refusal h = let z : ◌≡◌ {A = ℕ} 0 1 = cc in absurd (omega arith)

  same_other : (n : ℕ) (k : Float) → ◌≡◌ {A = Result LinkEnd Refusal} (Ok (link_end n k)) (Ok end) → n ≡ end.point
  same_other n k h = let same : link_end n k ≡ end = cc in ap (λ (x : LinkEnd). x.point) same

  intervals_pass : (n : ℕ) (k facing : Float) → checked_intervals e made n k facing ≡ Ok end → (n ≡ end.point) × (made < 128)
  unfolding checked_intervals
  intervals_pass n k facing h = by_tests (small e (sub binary64 k facing)) (ltb made 128) refl h
    where
      by_tests : (a b : Bool) → ltb made 128 ≡ b → cond a (cond b (Ok (link_end n k)) (Err Full)) (Err Interval) ≡ Ok end → (n ≡ end.point) × (made < 128)
      by_tests true true t g = (same_other n k g, ltb-true made 128 t)
      by_tests true false t g = refused_passes Full g
      by_tests false b t g = refused_passes Interval g

  facing_passes : (n : ℕ) (k : Float) (side : Side) → checked_facing e made n k (Ok side) ≡ Ok end → (n ≡ end.point) × (made < 128)
  facing_passes n k (Link m facing) h = intervals_pass n k facing h
  facing_passes n k (Border weight) h = intervals_pass n k weight h
  facing_passes n k Opening h = refused_passes _ h

  made_passes : (n : ℕ) (k : Float) (facing : Side) (b : Bool) → is_made made n ≡ b → checked_facing e made n k (cond b (Ok facing) (Err NoPoint)) ≡ Ok end
      → (is_made made end.point ≡ true) × (made < 128)
  made_passes n k facing true t h = (ap (is_made made) (sym (facing_passes n k facing h).0) ∙ t, (facing_passes n k facing h).1)
  made_passes n k facing false t h = refused_passes NoPoint h

  module _ (sides : Sides) (d : TmeshDirection) where
    side_passes : (side : Side) (b : Bool) → is_made made con ≡ b → checked_side e made (cond b (Ok side) (Err NoPoint)) (λ n. side_at sides made n (flip_of d)) ≡ Ok end → Passing made con end.point
    side_passes (Link n k) true t h = let w = made_passes n k (sides n (flip_of d)) (is_made made n) refl h in record { con_made = t; other_made = w.0; roomy = w.1 }
    side_passes (Border weight) true t h = refused_passes _ h
    side_passes Opening true t h = refused_passes _ h
    side_passes side false t h = refused_passes NoPoint h

    pub checked_passes : checked_link e ratio listed sides made con d ≡ Ok end → Passing made con end.point
    unfolding checked
    checked_passes h = by_tests (in_unit ratio) listed h
      where
        by_tests : (a b : Bool) → cond a (cond b (checked_side e made (side_at sides made con d) (λ n. side_at sides made n (flip_of d))) (Err Foreign)) (Err Ratio) ≡ Ok end → Passing made con end.point
        by_tests true true g = side_passes (sides con d) (is_made made con) refl g
        by_tests true false g = refused_passes Foreign g
        by_tests false b g = refused_passes Ratio g

-- the call, by what the checks give
module _ (e : Float) (store : Store) (listed : Bool) (con : ℕ) (d : TmeshDirection) (ratio : Float) where
  abbrev pub checked_call : Result LinkEnd Refusal
  checked_call = checked_link e ratio listed (store_sides store) store.made con d

  pub insert_passed : (end : LinkEnd) → checked_call ≡ Ok end
      → insert_point e store listed con d ratio ≡ sided e (placed store con end.point d end.interval ratio) con store.made d
  unfolding insert_point
  insert_passed end h = rw h

  pub insert_refused : (refusal : Refusal) → checked_call ≡ Err refusal → insert_point e store listed con d ratio ≡ record { answer = Err refusal; store = store }
  unfolding insert_point
  insert_refused refusal h = rw h

-- ---- REFUSED, THE STORE IS THE SAME
counted_not : (torn : Bool) (opened inferred : ℕ) (refusal : Refusal) → counted_answer torn opened inferred ≡ Err refusal → ⊥
counted_not true opened inferred refusal g = let z : ◌≡◌ {A = ℕ} 0 1 = cc in omega arith
counted_not false opened inferred refusal g = let z : ◌≡◌ {A = ℕ} 0 1 = cc in omega arith

sided_answers : (e : Float) (store : Store) (con p : ℕ) (d : TmeshDirection) (refusal : Refusal) → (sided e store con p d).answer ≡ Err refusal → ⊥
unfolding sided
sided_answers e store con p d refusal = counted_not (tears (first_side e store con p d) || tears (second_side e store con p d)) _ _ refusal

pub refused_same : (e : Float) (store : Store) (listed : Bool) (con : ℕ) (d : TmeshDirection) (ratio : Float) (refusal : Refusal)
    → (insert_point e store listed con d ratio).answer ≡ Err refusal → (insert_point e store listed con d ratio).store ≡ store
unfolding insert_point
refused_same e store listed con d ratio refusal = by_checks (checked_call e store listed con d ratio)
  where
    next : ℕ → Float → Inserted
    next other interval = sided e (placed store con other d interval ratio) con store.made d

    by_checks : (c : Result LinkEnd Refusal) → (passed store c next).answer ≡ Err refusal → (passed store c next).store ≡ store
    by_checks (Err met) h = refl
    by_checks (Ok end) h = absurd (sided_answers e (placed store con end.point d end.interval ratio) con store.made d refusal h)

-- ---- a side counts at most once
pub opened_few : (side : NewSide) → opened_count side < 2
opened_few (Takes weight) = lit< tt
opened_few (Joins n interval) = lit< tt
opened_few Opens = lit< tt
opened_few Tears = lit< tt
opened_few Stays = lit< tt

pub inferred_few : (side : NewSide) → inferred_count side < 2
inferred_few (Takes weight) = lit< tt
inferred_few (Joins n interval) = lit< tt
inferred_few Opens = lit< tt
inferred_few Tears = lit< tt
inferred_few Stays = lit< tt
