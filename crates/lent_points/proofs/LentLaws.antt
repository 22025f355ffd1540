-- Laws of lent points: what the arrays hold after a store to them, and that they hold the points of a store through each change of it.
use Rattle.std.specs.Prelude.{ℕ, ◌<◌, ◌≤◌, ◌+◌, ◌*◌, ◌≡◌, refl, Bool, true, false, cond, ◌&&◌, List, ltb, eqb, Float, length, set}
use Rattle.std.proofs.Common.{sym, ap, ◌∙◌, arith, ltb-true, ltb-false, lt-ltb, eqb-true, ne_eqb, eq-eqb, length-set, get_or-set_same, get_or-set_other, ext_get_or}
use Rattle.std.proofs.lemmas.Bool.{eqb-false}
use Rattle.std.specs.Float.{nan}
use Rattle.control_point.specs.Direction.{flip_of, same_direction}
use Rattle.control_point.specs.Point.{side_of, with_side, moved_from, moved_across, moved_upwards, is_made, point_at, blank}
use Rattle.control_point.proofs.PointLaws.{is_made_made, is_made_room, made_is_made}
use Rattle.control_point.specs.Sides.{Sides, lent_sides, sides_with, sides_with_point}
use Rattle.control_point.proofs.SidesLaws.{Agree}
use Rattle.control_point.specs.declared.t_mesh_control_point.Side.{Side}
use Rattle.control_point.specs.declared.t_mesh_control_point.Side.TheVariants.{Link}
use Rattle.control_point.specs.declared.t_mesh_control_point.TmeshControlPoint.{TmeshControlPoint}
use Rattle.control_point.specs.declared.t_mesh_direction.TmeshDirection.{TmeshDirection}
use Rattle.control_point.specs.declared.t_mesh_direction.TmeshDirection.TheVariants.{Up, Right, Down, Left}
use Rattle.store.specs.Store.{store_sides, store_point, with_point, with_side_at, with_new, linked, coordinated}
use Rattle.store.proofs.StoreLaws.{side_read}
use Rattle.store.specs.declared.store.Store.{Store}
use Rattle.lent_points.specs.declared.LentPoints.{LentPoints}
use Rattle.lent_points.specs.Lent.{Points, points_with, points_with_side, points_linked, across_at, upwards_at, coordinates_with, points_from, lent_points, Held, FilledTo}

-- ---- the coordinates after a store
module _ (coordinates : List Float) (full : length coordinates ≡ 256) (n : ℕ) (h : n < 128) (s t : Float) where
  pub length_with : length (coordinates_with coordinates n s t) ≡ 256
  length_with = length-set (set coordinates (n * 2) s) (n * 2 + 1) t ∙ length-set coordinates (n * 2) s ∙ full

  across_same : across_at (coordinates_with coordinates n s t) n ≡ s
  across_same =
      get_or-set_other (set coordinates (n * 2) s) (n * 2 + 1) (n * 2) t nan (λ e. omega (arith, e))
      ∙ get_or-set_same coordinates (n * 2) s nan (omega (arith, full, h))

  upwards_same : upwards_at (coordinates_with coordinates n s t) n ≡ t
  upwards_same = get_or-set_same (set coordinates (n * 2) s) (n * 2 + 1) t nan (rw length-set (omega (arith, full, h)))

  module _ (m : ℕ) (apart : m ≡ n → ⊥) where
    across_other : across_at (coordinates_with coordinates n s t) m ≡ across_at coordinates m
    across_other =
        get_or-set_other (set coordinates (n * 2) s) (n * 2 + 1) (m * 2) t nan (λ e. omega (arith, e))
        ∙ get_or-set_other coordinates (n * 2) (m * 2) s nan (λ e. apart (omega (arith, e)))

    upwards_other : upwards_at (coordinates_with coordinates n s t) m ≡ upwards_at coordinates m
    upwards_other =
        get_or-set_other (set coordinates (n * 2) s) (n * 2 + 1) (m * 2 + 1) t nan (λ e. apart (omega (arith, e)))
        ∙ get_or-set_other coordinates (n * 2) (m * 2 + 1) s nan (λ e. omega (arith, e))

-- ---- the points after a store
module _ (sides : Sides) (coordinates : List Float) (n : ℕ) where
  abbrev before : Points
  before = points_from sides coordinates

  -- to one side
  module _ (d : TmeshDirection) (side : Side) where
    side_by : (m : ℕ) (b : Bool) → eqb m n ≡ b
        → ◌≡◌ {A = TmeshControlPoint} (record {
          up = cond (b && same_direction Up d) side (sides m Up);
          right = cond (b && same_direction Right d) side (sides m Right);
          down = cond (b && same_direction Down d) side (sides m Down);
          left = cond (b && same_direction Left d) side (sides m Left);
          s = across_at coordinates m;
          t = upwards_at coordinates m;
        }) (cond b (with_side (before n) d side) (before m))
    side_by m true x = ap (λ (k : ℕ). with_side (before k) d side) (eqb-true m n x)
    side_by m false x = refl

    from_side : points_from (sides_with sides n d side) coordinates ≡ points_with_side before n d side
    from_side = λ i m. side_by m (eqb m n) refl i

  module _ (full : length coordinates ≡ 256) (h : n < 128) where
    -- to the coordinates
    from_coordinates : (s t : Float) → points_from sides (coordinates_with coordinates n s t) ≡ points_with before n (coordinated (before n) s t)
    from_coordinates s t = λ i m. by_test m (eqb m n) refl i
      where
        by_test : (m : ℕ) (b : Bool) → eqb m n ≡ b → points_from sides (coordinates_with coordinates n s t) m ≡ cond b (coordinated (before n) s t) (before m)
        by_test m true x =
            ap (points_from sides (coordinates_with coordinates n s t)) (eqb-true m n x)
            ∙ ap (λ (u : Float). coordinated (before n) u (upwards_at (coordinates_with coordinates n s t) n)) (across_same coordinates full n h s t)
            ∙ ap (coordinated (before n) s) (upwards_same coordinates full n h s t)
        by_test m false x =
            ap (λ (u : Float). coordinated (before m) u (upwards_at (coordinates_with coordinates n s t) m)) (across_other coordinates full n h s t m (eqb-false m n x))
            ∙ ap (coordinated (before m) (across_at coordinates m)) (upwards_other coordinates full n h s t m (eqb-false m n x))

    -- to a whole point
    pub from_point : (p : TmeshControlPoint) → points_from (sides_with_point sides n p) (coordinates_with coordinates n p.s p.t) ≡ points_with before n p
    from_point p = λ i m. by_test m (eqb m n) refl i
      where
        after : Points
        after = points_from sides (coordinates_with coordinates n p.s p.t)

        by_test : (m : ℕ) (b : Bool) → eqb m n ≡ b
            → ◌≡◌ {A = TmeshControlPoint} (record {
              up = cond b p.up (sides m Up);
              right = cond b p.right (sides m Right);
              down = cond b p.down (sides m Down);
              left = cond b p.left (sides m Left);
              s = across_at (coordinates_with coordinates n p.s p.t) m;
              t = upwards_at (coordinates_with coordinates n p.s p.t) m;
            }) (cond b p (before m))
        by_test m true x =
            ap (λ (k : ℕ). coordinated p (across_at (coordinates_with coordinates n p.s p.t) k) (upwards_at (coordinates_with coordinates n p.s p.t) k)) (eqb-true m n x)
            ∙ ap (λ (u : Float). coordinated p u (upwards_at (coordinates_with coordinates n p.s p.t) n)) (across_same coordinates full n h p.s p.t)
            ∙ ap (coordinated p p.s) (upwards_same coordinates full n h p.s p.t)
        by_test m false x =
            ap (λ (u : Float). coordinated (before m) u (upwards_at (coordinates_with coordinates n p.s p.t) m)) (across_other coordinates full n h p.s p.t m (eqb-false m n x))
            ∙ ap (coordinated (before m) (across_at coordinates m)) (upwards_other coordinates full n h p.s p.t m (eqb-false m n x))

-- as the arrays hold them: a change of the sides alone
pub lent_side : (before after : LentPoints) (n : ℕ) (d : TmeshDirection) (side : Side) → after.coordinates ≡ before.coordinates → lent_sides after.sides ≡ sides_with (lent_sides before.sides) n d side
    → lent_points after ≡ points_with_side (lent_points before) n d side
unfolding lent_points
lent_side before after n d side same put =
    ap (points_from (lent_sides after.sides)) same
    ∙ ap (λ (sides : Sides). points_from sides before.coordinates) put
    ∙ from_side (lent_sides before.sides) before.coordinates n d side

-- of two points put under one number the second stands
with_twice : (points : Points) (n : ℕ) (p q : TmeshControlPoint) → points_with (points_with points n p) n q ≡ points_with points n q
with_twice points n p q = λ i m. by_test (eqb m n) (points m) i
  where
    by_test : (b : Bool) (r : TmeshControlPoint) → cond b q (cond b p r) ≡ cond b q r
    by_test true r = refl
    by_test false r = refl

-- ---- two points linked
module _ (sides : Sides) (coordinates : List Float) (full : length coordinates ≡ 256) (first other : ℕ) (h : other < 128) (apart : other ≡ first → ⊥) (d : TmeshDirection) (interval : Float) where
  abbrev unlinked : Points
  unlinked = points_from sides coordinates

  abbrev once : Points
  once = points_with_side unlinked first d (Link other interval)

  abbrev end : TmeshControlPoint
  end = with_side (once other) (flip_of d) (Link first interval)

  abbrev s : Float
  s = moved_across (across_at coordinates first) d interval

  abbrev t : Float
  t = moved_upwards (upwards_at coordinates first) d interval

  pub from_linked : points_from (sides_with (sides_with sides first d (Link other interval)) other (flip_of d) (Link first interval)) (coordinates_with coordinates other s t)
      ≡ points_linked unlinked first other d interval
  from_linked =
      from_coordinates (sides_with (sides_with sides first d (Link other interval)) other (flip_of d) (Link first interval)) coordinates other full h s t
      ∙ ap (λ (ps : Points). points_with ps other (coordinated (ps other) s t))
      (from_side (sides_with sides first d (Link other interval)) coordinates other (flip_of d) (Link first interval)
      ∙ ap (λ (ps : Points). points_with_side ps other (flip_of d) (Link first interval)) (from_side sides coordinates first d (Link other interval)))
      ∙ with_twice once other end (coordinated (points_with once other end other) s t)
      ∙ ap (λ (b : Bool). points_with once other (coordinated (cond b end (once other)) s t)) (eq-eqb other other refl)
      ∙ ap (λ (b : Bool). points_with once other (moved_from (with_side (cond b (with_side (unlinked first) d (Link other interval)) (unlinked other)) (flip_of d) (Link first interval)) (unlinked first) d interval))
      (ne_eqb other first apart)

-- ---- a store's points held, through each change of it
pub true_false : true ≡ false → ⊥
true_false e = let z : ◌≡◌ {A = ℕ} 1 0 = ap (λ (b : Bool). cond b 1 0) e in omega (arith, z)

module _ {points : Points} {rest : List TmeshControlPoint} (store : Store) (held : Held points rest store) where
  -- a point stored anew
  pub held_with : (n : ℕ) → is_made store.made n ≡ true → (p : TmeshControlPoint) → Held (points_with points n p) rest (with_point store n p)
  held_with n made p =
      record {
        room = length-set store.points n p ∙ held.room;
        held = λ m h. by_test m (eqb m n) refl h;
        beyond = λ m h. get_or-set_other store.points n m p blank (apart m h) ∙ held.beyond m h;
      }
    where
      roomy : n < length store.points
      roomy = omega (arith, is_made_room store.made n made, held.room)

      by_test : (m : ℕ) (b : Bool) → eqb m n ≡ b → is_made store.made m ≡ true → store_point (with_point store n p) m ≡ cond b p (points m)
      by_test m true x h = ap (store_point (with_point store n p)) (eqb-true m n x) ∙ get_or-set_same store.points n p blank roomy
      by_test m false x h = get_or-set_other store.points n m p blank (eqb-false m n x) ∙ held.held m h

      apart : (m : ℕ) → is_made store.made m ≡ false → m ≡ n → ⊥
      apart m h e = true_false (sym made ∙ ap (is_made store.made) (sym e) ∙ h)

  -- a point more
  pub held_new : store.made < 128 → (p : TmeshControlPoint) → Held (points_with points store.made p) rest (with_new store p)
  held_new roomy p =
      record {
        room = length-set store.points store.made p ∙ held.room;
        held = λ m h. by_test m (eqb m store.made) refl h;
        beyond = λ m h. get_or-set_other store.points store.made m p blank (not_new m h) ∙ held.beyond m (not_made m h);
      }
    where
      by_test : (m : ℕ) (b : Bool) → eqb m store.made ≡ b → is_made (store.made + 1) m ≡ true → store_point (with_new store p) m ≡ cond b p (points m)
      by_test m true x h = ap (store_point (with_new store p)) (eqb-true m store.made x) ∙ get_or-set_same store.points store.made p blank (omega (arith, roomy, held.room))
      by_test m false x h =
          get_or-set_other store.points store.made m p blank (eqb-false m store.made x)
          ∙ held.held m (made_is_made store.made m (omega (arith, roomy)) (omega (arith, is_made_made (store.made + 1) m h, eqb-false m store.made x)))

      beyond_not : (m : ℕ) → is_made (store.made + 1) m ≡ false → m < store.made + 1 → ⊥
      beyond_not m h l = true_false (sym (made_is_made (store.made + 1) m (omega (arith, roomy)) l) ∙ h)

      not_new : (m : ℕ) → is_made (store.made + 1) m ≡ false → m ≡ store.made → ⊥
      not_new m h e = beyond_not m h (omega (arith, e))

      not_made : (m : ℕ) → is_made (store.made + 1) m ≡ false → is_made store.made m ≡ false
      not_made m h = by_made (is_made store.made m) refl
        where
          by_made : (b : Bool) → is_made store.made m ≡ b → is_made store.made m ≡ false
          by_made true x = absurd (beyond_not m h (omega (arith, is_made_made store.made m x)))
          by_made false x = x

  -- a side stored anew
  pub held_side : (n : ℕ) → is_made store.made n ≡ true → (d : TmeshDirection) (side : Side) → Held (points_with_side points n d side) rest (with_side_at store n d side)
  held_side n made d side = rw (held.held n made) (held_with n made (with_side (points n) d side))

-- two points linked
pub held_linked : {points : Points} {rest : List TmeshControlPoint} (store : Store) (held : Held points rest store) (first other : ℕ) → is_made store.made first ≡ true → is_made store.made other ≡ true
    → (d : TmeshDirection) (interval : Float) → Held (points_linked points first other d interval) rest (linked store first other d interval)
held_linked {points} store held first other first_made other_made d interval =
    rw (held.held other other_made, held.held first first_made)
    (held_with (with_point store first (with_side (points first) d (Link other interval)))
    (held_with store held first first_made (with_side (points first) d (Link other interval)))
    other other_made
    (moved_from (with_side (points other) (flip_of d) (Link first interval)) (points first) d interval))

-- what the arrays hold of the sides
pub held_agree : (sides : Sides) (coordinates : List Float) (rest : List TmeshControlPoint) (store : Store) → Held (points_from sides coordinates) rest store → Agree store.made sides (store_sides store)
held_agree sides coordinates rest store held n d h = by_direction d ∙ ap (λ (p : TmeshControlPoint). side_of p d) (sym (held.held n h)) ∙ sym (side_read store n d (is_made_room store.made n h))
  where
    by_direction : (d : TmeshDirection) → sides n d ≡ side_of (points_from sides coordinates n) d
    by_direction Up = refl
    by_direction Right = refl
    by_direction Down = refl
    by_direction Left = refl

-- below the first number that is not made stand the made ones
pub made_below : (made n m : ℕ) → is_made made n ≡ false → is_made made m ≡ true → m < n
unfolding is_made
made_below made n m h k = by_test (ltb m n) refl
  where
    made_too : n < made → n < 128 → is_made made n ≡ true
    made_too a b = simp (lt-ltb n made a, lt-ltb n 128 b)

    by_test : (b : Bool) → ltb m n ≡ b → m < n
    by_test true x = ltb-true m n x
    by_test false x =
        absurd (true_false (sym (made_too (omega (arith, ltb-false m n x, is_made_made made m k)) (omega (arith, ltb-false m n x, is_made_room made m k))) ∙ h))

-- ---- points filled in from a list, one after another
pub filled_none : (points : Points) (list : List TmeshControlPoint) → FilledTo 0 points list
filled_none points list n h = absurd (omega (arith, h))

pub filled_more : (count : ℕ) (points after : Points) (list : List TmeshControlPoint) → after ≡ points_with points count (point_at list count) → FilledTo count points list → FilledTo (count + 1) after list
filled_more count points after list e filled n h = ap (λ (ps : Points). ps n) e ∙ by_test (eqb n count) refl
  where
    by_test : (b : Bool) → eqb n count ≡ b → cond b (point_at list count) (points n) ≡ point_at list n
    by_test true x = ap (point_at list) (sym (eqb-true n count x))
    by_test false x = filled n (omega (arith, h, eqb-false n count x))

-- the made ones of a store filled in, up to the first that is not made, they are held
pub held_filled : (points : Points) (store : Store) (count : ℕ) → length store.points ≡ 128 → is_made store.made count ≡ false → FilledTo count points store.points → Held points store.points store
held_filled points store count room last filled =
    record { room = room; held = λ n h. sym (filled n (made_below store.made count n last h)); beyond = λ n h. refl }

-- ---- points packed into a list, one after another, over those that stand there
pub record PackedTo (count : ℕ) (points : Points) (rest list : List TmeshControlPoint) : Type 0 where
  pub same_length : length list ≡ length rest
  pub packed : (n : ℕ) → n < count → point_at list n ≡ points n
  pub left : (n : ℕ) → count ≤ n → point_at list n ≡ point_at rest n

pub packed_none : (points : Points) (rest : List TmeshControlPoint) → PackedTo 0 points rest rest
packed_none points rest = record { same_length = refl; packed = λ n h. absurd (omega (arith, h)); left = λ n h. refl }

pub packed_more : (count : ℕ) (points : Points) (rest list : List TmeshControlPoint) → count < length rest → PackedTo count points rest list → PackedTo (count + 1) points rest (set list count (points count))
packed_more count points rest list room p =
    record {
      same_length = length-set list count (points count) ∙ p.same_length;
      packed = λ n h. by_test n (eqb n count) refl h;
      left = λ n h. get_or-set_other list count n (points count) blank (λ e. omega (arith, h, e)) ∙ p.left n (omega (arith, h));
    }
  where
    by_test : (n : ℕ) (b : Bool) → eqb n count ≡ b → n < count + 1 → point_at (set list count (points count)) n ≡ points n
    by_test n true x h =
        ap (point_at (set list count (points count))) (eqb-true n count x)
        ∙ get_or-set_same list count (points count) blank (omega (arith, room, p.same_length))
        ∙ ap points (sym (eqb-true n count x))
    by_test n false x h = get_or-set_other list count n (points count) blank (eqb-false n count x) ∙ p.packed n (omega (arith, h, eqb-false n count x))

-- the made ones packed over the rest, the list is the store's
pub held_packed : (points : Points) (rest list : List TmeshControlPoint) (store : Store) (count : ℕ) → count ≤ 128 → length rest ≡ 128 → Held points rest store
    → ((n : ℕ) → n < count → is_made store.made n ≡ true) → ((n : ℕ) → is_made store.made n ≡ true → n < count)
    → PackedTo count points rest list → list ≡ store.points
held_packed points rest list store count few room held made within p =
    ext_get_or blank list store.points (p.same_length ∙ room ∙ sym held.room) (λ n h. by_test n (is_made store.made n) refl)
  where
    by_test : (n : ℕ) (b : Bool) → is_made store.made n ≡ b → point_at list n ≡ store_point store n
    by_test n true x = p.packed n (within n x) ∙ sym (held.held n x)
    by_test n false x = p.left n (not_less (λ l. true_false (sym (made n l) ∙ x))) ∙ sym (held.beyond n x)
      where
        not_less : (n < count → ⊥) → count ≤ n
        not_less f = omega (arith, f)
