-- Laws of the direct calls: each tells what its table says, and a call that is done leaves the sides that it is to leave.
use Rattle.std.specs.Prelude.{ℕ, ◌<◌, ◌≡◌, Bool, not, cond, ◌&&◌, ◌||◌, [], ◌∷◌, Float, length, Err, Ok, Result, ⊤}
use Rattle.std.proofs.Math.Path.{refl}
use Rattle.std.proofs.Common.{sym, ap, ◌∙◌, arith, eq-eqb, ltb-true, get_or-set_same}
use Rattle.std.proofs.Math.Bool.{true, false}
use Rattle.std.proofs.lemmas.Bool.{false≢true, eqb-false}
use Rattle.std.proofs.Math.Dec.{eqb, ltb}
use Rattle.control_point.specs.Connect.{connectable}
use Rattle.control_point.specs.Direction.{flip_of, same_direction}
use Rattle.control_point.proofs.DirectionLaws.{same_self}
use Rattle.control_point.specs.Point.{is_made, is_link, is_border, is_opening, side_of, loose_point, minus_one, blank}
use Rattle.control_point.proofs.PointLaws.{is_made_room}
use Rattle.control_point.specs.Sides.{Sides, linked_of}
use Rattle.control_point.specs.Told.{outcome_told, side_told, side as sideValue, tells, unless}
use Rattle.control_point.specs.declared.refusal.Refusal.{Refusal}
use Rattle.control_point.specs.declared.refusal.Refusal.TheVariants.{OpenSide, Taken, Itself, Full, NoPoint}
use Rattle.control_point.specs.declared.t_mesh_direction.TmeshDirection.{TmeshDirection}
use Rattle.control_point.specs.declared.t_mesh_direction.TmeshDirection.TheVariants.{Up, Right, Down, Left}
use Rattle.control_point.specs.declared.t_mesh_control_point.Side.{Side}
use Rattle.control_point.specs.declared.t_mesh_control_point.Side.TheVariants.{Link, Border, Opening}
use Rattle.control_point.specs.declared.t_mesh_control_point.TmeshControlPoint.{TmeshControlPoint}
use Rattle.store.specs.Store.{store_sides, store_point, with_point, with_side_at, with_new, linked, done, refused, settled, opened, weighted, coordinated, all_borders, make_loose, connect_points, remove_connection, remove_edge_condition, set_edge_con_weight, set_knot_coordinates, read_side, read_point, point_values, point_told}
use Rattle.store.proofs.StoreLaws.{side_read, sides_side, sides_opened_lem, sides_linked}
use Rattle.store.specs.Tables.{make_loose_table, connect_table, remove_connection_table, remove_edge_condition_table, set_edge_con_weight_table, set_knot_coordinates_table, read_side_table, read_point_table}
use Rattle.store.specs.declared.store.Store.{Store}

-- a refusal is not done
pub refused_not : {A : Type 0} (refusal : Refusal) → ◌≡◌ {A = Result ⊤ Refusal} (Err refusal) (Ok tt) → A
refused_not refusal h = let z : ◌≡◌ {A = ℕ} 0 1 = cc in absurd (omega arith)

-- a side that was set stands there
side_there : (store : Store) → length store.points ≡ 128 → (n : ℕ) → n < 128 → (d : TmeshDirection) (side : Side) → store_sides (with_side_at store n d side) n d ≡ side
side_there store room n h d side = ap (λ (sides : Sides). sides n d) (sides_side store room n h d side) ∙ simp (eq-eqb n n refl, same_self d)

-- ---- a point made alone
module _ (store : Store) (weight : Float) where
  loose_by : (free : Bool) → outcome_told (cond free (done (with_new store (loose_point weight))) (refused store Full)).outcome ≡ unless 10 free (tells [])
  loose_by true = refl
  loose_by false = refl

  pub loose_told : outcome_told (make_loose store weight).outcome ≡ make_loose_table store
  unfolding make_loose
  loose_told = loose_by (ltb store.made 128)

  -- the point of the next number: a border of that weight on each side, at (−1, −1)
  abbrev Loose : Store → Type 0
  Loose after =
      ((d : TmeshDirection) → store_sides after store.made d ≡ Border weight)
      × (((store_point after store.made).s ≡ minus_one) × ((store_point after store.made).t ≡ minus_one))

  four_borders : (d : TmeshDirection) → side_of (loose_point weight) d ≡ Border weight
  four_borders Up = refl
  four_borders Right = refl
  four_borders Down = refl
  four_borders Left = refl

  module _ (room : length store.points ≡ 128) where
    loose : store.made < 128 → Loose (with_new store (loose_point weight))
    loose h =
        let new : store_point (with_new store (loose_point weight)) store.made ≡ loose_point weight = get_or-set_same store.points store.made (loose_point weight) blank (omega arith) in (
          λ d. side_read (with_new store (loose_point weight)) store.made d h ∙ ap (λ (p : TmeshControlPoint). side_of p d) new ∙ four_borders d,
          (ap (λ (p : TmeshControlPoint). p.s) new, ap (λ (p : TmeshControlPoint). p.t) new),
        )

    pub loose_borders : (make_loose store weight).outcome ≡ Ok tt → Loose (make_loose store weight).store
    unfolding make_loose
    loose_borders = by_test (ltb store.made 128) refl
      where
        by_test : (free : Bool) → ltb store.made 128 ≡ free
            → (cond free (done (with_new store (loose_point weight))) (refused store Full)).outcome ≡ Ok tt
            → Loose (cond free (done (with_new store (loose_point weight))) (refused store Full)).store
        by_test true l h = loose (ltb-true store.made 128 l)
        by_test false l h = refused_not Full h

-- ---- connecting
module _ (store : Store) (first other : ℕ) (d : TmeshDirection) (interval : Float) where
  abbrev facing : Bool
  facing = is_opening (store_sides store first d) && is_opening (store_sides store other (flip_of d))

  abbrev asked : Bool → Bool → Bool → Bool → Result ⊤ Refusal
  asked a b same free = cond (a && b) (cond same (Err Itself) (cond free (Ok tt) (Err Taken))) (Err NoPoint)

  told_by : (a b same free : Bool) (new : Store) → outcome_told (settled (asked a b same free) new store).outcome ≡ unless 11 (a && b) (unless 7 (not same) (unless 5 free (tells [])))
  told_by true true true free new = refl
  told_by true true false true new = refl
  told_by true true false false new = refl
  told_by true false same free new = refl
  told_by false b same free new = refl

  pub connect_told : outcome_told (connect_points store first other d interval).outcome ≡ connect_table store first other d
  unfolding connect_points connectable
  connect_told = told_by (is_made store.made first) (is_made store.made other) (eqb first other) facing (linked store first other d interval)

  -- both sides are links of the other, with the interval
  abbrev Linked : Store → Type 0
  Linked after = (store_sides after first d ≡ Link other interval) × (store_sides after other (flip_of d) ≡ Link first interval)

  module _ (room : length store.points ≡ 128) where
    links : first < 128 → other < 128 → eqb first other ≡ false → Linked (linked store first other d interval)
    links h k apart =
        let same = sides_linked store room first other d interval h k (λ e. eqb-false first other apart (sym e)) in (
          ap (λ (sides : Sides). sides first d) same ∙ simp (apart, eq-eqb first first refl, same_self d),
          ap (λ (sides : Sides). sides other (flip_of d)) same ∙ simp (eq-eqb other other refl, same_self (flip_of d)),
        )

    pub connect_links : (connect_points store first other d interval).outcome ≡ Ok tt → Linked (connect_points store first other d interval).store
    unfolding connect_points connectable
    connect_links = by_tests (is_made store.made first) (is_made store.made other) (eqb first other) facing refl refl refl
      where
        by_tests : (a b same free : Bool) → is_made store.made first ≡ a → is_made store.made other ≡ b → eqb first other ≡ same
            → (settled (asked a b same free) (linked store first other d interval) store).outcome ≡ Ok tt
            → Linked (settled (asked a b same free) (linked store first other d interval) store).store
        by_tests true true true free x y s h = refused_not Itself h
        by_tests true true false true x y s h = links (is_made_room store.made first x) (is_made_room store.made other y) s
        by_tests true true false false x y s h = refused_not Taken h
        by_tests true false same free x y s h = refused_not NoPoint h
        by_tests false b same free x y s h = refused_not NoPoint h

-- ---- a connection opened
module _ (store : Store) (n : ℕ) (d : TmeshDirection) where
  opened_by_lem : (side : Side) (far : Bool) → is_made store.made (linked_of side) ≡ far → outcome_told (opened store n d side).outcome ≡ unless 3 (not (is_opening side)) (unless 11 (not (is_link side) || far) (tells []))
  opened_by_lem (Link m interval) true h = simp h
  opened_by_lem (Link m interval) false h = simp h
  opened_by_lem (Border weight) far h = refl
  opened_by_lem Opening far h = refl

  removed_by : (made : Bool) (side : Side) → outcome_told (cond made (opened store n d side) (refused store NoPoint)).outcome
      ≡ unless 11 made (unless 3 (not (is_opening side)) (unless 11 (not (is_link side) || is_made store.made (linked_of side)) (tells [])))
  removed_by true side = opened_by_lem side (is_made store.made (linked_of side)) refl
  removed_by false side = refl

  pub removed_told : outcome_told (remove_connection store n d).outcome ≡ remove_connection_table store n d
  unfolding remove_connection
  removed_told = removed_by (is_made store.made n) (side_of (store_point store n) d)

  -- the side is an opening, and where it was a link the facing side of the other point is one too
  abbrev Opened : Store → Type 0
  Opened after =
      (store_sides after n d ≡ Opening) × ((m : ℕ) (interval : Float) → store_sides store n d ≡ Link m interval → store_sides after m (flip_of d) ≡ Opening)

  open_twice : (b : Bool) → cond b Opening Opening ≡ Opening
  open_twice true = refl
  open_twice false = refl

  module _ (room : length store.points ≡ 128) where
    both_ends : (m : ℕ) (interval : Float) → n < 128 → m < 128 → store_sides store n d ≡ Link m interval
        → Opened (with_side_at (with_side_at store n d Opening) m (flip_of d) Opening)
    both_ends m interval h k e =
        let same = sides_opened_lem store room n m d h k in (
          ap (λ (sides : Sides). sides n d) same ∙ simp (eq-eqb n n refl, same_self d) (open_twice (eqb n m && same_direction d (flip_of d))),
          λ other stretch there.
              ap (λ (k : ℕ). store_sides (with_side_at (with_side_at store n d Opening) m (flip_of d) Opening) k (flip_of d)) (ap linked_of (sym there ∙ e))
              ∙ ap (λ (sides : Sides). sides m (flip_of d)) same
              ∙ simp (eq-eqb m m refl, same_self (flip_of d)),
        )

    pub removed_opens : (remove_connection store n d).outcome ≡ Ok tt → Opened (remove_connection store n d).store
    unfolding remove_connection
    removed_opens = by_tests (is_made store.made n) (side_of (store_point store n) d) refl refl
      where
        linked_on : (m : ℕ) (interval : Float) (far : Bool) → is_made store.made m ≡ far → n < 128 → store_sides store n d ≡ Link m interval
            → (cond far (done (with_side_at (with_side_at store n d Opening) m (flip_of d) Opening)) (refused store NoPoint)).outcome ≡ Ok tt
            → Opened (cond far (done (with_side_at (with_side_at store n d Opening) m (flip_of d) Opening)) (refused store NoPoint)).store
        linked_on m interval true f l e h = both_ends m interval l (is_made_room store.made m f) e
        linked_on m interval false f l e h = refused_not NoPoint h

        by_tests : (made : Bool) (side : Side) → is_made store.made n ≡ made → side_of (store_point store n) d ≡ side
            → (cond made (opened store n d side) (refused store NoPoint)).outcome ≡ Ok tt
            → Opened (cond made (opened store n d side) (refused store NoPoint)).store
        by_tests true (Link m interval) x e h =
            let l = is_made_room store.made n x in
            linked_on m interval (is_made store.made m) refl l (side_read store n d l ∙ e) h
        by_tests true (Border weight) x e h =
            let l = is_made_room store.made n x in
            (side_there store room n l d Opening, λ m interval there. absurd (false≢true (sym (ap is_link (side_read store n d l ∙ e)) ∙ ap is_link there)))
        by_tests true Opening x e h = refused_not OpenSide h
        by_tests false side x e h = refused_not NoPoint h

-- ---- a border opened
-- a call on one point with one test, which is refused 5 where the test fails
taken_by : (new old : Store) (made test : Bool) → outcome_told (cond made (cond test (done new) (refused old Taken)) (refused old NoPoint)).outcome ≡ unless 11 made (unless 5 test (tells []))
taken_by new old true true = refl
taken_by new old true false = refl
taken_by new old false test = refl

module _ (store : Store) (n : ℕ) (d : TmeshDirection) where
  pub edge_told : outcome_told (remove_edge_condition store n d).outcome ≡ remove_edge_condition_table store n d
  unfolding remove_edge_condition
  edge_told = taken_by (with_side_at store n d Opening) store (is_made store.made n) (is_border (side_of (store_point store n) d))

  pub edge_opens : length store.points ≡ 128 → (remove_edge_condition store n d).outcome ≡ Ok tt → store_sides (remove_edge_condition store n d).store n d ≡ Opening
  unfolding remove_edge_condition
  edge_opens room = by_tests (is_made store.made n) (is_border (side_of (store_point store n) d)) refl
    where
      by_tests : (made border : Bool) → is_made store.made n ≡ made
          → (cond made (cond border (done (with_side_at store n d Opening)) (refused store Taken)) (refused store NoPoint)).outcome ≡ Ok tt
          → store_sides (cond made (cond border (done (with_side_at store n d Opening)) (refused store Taken)) (refused store NoPoint)).store n d ≡ Opening
      by_tests true true x h = side_there store room n (is_made_room store.made n x) d Opening
      by_tests true false x h = refused_not Taken h
      by_tests false border x h = refused_not NoPoint h

-- ---- a border's weight
module _ (store : Store) (n : ℕ) (d : TmeshDirection) (weight : Float) where
  weight_by_lem : (made : Bool) (side : Side) → outcome_told (cond made (weighted store n d weight side) (refused store NoPoint)).outcome ≡ unless 11 made (unless 5 (not (is_link side)) (unless 3 (not (is_opening side)) (tells [])))
  weight_by_lem true (Link m interval) = refl
  weight_by_lem true (Border old) = refl
  weight_by_lem true Opening = refl
  weight_by_lem false side = refl

  pub weight_told : outcome_told (set_edge_con_weight store n d weight).outcome ≡ set_edge_con_weight_table store n d
  unfolding set_edge_con_weight
  weight_told = weight_by_lem (is_made store.made n) (side_of (store_point store n) d)

  pub weight_border : length store.points ≡ 128 → (set_edge_con_weight store n d weight).outcome ≡ Ok tt → store_sides (set_edge_con_weight store n d weight).store n d ≡ Border weight
  unfolding set_edge_con_weight
  weight_border room = by_tests (is_made store.made n) (side_of (store_point store n) d) refl
    where
      by_tests : (made : Bool) (side : Side) → is_made store.made n ≡ made
          → (cond made (weighted store n d weight side) (refused store NoPoint)).outcome ≡ Ok tt
          → store_sides (cond made (weighted store n d weight side) (refused store NoPoint)).store n d ≡ Border weight
      by_tests true (Border old) m h = side_there store room n (is_made_room store.made n m) d (Border weight)
      by_tests true (Link k interval) m h = refused_not Taken h
      by_tests true Opening m h = refused_not _ h
      by_tests false side m h = refused_not NoPoint h

-- ---- coordinates
module _ (store : Store) (n : ℕ) (s t : Float) where
  pub coordinates_told : outcome_told (set_knot_coordinates store n s t).outcome ≡ set_knot_coordinates_table store n
  unfolding set_knot_coordinates
  coordinates_told = taken_by (with_point store n (coordinated (store_point store n) s t)) store (is_made store.made n) (all_borders (store_point store n))

-- ---- reading
pub side_told_lem : (store : Store) (n : ℕ) (d : TmeshDirection) → side_told (read_side store n d) ≡ read_side_table store n d
side_told_lem store n d = by_test (is_made store.made n)
  where
    by_test : (made : Bool) → side_told (cond made (Ok (store_sides store n d)) (Err NoPoint)) ≡ unless 11 made (tells (sideValue (store_sides store n d) ∷ []))
    by_test true = refl
    by_test false = refl

pub point_told_lem : (store : Store) (n : ℕ) → point_told (read_point store n) ≡ read_point_table store n
point_told_lem store n = by_test (is_made store.made n)
  where
    by_test : (made : Bool) → point_told (cond made (Ok (store_point store n)) (Err NoPoint)) ≡ unless 11 made (tells (point_values (store_point store n)))
    by_test true = refl
    by_test false = refl
