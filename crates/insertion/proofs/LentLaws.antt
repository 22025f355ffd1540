-- Laws of insertion into lent points: they hold the store's points as p is placed and gets its sides, and what is read of them is what the store says.
use Rattle.std.specs.Prelude.{ℕ, ◌<◌, ◌+◌, ◌≡◌, Bool, true, List, Float, length, Err, Ok, Result}
use Rattle.std.proofs.Math.Path.{refl, ap, subst}
use Rattle.std.proofs.Common.{sym, ◌∙◌, arith}
use Rattle.std.specs.Float.Ieee.{binary64, mul, sub}
use Rattle.float64.specs.Literals.{one_literal}
use Rattle.control_point.specs.Direction.{clockwise_of, anti_clockwise_of, flip_of}
use Rattle.control_point.specs.Point.{is_made}
use Rattle.control_point.proofs.PointLaws.{is_made_made, is_made_room, made_is_made}
use Rattle.control_point.specs.Sides.{Sides, sides_with}
use Rattle.control_point.proofs.SidesLaws.{Agree, agree_with}
use Rattle.control_point.specs.declared.refusal.Refusal.{Refusal}
use Rattle.control_point.specs.declared.t_mesh_control_point.Side.TheVariants.{Border, Opening}
use Rattle.control_point.specs.declared.t_mesh_control_point.TmeshControlPoint.{TmeshControlPoint}
use Rattle.control_point.specs.declared.t_mesh_direction.TmeshDirection.{TmeshDirection}
use Rattle.lent_points.specs.Lent.{Points, points_with_side, points_from, Held}
use Rattle.lent_points.proofs.LentLaws.{held_new, held_side, held_linked, held_agree}
use Rattle.search.proofs.SearchLaws.{found_agrees}
use Rattle.store.specs.Store.{store_sides, with_side_at}
use Rattle.store.specs.declared.store.Changed.{Changed}
use Rattle.store.specs.declared.store.Store.{Store}
use Rattle.insertion.specs.Insert.{cut, point_in_line, parted, placed, new_side, with_new_side, unless_torn, answer_of, first_side, with_first, second_side, sided, checked_link, insert_point}
use Rattle.insertion.proofs.InsertLaws.{MayJoin, connectable_other, joined_linked, first_joins, room_first, made_first, made_new_side, second_joins, room_placed, placed_linked, checked_agrees, checked_passes, checked_call, insert_passed, insert_refused}
use Rattle.insertion.specs.Lent.{points_parted, points_placed, points_with_new, Inserts}
use Rattle.insertion.specs.declared.insertion.NewSide.{NewSide}
use Rattle.insertion.specs.declared.insertion.NewSide.TheVariants.{Takes, Joins, Opens, Tears, Stays}
use Rattle.insertion.specs.declared.insertion.Inserted.{Inserted}
use Rattle.insertion.specs.declared.insertion.Insertion.{Insertion}
use Rattle.control_point.specs.declared.t_mesh_control_point.LinkEnd.{LinkEnd}

-- ---- a new side, asked of sides that agree on all made numbers
pub new_agrees : (e : Float) (made con p : ℕ) → is_made made con ≡ true → (sides others : Sides) → Agree made sides others → (f : TmeshDirection) → new_side e sides made con p f ≡ new_side e others made con p f
unfolding new_side
new_agrees e made con p hc sides others agree f =
    rw (agree con f hc, found_agrees e made (sides_with sides p f Opening) (sides_with others p f Opening) (agree_with made sides others p f Opening agree) p f)

-- ---- p placed
module _ {points : Points} {rest : List TmeshControlPoint} (store : Store) (held : Held points rest store) (con other : ℕ) (hc : is_made store.made con ≡ true) (ho : is_made store.made other ≡ true) (roomy : store.made < 128) (d : TmeshDirection) where
  one_more : (n : ℕ) → n < store.made + 1 → is_made (store.made + 1) n ≡ true
  one_more n k = made_is_made (store.made + 1) n (omega (arith, roomy)) k

  of_old : (n : ℕ) → is_made store.made n ≡ true → is_made (store.made + 1) n ≡ true
  of_old n h = one_more n (omega (arith, is_made_made store.made n h))

  held_parted : Held (points_parted points con other store.made d) rest (parted store con other d)
  held_parted =
      held_new (cut store con other d)
      (held_side (with_side_at store con d Opening) (held_side store held con hc d Opening) other ho (flip_of d) Opening)
      roomy (point_in_line d)

  held_placed : (interval ratio : Float) → Held (points_placed points con other store.made d interval ratio) rest (placed store con other d interval ratio)
  unfolding points_placed
  held_placed interval ratio =
      rw (placed_linked store held.room roomy con other hc ho d interval ratio)
      (held_linked _
      (held_linked (parted store con other d) held_parted con store.made (of_old con hc) (one_more store.made (omega arith)) d (mul binary64 interval ratio))
      store.made other (one_more store.made (omega arith)) (of_old other ho) d (mul binary64 interval (sub binary64 one_literal ratio)))

-- ---- a side of p across
module _ {points : Points} {rest : List TmeshControlPoint} (store : Store) (held : Held points rest store) (p : ℕ) (hp : is_made store.made p ≡ true) (f : TmeshDirection) where
  opened : Held (points_with_side points p f Opening) rest (with_side_at store p f Opening)
  opened = held_side store held p hp f Opening

  held_new_side : (side : NewSide) → MayJoin (store_sides store) store.made p f side → Held (points_with_new points p f side) rest (with_new_side store p f side)
  held_new_side (Takes weight) j = held_side store held p hp f (Border weight)
  held_new_side (Joins n interval) j =
      subst (λ (c : Changed). Held (points_with_new points p f (Joins n interval)) rest c.store)
      (sym (joined_linked store held.room p (is_made_room store.made p hp) f n interval j))
      (held_linked (with_side_at store p f Opening) opened p n hp (connectable_other _ store.made p n f j).0 f interval)
  held_new_side Opens j = opened
  held_new_side Tears j = opened
  held_new_side Stays j = held

-- ---- the call, refused
module _ (e ratio : Float) (listed : Bool) (con : ℕ) (d : TmeshDirection) (sides : Sides) (coordinates : List Float) where
  abbrev points : Points
  points = points_from sides coordinates

  -- the checks are those of the store
  checked_held : (rest : List TmeshControlPoint) (store : Store) → Held points rest store → checked_link e ratio listed sides store.made con d ≡ checked_link e ratio listed (store_sides store) store.made con d
  checked_held rest store held = checked_agrees store.made sides (store_sides store) (held_agree sides coordinates rest store held) e ratio listed con d

  pub inserts_refused : (made : ℕ) (refusal : Refusal) (answer : Result Insertion Refusal) → checked_link e ratio listed sides made con d ≡ Err refusal → answer ≡ Err refusal
      → Inserts e points made listed con d ratio answer points
  inserts_refused made refusal answer refused answered rest store held is =
      let same =
      insert_refused e store listed con d ratio refusal
      (sym (checked_held rest store held) ∙ ap (λ (m : ℕ). checked_link e ratio listed sides m con d) is ∙ refused) in
      (answered ∙ ap (λ (x : Inserted). x.answer) (sym same), subst (λ (x : Inserted). Held points rest x.store) (sym same) held)

-- ---- the call, passed: p placed, its first side, and its second, unless the first was torn
pub record Crossed (e : Float) (points : Points) (made con other : ℕ) (d : TmeshDirection) (interval ratio : Float) (first second : NewSide) (after : Points) : Type 0 where
  pub placed_sides : Sides
  pub placed_coordinates : List Float
  pub is_placed : points_from placed_sides placed_coordinates ≡ points_placed points con other made d interval ratio
  pub first_is : first ≡ new_side e placed_sides (made + 1) con made (clockwise_of d)
  pub crossed_sides : Sides
  pub crossed_coordinates : List Float
  pub is_crossed : points_from crossed_sides crossed_coordinates ≡ points_with_new (points_from placed_sides placed_coordinates) made (clockwise_of d) first
  pub second_is : second ≡ unless_torn first (new_side e crossed_sides (made + 1) con made (anti_clockwise_of d))
  pub after_is : after ≡ points_with_new (points_from crossed_sides crossed_coordinates) made (anti_clockwise_of d) second

module _ (e : Float) (points after : Points) (rest : List TmeshControlPoint) (store : Store) (held : Held points rest store) (con other : ℕ) (hc : is_made store.made con ≡ true) (ho : is_made store.made other ≡ true) (roomy : store.made < 128)
    (d : TmeshDirection) (interval ratio : Float) (first second : NewSide) (crossed : Crossed e points store.made con other d interval ratio first second after) where
  abbrev p : ℕ
  p = store.made

  abbrev before : Store
  before = placed store con other d interval ratio

  made_placed : before.made ≡ p + 1
  made_placed = ap (λ (s : Store). s.made) (placed_linked store held.room roomy con other hc ho d interval ratio)

  now_made : (n : ℕ) → n < p + 1 → is_made before.made n ≡ true
  now_made n k = ap (λ (m : ℕ). is_made m n) made_placed ∙ made_is_made (p + 1) n (omega (arith, roomy)) k

  con_made : is_made before.made con ≡ true
  con_made = now_made con (omega (arith, is_made_made p con hc))

  -- a new side of lent points that hold a store in which so many points are made is the store's
  asked : (sides : Sides) (coordinates : List Float) (s : Store) → Held (points_from sides coordinates) rest s → s.made ≡ before.made → (f : TmeshDirection)
      → new_side e sides (p + 1) con p f ≡ new_side e (store_sides s) before.made con p f
  asked sides coordinates s h same f =
      ap (λ (m : ℕ). new_side e sides m con p f) (sym made_placed)
      ∙ new_agrees e before.made con p con_made sides (store_sides s) (subst (λ (m : ℕ). Agree m sides (store_sides s)) same (held_agree sides coordinates rest s h)) f

  held_before : Held (points_from crossed.placed_sides crossed.placed_coordinates) rest before
  held_before = subst (λ (ps : Points). Held ps rest before) (sym crossed.is_placed) (held_placed store held con other hc ho roomy d interval ratio)

  first_same : first ≡ first_side e before con p d
  unfolding first_side
  first_same = crossed.first_is ∙ asked crossed.placed_sides crossed.placed_coordinates before held_before refl (clockwise_of d)

  abbrev half : Store
  half = with_first e before con p d

  held_half : Held (points_from crossed.crossed_sides crossed.crossed_coordinates) rest half
  unfolding with_first
  held_half =
      subst (λ (ps : Points). Held ps rest (with_new_side before p (clockwise_of d) (first_side e before con p d)))
      (sym (crossed.is_crossed ∙ ap (points_with_new (points_from crossed.placed_sides crossed.placed_coordinates) p (clockwise_of d)) first_same))
      (held_new_side before held_before p (now_made p (omega arith)) (clockwise_of d) (first_side e before con p d) (first_joins e before held_before.room con p roomy d))

  made_half : half.made ≡ before.made
  made_half = made_first e before held_before.room con p roomy d

  second_same : second ≡ second_side e before con p d
  unfolding second_side
  second_same =
      crossed.second_is
      ∙ ap (unless_torn first) (asked crossed.crossed_sides crossed.crossed_coordinates half held_half made_half (anti_clockwise_of d))
      ∙ ap (λ (side : NewSide). unless_torn side (new_side e (store_sides half) before.made con p (anti_clockwise_of d))) first_same

  sided_held : (answer_of first second ≡ (sided e before con p d).answer) × Held after rest (sided e before con p d).store
  unfolding sided
  sided_held = (
    ap (λ (side : NewSide). answer_of side second) first_same ∙ ap (answer_of (first_side e before con p d)) second_same,
    subst (λ (ps : Points). Held ps rest (with_new_side half p (anti_clockwise_of d) (second_side e before con p d)))
        (sym (crossed.after_is ∙ ap (points_with_new (points_from crossed.crossed_sides crossed.crossed_coordinates) p (anti_clockwise_of d)) second_same))
        (held_new_side half held_half p (ap (λ (m : ℕ). is_made m p) made_half ∙ now_made p (omega arith)) (anti_clockwise_of d) (second_side e before con p d) (second_joins e before held_before.room con p roomy d)),
  )

pub inserts_passed : (e ratio : Float) (listed : Bool) (con : ℕ) (end : LinkEnd) (d : TmeshDirection) (sides : Sides) (coordinates : List Float) (made : ℕ) (first second : NewSide) (after : Points)
    → checked_link e ratio listed sides made con d ≡ Ok end
    → Crossed e (points_from sides coordinates) made con end.point d end.interval ratio first second after
    → Inserts e (points_from sides coordinates) made listed con d ratio (answer_of first second) after
inserts_passed e ratio listed con end d sides coordinates made first second after passes crossed rest store held is =
    let passes-here : checked_link e ratio listed sides store.made con d ≡ Ok end = ap (λ (m : ℕ). checked_link e ratio listed sides m con d) is ∙ passes in
    let w = checked_passes e ratio listed store.made con end sides d passes-here in
    let crossed-here = subst (λ (m : ℕ). Crossed e (points_from sides coordinates) m con end.point d end.interval ratio first second after) (sym is) crossed in
    let same = insert_passed e store listed con d ratio end (sym (checked_held e ratio listed con d sides coordinates rest store held) ∙ passes-here) in
    let s = sided_held e (points_from sides coordinates) after rest store held con end.point w.con_made w.other_made w.roomy d end.interval ratio first second crossed-here in
    (s.0 ∙ ap (λ (x : Inserted). x.answer) (sym same), subst (λ (x : Inserted). Held after rest x.store) (sym same) s.1)

-- ---- not refused, one point more is made, for which there was room
sided_made : (e : Float) (store : Store) → length store.points ≡ 128 → (con p : ℕ) → p < 128 → (d : TmeshDirection) → (sided e store con p d).store.made ≡ store.made
unfolding sided
sided_made e store room con p h d =
    made_new_side (with_first e store con p d) (room_first e store room con p h d) p h (anti_clockwise_of d) (second_side e store con p d) (second_joins e store room con p h d)
    ∙ made_first e store room con p h d

pub inserted_made : (e : Float) (store : Store) → length store.points ≡ 128 → (listed : Bool) (con : ℕ) (d : TmeshDirection) (ratio : Float)
    → ((refusal : Refusal) → (insert_point e store listed con d ratio).answer ≡ Err refusal → ⊥)
    → (store.made < 128) × ((insert_point e store listed con d ratio).store.made ≡ store.made + 1)
inserted_made e store room listed con d ratio stands = by_checks (checked_call e store listed con d ratio) refl
  where
    by_checks : (c : Result LinkEnd Refusal) → checked_call e store listed con d ratio ≡ c → (store.made < 128) × ((insert_point e store listed con d ratio).store.made ≡ store.made + 1)
    by_checks (Err refusal) h = absurd (stands refusal (ap (λ (x : Inserted). x.answer) (insert_refused e store listed con d ratio refusal h)))
    by_checks (Ok end) h =
        let w = checked_passes e ratio listed store.made con end (store_sides store) d h in
        let same = placed_linked store room w.roomy con end.point w.con_made w.other_made d end.interval ratio in (
          w.roomy,
          ap (λ (x : Inserted). x.store.made) (insert_passed e store listed con d ratio end h)
              ∙ sided_made e (placed store con end.point d end.interval ratio) (room_placed store room w.roomy con end.point w.con_made w.other_made d end.interval ratio) con store.made w.roomy d
              ∙ ap (λ (s : Store). s.made) same,
        )
