-- Laws of mirrored links. One law of change says when they stay mirrored; that a store stays sound with one point more, with two
-- points linked, with a link cut and with a border changed are its instances.
use Rattle.std.specs.Prelude.{ℕ, ◌<◌, ◌≤◌, ◌+◌, ◌≡◌, refl, Bool, true, false, cond, ◌&&◌, ◌||◌, List, eqb, Float, length, Ok, Result, ⊤}
use Rattle.std.proofs.Common.{sym, ap, ◌∙◌, subst, arith, length-set}
use borrow.Author.Tests.{eqb-true, eqb-false, eq-eqb, ne_eqb}
use Rattle.control_point.specs.Connect.{connectable}
use Rattle.control_point.specs.Direction.{flip_of, same_direction}
use Rattle.control_point.proofs.DirectionLaws.{flip_flip, same_self, same_true}
use Rattle.control_point.specs.Point.{side_of, with_side, is_link, is_opening, is_made}
use Rattle.control_point.proofs.PointLaws.{is_made_made, made_is_made}
use Rattle.control_point.specs.Sides.{Sides, sides_of, sides_with, sides_with_point}
use Rattle.control_point.specs.declared.refusal.Refusal.TheVariants.{NoPoint, Itself, Taken}
use Rattle.control_point.specs.declared.t_mesh_direction.TmeshDirection.{TmeshDirection}
use Rattle.control_point.specs.declared.t_mesh_control_point.Side.{Side}
use Rattle.control_point.specs.declared.t_mesh_control_point.Side.TheVariants.{Link, Border, Opening}
use Rattle.control_point.specs.declared.t_mesh_control_point.TmeshControlPoint.{TmeshControlPoint}
use Rattle.store.proofs.TablesLaws.{refused_not}
use Rattle.store.specs.Store.{store_sides, store_point, with_point, with_side_at, with_new, linked}
use Rattle.store.specs.declared.store.Store.{Store}
use Rattle.counting.proofs.BoolLaws.{both_ways, cond_case, and_both, or_case, or_none}
use Rattle.mirror.specs.Mirror.{MirrorOf, Mirrored, Sound, Joining}
use Rattle.store.proofs.StoreLaws.{side_read, room_kept, sides_new, sides_point, sides_side, sides_linked}
use Rattle.control_point.specs.declared.refusal.Refusal.{Refusal}

-- ---- what a side is
-- a link passes the test for links
pub no_link : {A : Type 0} (side : Side) (m : ℕ) (interval : Float) → is_link side ≡ false → side ≡ Link m interval → A
no_link side m interval h e = both_ways (is_link side) (ap is_link e) h

pub opening_is : (side : Side) → is_opening side ≡ true → side ≡ Opening
opening_is (Link m interval) h = both_ways false h refl
opening_is (Border weight) h = both_ways false h refl
opening_is Opening h = refl

-- ---- the law of change: sides may change wherever, with a link among them, its mirror is among them too
module _ (made after : ℕ) (old new : Sides) (touched : ℕ → TmeshDirection → Bool)
    (grows : made ≤ after)
    (mirrored : Mirrored made old)
    (closed : (n : ℕ) (d : TmeshDirection) (m : ℕ) (interval : Float) → n < made → touched n d ≡ true → old n d ≡ Link m interval
    → touched m (flip_of d) ≡ true)
    (rest : (n : ℕ) (d : TmeshDirection) → n < after → touched n d ≡ false → (n < made) × (new n d ≡ old n d))
    (facing : (n : ℕ) (d : TmeshDirection) (m : ℕ) (interval : Float) → n < after → touched n d ≡ true → new n d ≡ Link m interval
    → MirrorOf after new n d m interval)
  where
    pub mirrored_change : Mirrored after new
    mirrored_change n d m interval h e = by_test (touched n d) refl
      where
        back : touched n d ≡ false → MirrorOf made old n d m interval → (b : Bool) → touched m (flip_of d) ≡ b
            → new m (flip_of d) ≡ Link n interval
        back c mirror true x =
            both_ways (touched n d) (rw (flip_flip d) at (closed m (flip_of d) n interval mirror.leads x mirror.faces)) c
        back c mirror false x = (rest m (flip_of d) (let l = mirror.leads in omega arith) x).1 ∙ mirror.faces

        stays : touched n d ≡ false → MirrorOf made old n d m interval → MirrorOf after new n d m interval
        stays c mirror =
            record {
              leads = let l = mirror.leads in omega arith;
              apart = mirror.apart;
              faces = back c mirror (touched m (flip_of d)) refl;
            }

        by_test : (b : Bool) → touched n d ≡ b → MirrorOf after new n d m interval
        by_test true c = facing n d m interval h c e
        by_test false c = let r = rest n d h c in stays c (mirrored n d m interval r.0 (sym r.1 ∙ e))

-- one point more, without links
pub mirrored_new : (made : ℕ) (sides : Sides) (p : TmeshControlPoint) → Mirrored made sides → ((d : TmeshDirection) → is_link (side_of p d) ≡ false)
    → Mirrored (made + 1) (sides_with_point sides made p)
mirrored_new made sides p mirrored none =
    mirrored_change made (made + 1) sides (sides_with_point sides made p) (λ n d. eqb n made) (omega arith) mirrored
    (λ n d m interval h c x. let i = eqb-true n made c in absurd (omega arith))
    (λ n d h c. let i = eqb-false n made c in (omega arith, rw c))
    (λ n d m interval h c x. no_link (side_of p d) m interval (none d) (rw c at x))

-- whether a side is the one named
abbrev is_side : ℕ → TmeshDirection → ℕ → TmeshDirection → Bool
is_side n d m e = eqb m n && same_direction e d

side_self : (n : ℕ) (d : TmeshDirection) → is_side n d n d ≡ true
side_self n d = rw (eq-eqb n n refl, same_self d)

side_is : (n : ℕ) (d : TmeshDirection) (m : ℕ) (e : TmeshDirection) → is_side n d m e ≡ true → (m ≡ n) × (e ≡ d)
side_is n d m e h = let b = and_both (eqb m n) (same_direction e d) h in (eqb-true m n b.0, same_true e d b.1)

-- one side that is no link and stays none
pub mirrored_side : (made : ℕ) (sides : Sides) (n : ℕ) (d : TmeshDirection) (side : Side) → Mirrored made sides
    → is_link (sides n d) ≡ false → is_link side ≡ false → Mirrored made (sides_with sides n d side)
mirrored_side made sides n d side mirrored before now =
    mirrored_change made made sides (sides_with sides n d side) (is_side n d) (omega arith) mirrored
    (λ m e l interval h c x. let i = side_is n d m e c in no_link (sides n d) l interval before (rw (i.0, i.1) at x))
    (λ m e h c. (h, rw c))
    (λ m e l interval h c x. no_link side l interval now (rw c at x))

-- two facing sides, linked with one another or not at all, before and after
module _ (made : ℕ) (sides : Sides) (first other : ℕ) (d : TmeshDirection) (side facing : Side)
    (first_made : first < made) (other_made : other < made) (apart : first ≡ other → ⊥)
    (before : (m : ℕ) (interval : Float) → sides first d ≡ Link m interval → m ≡ other)
    (before-facing : (m : ℕ) (interval : Float) → sides other (flip_of d) ≡ Link m interval → m ≡ first)
    (joined : (m : ℕ) (interval : Float) → side ≡ Link m interval → (m ≡ other) × (facing ≡ Link first interval))
    (joined-facing : (m : ℕ) (interval : Float) → facing ≡ Link m interval → (m ≡ first) × (side ≡ Link other interval))
  where
    abbrev two : Sides
    two = sides_with (sides_with sides first d side) other (flip_of d) facing

    abbrev either_side : ℕ → TmeshDirection → Bool
    either_side n e = is_side first d n e || is_side other (flip_of d) n e

    two_first : two first d ≡ side
    two_first = rw (ne_eqb first other apart, side_self first d)

    two_other : two other (flip_of d) ≡ facing
    two_other = rw (side_self other (flip_of d))

    either_first : either_side first d ≡ true
    either_first = rw (side_self first d)

    either_other : either_side other (flip_of d) ≡ true
    either_other = rw (ne_eqb other first (λ x. apart (sym x)), side_self other (flip_of d))

    closed : (n : ℕ) (e : TmeshDirection) (m : ℕ) (interval : Float) → n < made → either_side n e ≡ true → sides n e ≡ Link m interval
        → either_side m (flip_of e) ≡ true
    closed n e m interval h c x =
        or_case (is_side first d n e) (is_side other (flip_of d) n e) c
        (λ s. let i = side_is first d n e s in rw (i.1, before m interval (rw (i.0, i.1) at x)) either_other)
        (λ s.
        let i = side_is other (flip_of d) n e s in
        rw (i.1, before-facing m interval (rw (i.0, i.1) at x), flip_flip d) either_first)

    rest : (n : ℕ) (e : TmeshDirection) → n < made → either_side n e ≡ false → (n < made) × (two n e ≡ sides n e)
    rest n e h c = let o = or_none (is_side first d n e) (is_side other (flip_of d) n e) c in (h, rw (o.1, o.0))

    faces_first : (m : ℕ) (interval : Float) → two first d ≡ Link m interval → MirrorOf made two first d m interval
    faces_first m interval x =
        let j = joined m interval (sym two_first ∙ x) in
        rw j.0 (record { leads = other_made; apart = λ y. apart (sym y); faces = two_other ∙ j.1 })

    faces_other : (m : ℕ) (interval : Float) → two other (flip_of d) ≡ Link m interval → MirrorOf made two other (flip_of d) m interval
    faces_other m interval x =
        let j = joined-facing m interval (sym two_other ∙ x) in
        rw j.0 (record { leads = first_made; apart = apart; faces = ap (two first) (flip_flip d) ∙ two_first ∙ j.1 })

    faces : (n : ℕ) (e : TmeshDirection) (m : ℕ) (interval : Float) → n < made → either_side n e ≡ true → two n e ≡ Link m interval
        → MirrorOf made two n e m interval
    faces n e m interval h c x =
        or_case (is_side first d n e) (is_side other (flip_of d) n e) c
        (λ s. let i = side_is first d n e s in rw (i.0, i.1) (faces_first m interval (rw (i.0, i.1) at x)))
        (λ s. let i = side_is other (flip_of d) n e s in rw (i.0, i.1) (faces_other m interval (rw (i.0, i.1) at x)))

    pub mirrored_two : Mirrored made sides → Mirrored made two
    mirrored_two mirrored = mirrored_change made made sides two either_side (omega arith) mirrored closed rest faces

-- ---- connecting is done just where the two sides may be joined
module _ (made : ℕ) (sides : Sides) (first other : ℕ) (d : TmeshDirection) where
  pub joining_done : made ≤ 128 → Joining made sides first other d → connectable sides made first other d ≡ Ok tt
  unfolding connectable
  joining_done fits j =
      rw (made_is_made made first fits j.first_made, made_is_made made other fits j.other_made, ne_eqb first other j.apart, j.first_open, j.other_open)

  pub done_joining : connectable sides made first other d ≡ Ok tt → Joining made sides first other d
  unfolding connectable
  done_joining =
      cond_case (is_made made first && is_made made other) P _ _
      (λ m.
      cond_case (eqb first other) P _ _ (λ s. refused_not Itself)
      (λ s. cond_case (is_opening (sides first d) && is_opening (sides other (flip_of d))) P _ _ (λ o h. joining m s o) (λ o. refused_not Taken)))
      (λ m. refused_not NoPoint)
    where
      P : Result ⊤ Refusal → Type 0
      P outcome = outcome ≡ Ok tt → Joining made sides first other d

      joining : (is_made made first && is_made made other) ≡ true → eqb first other ≡ false
          → (is_opening (sides first d) && is_opening (sides other (flip_of d))) ≡ true → Joining made sides first other d
      joining m s o =
          let both-made = and_both (is_made made first) (is_made made other) m in
          let both-open = and_both (is_opening (sides first d)) (is_opening (sides other (flip_of d))) o in
          record {
            first_made = is_made_made made first both-made.0;
            other_made = is_made_made made other both-made.1;
            apart = eqb-false first other s;
            first_open = opening_is (sides first d) both-open.0;
            other_open = opening_is (sides other (flip_of d)) both-open.1;
          }

-- ---- a sound store stays sound
-- the sides with those of a point that has the sides of the point there
module _ (sides : Sides) (n : ℕ) (p : TmeshControlPoint) (same : (d : TmeshDirection) → side_of p d ≡ sides n d) where
  same_by : (m : ℕ) (d : TmeshDirection) (b : Bool) → eqb m n ≡ b → cond b (side_of p d) (sides m d) ≡ sides m d
  same_by m d true h = rw (eqb-true m n h) (same d)
  same_by m d false h = refl

  point_same : sides_with_point sides n p ≡ sides
  point_same = λ i m d. same_by m d (eqb m n) refl i

module _ (store : Store) (sound : Sound store) where
  -- a made number has room
  made_room : (n : ℕ) → n < store.made → n < 128
  made_room n h = let f = sound.fits in omega arith

  -- with other points, as many of them made
  sound_points : (points : List TmeshControlPoint) (sides : Sides) → length points ≡ 128 → sides_of points ≡ sides → Mirrored store.made sides
      → Sound (record { points = points; made = store.made })
  sound_points points sides room e mirrored =
      record { room = room; fits = sound.fits; mirrored = subst (Mirrored store.made) (sym e) mirrored }

  -- with one point more, without links
  pub sound_new : (p : TmeshControlPoint) → store.made < 128 → ((d : TmeshDirection) → is_link (side_of p d) ≡ false) → Sound (with_new store p)
  sound_new p h none =
      record {
        room = length-set store.points store.made p ∙ sound.room;
        fits = omega arith;
        mirrored =
            subst (Mirrored (store.made + 1)) (sym (sides_new store sound.room p h))
            (mirrored_new store.made (store_sides store) p sound.mirrored none);
      }

  -- with another point of the same sides
  pub sound_point : (n : ℕ) (p : TmeshControlPoint) → n < 128 → ((d : TmeshDirection) → side_of p d ≡ side_of (store_point store n) d)
      → Sound (with_point store n p)
  sound_point n p h same =
      sound_points _ (store_sides store)
      (room_kept store sound.room n p)
      (sides_point store sound.room n h p ∙ point_same (store_sides store) n p (λ d. same d ∙ sym (side_read store n d h)))
      sound.mirrored

  -- with another side that is no link, where none was
  pub sound_side : (n : ℕ) (d : TmeshDirection) (side : Side) → n < store.made → is_link (store_sides store n d) ≡ false → is_link side ≡ false
      → Sound (with_side_at store n d side)
  sound_side n d side h before now =
      sound_points _ _
      (room_kept store sound.room n _)
      (sides_side store sound.room n (made_room n h) d side)
      (mirrored_side store.made (store_sides store) n d side sound.mirrored before now)

  -- with two points linked
  pub sound_linked : (first other : ℕ) (d : TmeshDirection) (interval : Float) → Joining store.made (store_sides store) first other d
      → Sound (linked store first other d interval)
  sound_linked first other d interval j =
      sound_points _ _
      (room_kept (with_side_at store first d (Link other interval)) (room_kept store sound.room first _) other _)
      (sides_linked store sound.room first other d interval (made_room first j.first_made) (made_room other j.other_made) (λ x. j.apart (sym x)))
      (mirrored_two store.made (store_sides store) first other d (Link other interval) (Link first interval)
      j.first_made
      j.other_made
      j.apart
      (λ m k x. no_link (store_sides store first d) m k (ap is_link j.first_open) x)
      (λ m k x. no_link (store_sides store other (flip_of d)) m k (ap is_link j.other_open) x)
      (λ m k x. (cc, cc))
      (λ m k x. (cc, cc))
      sound.mirrored)

  -- with a link cut at both ends, where two sides that are no links then stand
  pub sound_cut : (n : ℕ) (d : TmeshDirection) (m : ℕ) (interval : Float) (side facing : Side) → n < store.made
      → store_sides store n d ≡ Link m interval → is_link side ≡ false → is_link facing ≡ false
      → Sound (with_side_at (with_side_at store n d side) m (flip_of d) facing)
  sound_cut n d m interval side facing h e now now-facing =
      sound_points _ _
      (room_kept near near_room m _)
      (sides_side near near_room m (made_room m mirror.leads) (flip_of d) facing
      ∙ ap (λ (sides : Sides). sides_with sides m (flip_of d) facing) (sides_side store sound.room n (made_room n h) d side))
      (mirrored_two store.made (store_sides store) n m d side facing h
      mirror.leads
      (λ x. mirror.apart (sym x))
      (λ l k x. cc)
      (λ l k x. let y = mirror.faces in cc)
      (λ l k x. no_link side l k now x)
      (λ l k x. no_link facing l k now-facing x)
      sound.mirrored)
    where
      mirror : MirrorOf store.made (store_sides store) n d m interval
      mirror = sound.mirrored n d m interval h e

      near : Store
      near = with_side_at store n d side

      near_room : length near.points ≡ 128
      near_room = room_kept store sound.room n (with_side (store_point store n) d side)
