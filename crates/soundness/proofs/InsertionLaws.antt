-- Laws of an insertion into a sound store: refused, it is not by 11; passed, its connects are done and it leaves a sound store of one point
-- more.
use Rattle.std.specs.Prelude.{ℕ, ◌<◌, ◌+◌, ◌≡◌, refl, Bool, true, false, ◌||◌, ltb, Float, Err, Ok, Result}
use Rattle.std.proofs.Common.{sym, ◌∙◌, true≢false, arith, ltb-true}
use Rattle.std.proofs.Math.Path.{ap, subst}
use Rattle.std.specs.Float.Ieee.{binary64, sub}
use Rattle.float64.specs.Unit.{in_unit}
use Rattle.control_point.specs.Direction.{clockwise_of, anti_clockwise_of, flip_of, same_direction}
use Rattle.control_point.specs.Point.{is_link}
use Rattle.control_point.proofs.PointLaws.{made_is_made}
use Rattle.control_point.specs.Small.{small}
use Rattle.control_point.specs.declared.refusal.Refusal.{Refusal}
use Rattle.control_point.specs.declared.refusal.Refusal.TheVariants.{Ratio, Foreign, OpenSide, BorderSide, Interval, Full}
use Rattle.control_point.specs.declared.t_mesh_direction.TmeshDirection.{TmeshDirection}
use Rattle.control_point.specs.declared.t_mesh_direction.TmeshDirection.TheVariants.{Up, Right, Down, Left}
use Rattle.control_point.specs.declared.t_mesh_control_point.Side.{Side}
use Rattle.control_point.specs.declared.t_mesh_control_point.Side.TheVariants.{Link, Border, Opening}
use Rattle.store.specs.Store.{store_sides, read_side}
use Rattle.store.specs.declared.store.Store.{Store}
use Rattle.counting.proofs.BoolLaws.{both_ways, cond_case}
use Rattle.mirror.specs.Mirror.{MirrorOf, Sound}
use Rattle.insertion.specs.Insert.{is_refused, checked_intervals, checked_facing, checked_side, checked, placed, sought, tears, counted_answer, first_side, with_first, second_side, sided, passed, insert_point}
use Rattle.insertion.proofs.InsertLaws.{MayJoin, first_joins, second_joins}
use Rattle.insertion.specs.declared.insertion.Insertion.TheVariants.{Done, Torn}
use Rattle.insertion.specs.declared.insertion.Inserted.{Inserted}
use Rattle.soundness.proofs.AcrossLaws.{Sided, joins_connects, known_sought, sided_new}
use Rattle.soundness.proofs.KnownLaws.{Known, KnownFound}
use Rattle.soundness.proofs.PlacingLaws.{Across, across_clockwise, across_anti, Placed, near_succeeds, far_succeeds, placed_sound}
use Rattle.soundness.specs.Theorems.{Connects, Placing, Seeking}
use Rattle.control_point.specs.declared.t_mesh_control_point.LinkEnd.{LinkEnd}
use Rattle.insertion.specs.declared.insertion.Insertion.{Insertion}

-- an answer that is not 11
abbrev pub KnownAnswer : Result Insertion Refusal → Type 0
KnownAnswer (Ok (Done opened inferred)) = Unit {0}
KnownAnswer (Ok (Torn opened inferred)) = Unit {0}
KnownAnswer (Err refusal) = Known refusal

-- a sound store of one point more
pub record Grown (store after : Store) : Type 0 where
  pub sound : Sound after
  pub made_is : after.made ≡ store.made + 1
  pub roomy : store.made < 128

pub anti_turned : (d : TmeshDirection) → same_direction (anti_clockwise_of d) (clockwise_of d) ≡ false
anti_turned Up = refl
anti_turned Right = refl
anti_turned Down = refl
anti_turned Left = refl

-- done or torn
known_counted : (torn : Bool) (opened inferred : ℕ) → KnownAnswer (counted_answer torn opened inferred)
known_counted true opened inferred = tt
known_counted false opened inferred = tt

-- ---- the two sides of a point p that stands in a link in direction d
-- their searches do not meet 11; both connect where they join, and leave a sound store of as many points
pub record BothSided (e : Float) (store : Store) (con p : ℕ) (d : TmeshDirection) : Type 0 where
  pub first : Connects store p (clockwise_of d) (first_side e store con p d)
  pub second : Connects (with_first e store con p d) p (anti_clockwise_of d) (second_side e store con p d)
  pub sound : Sound (sided e store con p d).store
  pub made_is : (sided e store con p d).store.made ≡ store.made
  pub first_sought : KnownFound (sought e (store_sides store) store.made p (clockwise_of d))
  pub second_sought : KnownFound (sought e (store_sides (with_first e store con p d)) store.made p (anti_clockwise_of d))

module _ (e : Float) (store : Store) (con p : ℕ) (d : TmeshDirection) (sound : Sound store) (p-made : p < store.made)
    (free : (f : TmeshDirection) → Across d f → is_link (store_sides store p f) ≡ false) where
  p_room : p < 128
  p_room = let fits = sound.fits in omega arith

  -- the first
  clockwise_free : is_link (store_sides store p (clockwise_of d)) ≡ false
  clockwise_free = free (clockwise_of d) (across_clockwise d)

  first_joining : MayJoin (store_sides store) store.made p (clockwise_of d) (first_side e store con p d)
  first_joining = first_joins e store sound.room con p p_room d

  pub first_sided : Sided store p (clockwise_of d) (with_first e store con p d)
  unfolding with_first
  first_sided = sided_new store sound p (clockwise_of d) p-made clockwise_free (first_side e store con p d) first_joining

  -- the second, in the store with the first
  abbrev half : Store
  half = with_first e store con p d

  half_made : p < half.made
  half_made = rw first_sided.made_is p-made

  anti_free : is_link (store_sides half p (anti_clockwise_of d)) ≡ false
  anti_free = ap is_link (first_sided.turned (anti_clockwise_of d) (anti_turned d)) ∙ free (anti_clockwise_of d) (across_anti d)

  second_joining : MayJoin (store_sides half) half.made p (anti_clockwise_of d) (second_side e store con p d)
  second_joining = second_joins e store sound.room con p p_room d

  second_sided : Sided half p (anti_clockwise_of d) (sided e store con p d).store
  unfolding sided
  second_sided = sided_new half first_sided.sound p (anti_clockwise_of d) half_made anti_free (second_side e store con p d) second_joining

  pub both_sided : BothSided e store con p d
  both_sided =
      record {
        first = joins_connects store sound p (clockwise_of d) p-made (first_side e store con p d) first_joining;
        second = joins_connects half first_sided.sound p (anti_clockwise_of d) half_made (second_side e store con p d) second_joining;
        sound = second_sided.sound;
        made_is = second_sided.made_is ∙ first_sided.made_is;
        first_sought = known_sought store sound p (clockwise_of d) p-made clockwise_free e;
        second_sought =
            subst (λ (made : ℕ). KnownFound (sought e (store_sides half) made p (anti_clockwise_of d))) first_sided.made_is
            (known_sought half first_sided.sound p (anti_clockwise_of d) half_made anti_free e);
      }

-- done or torn, it is not 11
answer_known : (e : Float) (store : Store) (con p : ℕ) (d : TmeshDirection) → KnownAnswer (sided e store con p d).answer
unfolding sided
answer_known e store con p d = known_counted (tears (first_side e store con p d) || tears (second_side e store con p d)) _ _

-- ---- the checks
-- what holds of every refusal but 11, and of every point placed in a link of a made point, holds of an insertion
module _ (e : Float) (store : Store) (sound : Sound store) (listed : Bool) (con : ℕ) (d : TmeshDirection) (ratio : Float)
    (listed_made : listed ≡ true → con < store.made) (Holds : Inserted → Type 0)
    (refuses : (refusal : Refusal) → Known refusal → Holds (record { answer = Err refusal; store = store }))
    (places : (other : ℕ) (interval : Float) → con < store.made → store_sides store con d ≡ Link other interval → store.made < 128
    → Holds (sided e (placed store con other d interval ratio) con store.made d))
  where
    read_made : (n : ℕ) (f : TmeshDirection) → n < store.made → read_side store n f ≡ Ok (store_sides store n f)
    read_made n f h = rw (made_is_made store.made n sound.fits h)

    -- the facing side of the point at the other end, and what follows the checks
    abbrev facing : ℕ → Result Side Refusal
    facing other = read_side store other (flip_of d)

    abbrev HoldsPassed : Result LinkEnd Refusal → Type 0
    HoldsPassed checks = Holds (passed store checks (λ other interval. sided e (placed store con other d interval ratio) con store.made d))

    -- the two stored intervals are one
    by_link : (other : ℕ) (interval : Float) → con < store.made → store_sides store con d ≡ Link other interval
        → HoldsPassed (checked_facing e store.made other interval (facing other))
    unfolding checked_intervals
    by_link other interval con_made link =
        subst (λ (side : Result Side Refusal). HoldsPassed (checked_facing e store.made other interval side))
        (sym (read_made other (flip_of d) mirror.leads ∙ ap Ok mirror.faces))
        (cond_case (small e (sub binary64 interval interval)) HoldsPassed _ _
        (λ s.
        cond_case (ltb store.made 128) HoldsPassed _ _
        (λ r. places other interval con_made link (ltb-true store.made 128 r))
        (λ r. refuses Full refl))
        (λ s. refuses Interval refl))
      where
        mirror : MirrorOf store.made (store_sides store) con d other interval
        mirror = sound.mirrored con d other interval con_made link

    by_side : con < store.made → (side : Side) → store_sides store con d ≡ side → HoldsPassed (checked_side e store.made (Ok side) facing)
    by_side con_made (Link other interval) link = by_link other interval con_made link
    by_side con_made (Border weight) link = refuses BorderSide refl
    by_side con_made Opening link = refuses OpenSide refl

    pub insertion_case : Holds (insert_point e store listed con d ratio)
    unfolding insert_point checked
    insertion_case =
        cond_case (in_unit ratio) HoldsPassed _ _
        (λ u.
        cond_case listed HoldsPassed _ _
        (λ l.
        subst (λ (side : Result Side Refusal). HoldsPassed (checked_side e store.made side facing))
        (sym (read_made con d (listed_made l)))
        (by_side (listed_made l) (store_sides store con d) refl))
        (λ l. refuses Foreign refl))
        (λ u. refuses Ratio refl)

-- ---- the whole insertion
-- what came of it: not 11; where it passed the checks, its searches do not meet 11, its connects are done and the store is sound, of one point more
pub record Inserts (e : Float) (store : Store) (con : ℕ) (d : TmeshDirection) (ratio : Float) (result : Inserted) : Type 0 where
  pub known : KnownAnswer result.answer
  pub seeking : is_refused result.answer ≡ false → Seeking e store con d ratio result
  pub placing : is_refused result.answer ≡ false → Placing e store con d ratio result
  pub grown : is_refused result.answer ≡ false → Grown store result.store

module _ (e : Float) (store : Store) (sound : Sound store) (con : ℕ) (d : TmeshDirection) (ratio : Float) where
  inserts_placed : (other : ℕ) (interval : Float) → con < store.made → store_sides store con d ≡ Link other interval → store.made < 128
      → Inserts e store con d ratio (sided e (placed store con other d interval ratio) con store.made d)
  inserts_placed other interval con_made link roomy =
      record {
        known = sided_known;
        seeking = λ passes.
            record {
              other = other;
              interval = interval;
              link = link;
              is = refl;
              first = λ is. true≢false (subst KnownFound is sides.first_sought);
              second = λ is. true≢false (subst KnownFound is sides.second_sought);
            };
        placing = λ passes.
            record {
              other = other;
              interval = interval;
              link = link;
              is = refl;
              near = near_succeeds store sound con other d interval con_made link roomy ratio;
              far = far_succeeds store sound con other d interval con_made link roomy ratio;
              first = sides.first;
              second = sides.second;
            };
        grown = λ passes. record { sound = sides.sound; made_is = sides.made_is ∙ stands.made_is; roomy = roomy };
      }
    where
      after : Store
      after = placed store con other d interval ratio

      sided_known : KnownAnswer (sided e after con store.made d).answer
      sided_known = answer_known e after con store.made d

      stands : Placed store d after
      stands = placed_sound store sound con other d interval con_made link roomy ratio

      sides : BothSided e after con store.made d
      sides = both_sided e after con store.made d stands.sound (let h = stands.made_is in omega arith) (λ f across. ap is_link (stands.across f across))

  inserts_refused : (refusal : Refusal) → Known refusal → Inserts e store con d ratio (record { answer = Err refusal; store = store })
  inserts_refused refusal known =
      record { known = known; seeking = λ passes. both_ways true refl passes; placing = λ passes. both_ways true refl passes; grown = λ passes. both_ways true refl passes }

  pub inserts : (listed : Bool) → (listed ≡ true → con < store.made) → Inserts e store con d ratio (insert_point e store listed con d ratio)
  inserts listed listed_made =
      insertion_case e store sound listed con d ratio listed_made (Inserts e store con d ratio) inserts_refused inserts_placed
