-- What the sides of a sound store come to after an insertion: placed, a point adds a link and two borders; an opened side is an opening for a border,
-- and an inferred link is a link for two openings.
use Rattle.std.specs.Prelude.{ℕ, ◌+◌, ◌*◌, ◌<◌, ◌≡◌, refl, Bool, true, false, ◌||◌, Float, Err}
use Rattle.std.proofs.Math.Path.{ap}
use Rattle.std.proofs.Common.{◌∙◌}
use native.Mathlib.Omega.{arith}
use Rattle.float64.specs.Literals.{zero_literal}
use Rattle.control_point.specs.Connect.{connectable}
use Rattle.control_point.specs.Direction.{clockwise_of, anti_clockwise_of}
use Rattle.control_point.specs.Point.{side_of, is_link}
use Rattle.control_point.specs.Sides.{Sides}
use Rattle.control_point.specs.declared.refusal.Refusal.{Refusal}
use Rattle.control_point.specs.declared.t_mesh_control_point.Side.{Side}
use Rattle.control_point.specs.declared.t_mesh_control_point.Side.TheVariants.{Link, Border, Opening}
use Rattle.control_point.specs.declared.t_mesh_direction.TmeshDirection.{TmeshDirection}
use Rattle.control_point.specs.declared.t_mesh_direction.TmeshDirection.TheVariants.{Up, Right, Down, Left}
use Rattle.store.specs.Store.{store_sides, with_side_at}
use Rattle.store.proofs.StoreLaws.{sides_side}
use Rattle.store.specs.declared.store.Changed.{Changed}
use Rattle.store.specs.declared.store.Store.{Store}
use Rattle.mirror.specs.Mirror.{Sound}
use Rattle.mirror.proofs.MirrorLaws.{done_joining, sound_side}
use Rattle.insertion.specs.Insert.{cut, point_in_line, parted, placed, with_new_side, tears, opened_count, inferred_count, counted_answer, first_side, with_first, second_side, sided, insert_point}
use Rattle.insertion.proofs.InsertLaws.{MayJoin, joined_linked, first_joins, second_joins}
use Rattle.insertion.specs.declared.insertion.Inserted.{Inserted}
use Rattle.insertion.specs.declared.insertion.NewSide.{NewSide}
use Rattle.insertion.specs.declared.insertion.NewSide.TheVariants.{Takes, Joins, Opens, Tears, Stays}
use Rattle.soundness.proofs.AcrossLaws.{Sided}
use Rattle.soundness.proofs.InsertionLaws.{anti_turned, first_sided, insertion_case}
use Rattle.soundness.proofs.KnownLaws.{Known}
use Rattle.soundness.proofs.PlacingLaws.{Across, across_clockwise, across_anti, Placed, cut_sound, stood_sound, near_interval, far_interval, near_linked, far_joined_lem, near_joining, near_sound, far_joining, placed_sound}
use Rattle.ledger.specs.Ledger.{made_by, opened_by, inferred_by}
use Rattle.ledger.proofs.PriceLaws.{Price, around}
use Rattle.ledger.proofs.ChangeLaws.{worth_of, Prices, has_room, worth_side, worth_new, worth_cut, worth_linked}

module _ (price : Price) (link border opening : ℕ) (prices : Prices price link border opening) where
  -- ---- a point placed in a link
  line_worth : (d : TmeshDirection) → around price (side_of (point_in_line d)) ≡ (border + border) + (opening + opening)
  line_worth Up = omega (arith, prices.openings Up, prices.borders Right zero_literal, prices.openings Down, prices.borders Left zero_literal)
  line_worth Right = omega (arith, prices.borders Up zero_literal, prices.openings Right, prices.borders Down zero_literal, prices.openings Left)
  line_worth Down = omega (arith, prices.openings Up, prices.borders Right zero_literal, prices.openings Down, prices.borders Left zero_literal)
  line_worth Left = omega (arith, prices.borders Up zero_literal, prices.openings Right, prices.borders Down zero_literal, prices.openings Left)

  module _ (store : Store) (sound : Sound store) (con other : ℕ) (d : TmeshDirection) (interval : Float) (con_made : con < store.made)
      (is : store_sides store con d ≡ Link other interval) (roomy : store.made < 128) (ratio : Float) where
    worth_placed : worth_of price (placed store con other d interval ratio) ≡ worth_of price store + (link + (border + border))
    unfolding placed
    worth_placed =
        let near = near_linked store sound con other d interval con_made is roomy ratio in
        let same = ap (λ (changed : Changed). worth_of price changed.store) (far_joined_lem store sound con other d interval con_made is roomy ratio) in
        omega (
          arith,
          worth_cut store sound price link border opening prices con d other interval con_made is,
          worth_new (cut store con other d) (cut_sound store sound con other d interval con_made is roomy) price (point_in_line d) roomy,
          line_worth d,
          worth_linked (parted store con other d) (stood_sound store sound con other d interval con_made is roomy) price link border opening prices
              con store.made d (near_interval interval ratio) (near_joining store sound con other d interval con_made is roomy ratio),
          worth_linked near (near_sound store sound con other d interval con_made is roomy ratio) price link border opening prices
              store.made other d (far_interval interval ratio) (far_joining store sound con other d interval con_made is roomy ratio),
        )

  -- ---- a side of p across, which is a border
  -- after it, with so many sides opened and links inferred
  abbrev SidesMoved : Store → ℕ → ℕ → Store → Type 0
  SidesMoved store opened inferred after =
      worth_of price after + (opened * border + inferred * (opening + opening)) ≡ worth_of price store + (opened * opening + inferred * link)

  module _ (store : Store) (sound : Sound store) (p : ℕ) (f : TmeshDirection) (p-made : p < store.made) (weight : Float)
      (is : store_sides store p f ≡ Border weight) where
    abbrev opened : Store
    opened = with_side_at store p f Opening

    moved_side : (side : Side) → worth_of price (with_side_at store p f side) + border ≡ worth_of price store + price f side
    moved_side side = omega (arith, worth_side store sound price p f side p-made, ap (price f) is, prices.borders f weight)

    opened_sound : Sound opened
    opened_sound = sound_side store sound p f Opening p-made (ap is_link is) refl

    worth_new_side : (new : NewSide) → MayJoin (store_sides store) store.made p f new
        → SidesMoved store (opened_count new) (inferred_count new) (with_new_side store p f new)
    worth_new_side (Takes taken) joins = omega (arith, moved_side (Border taken), prices.borders f taken)
    worth_new_side (Joins n interval) joins =
        let joined = ap (λ (changed : Changed). worth_of price changed.store) (joined_linked store sound.room p (has_room store sound p p-made) f n interval joins) in
        let may = ap (λ (sides : Sides). connectable sides store.made p n f) (sides_side store sound.room p (has_room store sound p p-made) f Opening) ∙ joins in
        omega (
          arith,
          moved_side Opening,
          prices.openings f,
          worth_linked opened opened_sound price link border opening prices p n f interval (done_joining store.made (store_sides opened) p n f may),
        )
    worth_new_side Opens joins = omega (arith, moved_side Opening, prices.openings f)
    worth_new_side Tears joins = omega (arith, moved_side Opening, prices.openings f)
    worth_new_side Stays joins = omega arith

  -- ---- both sides
  module _ (e : Float) (store : Store) (con p : ℕ) (d : TmeshDirection) (sound : Sound store) (p-made : p < store.made) (weight : Float)
      (across : (f : TmeshDirection) → Across d f → store_sides store p f ≡ Border weight) where
    abbrev half : Store
    half = with_first e store con p d

    half_sided : Sided store p (clockwise_of d) half
    half_sided = first_sided e store con p d sound p-made (λ f a. ap is_link (across f a))

    worth_first : SidesMoved store (opened_count (first_side e store con p d)) (inferred_count (first_side e store con p d)) half
    unfolding with_first
    worth_first =
        worth_new_side store sound p (clockwise_of d) p-made weight (across (clockwise_of d) (across_clockwise d)) (first_side e store con p d)
        (first_joins e store sound.room con p (has_room store sound p p-made) d)

    worth_second : SidesMoved half (opened_count (second_side e store con p d)) (inferred_count (second_side e store con p d)) (sided e store con p d).store
    unfolding sided
    worth_second =
        worth_new_side half half_sided.sound p (anti_clockwise_of d) (rw half_sided.made_is p-made) weight
        (half_sided.turned (anti_clockwise_of d) (anti_turned d) ∙ across (anti_clockwise_of d) (across_anti d)) (second_side e store con p d)
        (second_joins e store sound.room con p (has_room store sound p p-made) d)

    worth_sided : SidesMoved store (opened_count (first_side e store con p d) + opened_count (second_side e store con p d))
        (inferred_count (first_side e store con p d) + inferred_count (second_side e store con p d)) (sided e store con p d).store
    worth_sided = omega (arith, worth_first, worth_second)

-- ---- the whole insertion
-- what the sides of a store come to after points made, sides opened and links inferred, at every price
abbrev pub Booked : Store → ℕ → ℕ → ℕ → Store → Type 0
Booked store made opened inferred after =
    (price : Price) (link border opening : ℕ) → Prices price link border opening
    → worth_of price after + (opened * border + inferred * (opening + opening))
    ≡ worth_of price store + (made * (link + (border + border)) + (opened * opening + inferred * link))

-- the answer books what it says
abbrev Books : Store → Inserted → Type 0
Books store result = Booked store (made_by result.answer) (opened_by result.answer) (inferred_by result.answer) result.store

-- torn or done, it is the same
books_counted : (store after : Store) (torn : Bool) (openings links : ℕ) → Booked store 1 openings links after
    → Books store (record { answer = counted_answer torn openings links; store = after })
books_counted store after true openings links booked = booked
books_counted store after false openings links booked = booked

module _ (e : Float) (store : Store) (sound : Sound store) (con : ℕ) (d : TmeshDirection) (ratio : Float) where
  books_placed : (other : ℕ) (interval : Float) → con < store.made → store_sides store con d ≡ Link other interval → store.made < 128
      → Books store (sided e (placed store con other d interval ratio) con store.made d)
  unfolding sided
  books_placed other interval con_made is roomy =
      books_counted store _ (tears first || tears second) _ _
      (λ price link border opening prices.
      omega (
        arith,
        worth_placed price link border opening prices store sound con other d interval con_made is roomy ratio,
        worth_sided price link border opening prices e after con store.made d stands.sound (let h = stands.made_is in omega arith) zero_literal stands.across,
      ))
    where
      after : Store
      after = placed store con other d interval ratio

      stands : Placed store d after
      stands = placed_sound store sound con other d interval con_made is roomy ratio

      first : NewSide
      first = first_side e after con store.made d

      second : NewSide
      second = second_side e after con store.made d

  books_refused : (refusal : Refusal) → Known refusal → Books store (record { answer = Err refusal; store = store })
  books_refused refusal known price link border opening prices = omega arith

  pub books : (listed : Bool) → (listed ≡ true → con < store.made) → Books store (insert_point e store listed con d ratio)
  books listed listed_made = insertion_case e store sound listed con d ratio listed_made (Books store) books_refused books_placed
