-- Laws of the search: what it is at each place that code meets, that a point found may be connected, and that it reads the sides of made
-- points alone.
use Prim.Native.Nat.{ℕ, zero, suc}
use Rattle.std.specs.Prelude.{◌≡◌, Bool, true, false, ◌||◌, eqb, Float, Err, None, Ok, Option, Result, Some, ⊤}
use Rattle.std.proofs.Math.Path.{refl, ap}
use Rattle.std.proofs.Common.{◌∙◌}
use Rattle.std.proofs.Math.Bool.{cond}
use Rattle.std.specs.Float.Ieee.{binary64, add, sub, lt}
use Rattle.float64.specs.Literals.{zero_literal}
use Rattle.control_point.specs.Connect.{connectable}
use Rattle.control_point.proofs.ConnectLaws.{connectable_agrees}
use Rattle.control_point.specs.Direction.{clockwise_of, anti_clockwise_of, flip_of}
use Rattle.control_point.specs.Point.{is_made, is_link}
use Rattle.control_point.specs.Refusal.{refusal_number}
use Rattle.control_point.specs.Sides.{Sides}
use Rattle.control_point.proofs.SidesLaws.{Agree}
use Rattle.control_point.specs.Small.{small}
use Rattle.navigation.specs.Walk.{walk_of}
use Rattle.navigation.proofs.WalkLaws.{ReachesMade, walk_agrees, walk_reaches}
use Rattle.control_point.specs.declared.refusal.Refusal.TheVariants.{Ring, NoPoint}
use Rattle.control_point.specs.declared.t_mesh_direction.TmeshDirection.{TmeshDirection}
use Rattle.control_point.specs.declared.t_mesh_control_point.Side.{Side}
use Rattle.control_point.specs.declared.t_mesh_control_point.Side.TheVariants.{Link, Border, Opening}
use Rattle.search.specs.Search.{after_connecting, judge_at, concluded, move_over, seek_from, walked, find_inferred_connection}
use Rattle.search.specs.declared.search.Judged.TheVariants.{On, Here, Ends}
use Rattle.control_point.specs.declared.refusal.Refusal.{Refusal}
use Rattle.navigation.specs.declared.walk.Walk.{Walk}
use Rattle.control_point.specs.declared.t_mesh_control_point.LinkEnd.{LinkEnd}
use Rattle.search.specs.declared.search.Judged.{Judged}

module _ (e : Float) (sides : Sides) (made p : ℕ) (f : TmeshDirection) (at : ℕ) (measure sum : Float) where
  pub judge_unmade : is_made made at ≡ false → judge_at e sides made p f at measure sum ≡ Err NoPoint
  unfolding judge_at
  judge_unmade h = simp h

  module _ (h : is_made made at ≡ true) where
    pub judge_near : small e (sub binary64 measure sum) ≡ true → judge_at e sides made p f at measure sum ≡ after_connecting (connectable sides made p at f)
    unfolding judge_at
    judge_near s = simp (h, s)

    pub judge_far : small e (sub binary64 measure sum) ≡ false → judge_at e sides made p f at measure sum ≡ cond (lt measure sum || is_link (sides at (flip_of f))) (Ok Ends) (Ok On)
    unfolding judge_at
    judge_far s = simp (h, s)

  module _ (interval : Float) where
    pub seek_ring : (left : ℕ) → left ≡ 0 → seek_from left e sides made p f at measure sum interval ≡ Err Ring
    unfolding seek_from
    seek_ring left z = simp z

    pub seek_step : (left more : ℕ) → left ≡ suc more
        → seek_from left e sides made p f at measure sum interval
        ≡ move_over (sides at (anti_clockwise_of f))
        (λ n k.
        concluded (judge_at e sides made p f n measure (add binary64 sum k)) n interval (seek_from more e sides made p f n measure (add binary64 sum k) interval))
    unfolding seek_from
    seek_step left more z = simp z

-- ---- a point that is found may be connected
-- what an answer says of p and the side f
abbrev pub MayConnect : Sides → ℕ → ℕ → TmeshDirection → Result (Option LinkEnd) Refusal → Type 0
MayConnect sides made p f (Ok (Some end)) = connectable sides made p end.point f ≡ Ok tt
MayConnect sides made p f (Ok None) = Unit {0}
MayConnect sides made p f (Err refusal) = Unit {0}

module _ (e : Float) (sides : Sides) (made p : ℕ) (f : TmeshDirection) where
  -- what was judged at a point
  abbrev Judges : ℕ → Result Judged Refusal → Type 0
  Judges at (Ok On) = Unit {0}
  Judges at (Ok Here) = connectable sides made p at f ≡ Ok tt
  Judges at (Ok Ends) = Unit {0}
  Judges at (Err refusal) = Unit {0}

  by_test : (P : Result Judged Refusal → Type 0) (b : Bool) (x y : Result Judged Refusal) → P x → P y → P (cond b x y)
  by_test P true x y u v = u
  by_test P false x y u v = v

  judges_connect : (at : ℕ) (outcome : Result ⊤ Refusal) → connectable sides made p at f ≡ outcome → Judges at (after_connecting outcome)
  judges_connect at (Ok tt) h = h
  judges_connect at (Err refusal) h = by_test (Judges at) (eqb (refusal_number refusal) 5) (Ok On) (Err refusal) tt tt

  judges : (at : ℕ) (measure sum : Float) → Judges at (judge_at e sides made p f at measure sum)
  unfolding judge_at
  judges at measure sum =
      by_test (Judges at) (is_made made at) _ _
      (by_test (Judges at) (small e (sub binary64 measure sum)) _ _
      (judges_connect at (connectable sides made p at f) refl)
      (by_test (Judges at) (lt measure sum || is_link (sides at (flip_of f))) (Ok Ends) (Ok On) tt tt))
      tt

  connects_concluded : (judged : Result Judged Refusal) (at : ℕ) (interval : Float) (rest : Result (Option LinkEnd) Refusal) → Judges at judged → MayConnect sides made p f rest → MayConnect sides made p f (concluded judged at interval rest)
  connects_concluded (Ok On) at interval rest j r = r
  connects_concluded (Ok Here) at interval rest j r = j
  connects_concluded (Ok Ends) at interval rest j r = tt
  connects_concluded (Err refusal) at interval rest j r = tt

  connects_moved : (side : Side) (next : ℕ → Float → Result (Option LinkEnd) Refusal) → ((n : ℕ) (k : Float) → MayConnect sides made p f (next n k)) → MayConnect sides made p f (move_over side next)
  connects_moved (Link n k) next h = h n k
  connects_moved (Border weight) next h = tt
  connects_moved Opening next h = tt

  connects_seek : (left at : ℕ) (measure sum interval : Float) → MayConnect sides made p f (seek_from left e sides made p f at measure sum interval)
  unfolding seek_from
  connects_seek zero at measure sum interval = tt
  connects_seek (suc left) at measure sum interval =
      connects_moved (sides at (anti_clockwise_of f)) _
      (λ n k.
      connects_concluded (judge_at e sides made p f n measure (add binary64 sum k)) n interval _
      (judges n measure (add binary64 sum k))
      (connects_seek left n measure (add binary64 sum k) interval))

  connects_walked : (walk : Result Walk Refusal) (next : ℕ → Float → Result (Option LinkEnd) Refusal) → ((n : ℕ) (k : Float) → MayConnect sides made p f (next n k)) → MayConnect sides made p f (walked walk next)
  connects_walked (Ok walk) next h = h walk.at walk.sum
  connects_walked (Err refusal) next h = tt

  pub found_connects : MayConnect sides made p f (find_inferred_connection e sides made p f)
  unfolding find_inferred_connection
  found_connects =
      connects_walked (walk_of sides made p (clockwise_of f) f) _
      (λ corner measure.
      connects_walked (walk_of sides made corner f (anti_clockwise_of f)) _
      (λ start interval. connects_seek made start measure zero_literal interval))

-- ---- the search reads the sides of made points alone
module _ (e : Float) (made : ℕ) (sides others : Sides) (agree : Agree made sides others) (p : ℕ) (f : TmeshDirection) where
  judge_agrees : (at : ℕ) (measure sum : Float) → judge_at e sides made p f at measure sum ≡ judge_at e others made p f at measure sum
  unfolding judge_at
  judge_agrees at measure sum = by_test (is_made made at) refl
    where
      judged : Sides → Result Judged Refusal
      judged over = cond (small e (sub binary64 measure sum)) (after_connecting (connectable over made p at f)) (cond (lt measure sum || is_link (over at (flip_of f))) (Ok Ends) (Ok On))

      by_test : (b : Bool) → is_made made at ≡ b → cond b (judged sides) (Err NoPoint) ≡ cond b (judged others) (Err NoPoint)
      by_test true m = rw (connectable_agrees made sides others agree p at f, agree at (flip_of f) m)
      by_test false m = refl

  move_agrees : (side : Side) (next then : ℕ → Float → Result (Option LinkEnd) Refusal) → ((n : ℕ) (k : Float) → next n k ≡ then n k) → move_over side next ≡ move_over side then
  move_agrees (Link n k) next then h = h n k
  move_agrees (Border weight) next then h = refl
  move_agrees Opening next then h = refl

  -- at a point that is not made the search fails, whatever would follow
  concluded_agrees : (n : ℕ) (measure sum interval : Float) (rest then : Result (Option LinkEnd) Refusal) → (is_made made n ≡ true → rest ≡ then) → (b : Bool) → is_made made n ≡ b
      → concluded (judge_at e sides made p f n measure sum) n interval rest ≡ concluded (judge_at e others made p f n measure sum) n interval then
  concluded_agrees n measure sum interval rest then h true m = rw (judge_agrees n measure sum, h m)
  concluded_agrees n measure sum interval rest then h false m = rw (judge_unmade e sides made p f n measure sum m, judge_unmade e others made p f n measure sum m)

  seek_agrees : (left at : ℕ) (measure sum interval : Float) → is_made made at ≡ true
      → seek_from left e sides made p f at measure sum interval ≡ seek_from left e others made p f at measure sum interval
  unfolding seek_from
  seek_agrees zero at measure sum interval m = refl
  seek_agrees (suc left) at measure sum interval m =
      ap (λ (side : Side). move_over side (λ n k. concluded (judge_at e sides made p f n measure (add binary64 sum k)) n interval (seek_from left e sides made p f n measure (add binary64 sum k) interval)))
      (agree at (anti_clockwise_of f) m)
      ∙ move_agrees (others at (anti_clockwise_of f)) _ _
      (λ n k. concluded_agrees n measure (add binary64 sum k) interval _ _ (seek_agrees left n measure (add binary64 sum k) interval) (is_made made n) refl)

  walked_agrees : (walk : Result Walk Refusal) (next then : ℕ → Float → Result (Option LinkEnd) Refusal) → ReachesMade made walk → ((n : ℕ) (k : Float) → is_made made n ≡ true → next n k ≡ then n k)
      → walked walk next ≡ walked walk then
  walked_agrees (Ok walk) next then m h = h walk.at walk.sum m
  walked_agrees (Err refusal) next then m h = refl

  pub found_agrees : find_inferred_connection e sides made p f ≡ find_inferred_connection e others made p f
  unfolding find_inferred_connection
  found_agrees =
      ap (λ (walk : Result Walk Refusal). walked walk (λ corner measure. walked (walk_of sides made corner f (anti_clockwise_of f)) (λ start interval. seek_from made e sides made p f start measure zero_literal interval)))
      (walk_agrees made sides others agree (clockwise_of f) f p)
      ∙ walked_agrees (walk_of others made p (clockwise_of f) f) _ _ (walk_reaches made others (clockwise_of f) f p)
      (λ corner measure c.
      ap (λ (walk : Result Walk Refusal). walked walk (λ start interval. seek_from made e sides made p f start measure zero_literal interval)) (walk_agrees made sides others agree f (anti_clockwise_of f) corner)
      ∙ walked_agrees (walk_of others made corner f (anti_clockwise_of f)) _ _ (walk_reaches made others f (anti_clockwise_of f) corner)
      (λ start interval m. seek_agrees made start measure zero_literal interval m))
