-- A search tells what its table says.
use Prim.Native.Nat.{ℕ, zero, suc}
use Rattle.std.specs.Prelude.{◌≡◌, Bool, not, cond, ◌&&◌, ◌||◌, [], ◌∷◌, eqb, Err, Ok, Option, Result}
use Rattle.std.proofs.Math.Path.{refl}
use Rattle.std.proofs.Common.{sym, ap, true≢false}
use Rattle.std.proofs.Math.Bool.{true, false}
use Rattle.std.specs.Float.Ieee.{Float, binary64, add, sub, lt}
use Rattle.float64.specs.Literals.{zero_literal}
use Rattle.control_point.specs.Connect.{connectable}
use Rattle.control_point.specs.Direction.{clockwise_of, anti_clockwise_of, flip_of}
use Rattle.control_point.specs.Point.{is_made, is_link, is_opening}
use Rattle.control_point.specs.Sides.{Sides}
use Rattle.control_point.specs.Small.{small}
use Rattle.control_point.specs.Told.{Told, natural, float, tells, unless}
use Rattle.navigation.specs.Table.{step_table, walked_table}
use Rattle.navigation.specs.Walk.{walk_of}
use Rattle.navigation.proofs.WalkLaws.{walk_unmade}
use Rattle.control_point.specs.declared.refusal.Refusal.TheVariants.{NoPoint, Itself, Taken}
use Rattle.control_point.specs.declared.t_mesh_control_point.Side.{Side}
use Rattle.control_point.specs.declared.t_mesh_control_point.Side.TheVariants.{Link, Border, Opening}
use Rattle.control_point.specs.declared.t_mesh_direction.TmeshDirection.{TmeshDirection}
use Rattle.search.specs.Search.{found_told, after_connecting, judge_at, concluded, move_over, seek_from, walked, find_inferred_connection}
use Rattle.search.specs.Table.{moved_table, seek_table, search_table}
use Rattle.search.specs.declared.search.Judged.TheVariants.{On, Ends}
use Rattle.control_point.specs.declared.refusal.Refusal.{Refusal}
use Rattle.navigation.specs.declared.walk.Walk.{Walk}
use Rattle.control_point.specs.declared.t_mesh_control_point.LinkEnd.{LinkEnd}

module _ (next : ℕ → Float → Result (Option LinkEnd) Refusal) (table : ℕ → Float → Told) (h : (n : ℕ) (k : Float) → found_told (next n k) ≡ table n k) where
  move_told : (side : Side) → found_told (move_over side next) ≡ step_table side table
  move_told (Link n k) = h n k
  move_told (Border weight) = refl
  move_told Opening = refl

  walked_told : (walk : Result Walk Refusal) → found_told (walked walk next) ≡ walked_table walk table
  walked_told (Ok walk) = h walk.at walk.sum
  walked_told (Err refusal) = refl

module _ (e : Float) (sides : Sides) (made p : ℕ) (f : TmeshDirection) where
  moved_told : is_made made p ≡ true → (at : ℕ) (measure sum interval : Float) (rest : Result (Option LinkEnd) Refusal) (on : Told) → found_told rest ≡ on
      → found_told (concluded (judge_at e sides made p f at measure sum) at interval rest) ≡ moved_table e sides made p f at measure sum interval on
  unfolding judge_at connectable
  moved_told m at measure sum interval rest on h =
      by_tests (is_made made p) (is_made made at) (small e (sub binary64 measure sum)) (eqb p at) (is_opening (sides p f) && is_opening (sides at (flip_of f))) (lt measure sum || is_link (sides at (flip_of f))) m
    where
      by_tests : (first other near same free past : Bool) → first ≡ true
          → found_told
          (concluded
          (cond other
          (cond near (after_connecting (cond (first && other) (cond same (Err Itself) (cond free (Ok tt) (Err Taken))) (Err NoPoint))) (cond past (Ok Ends) (Ok On)))
          (Err NoPoint))
          at interval rest)
          ≡ unless 11 other (cond near (unless 7 (not same) (cond free (tells (natural at ∷ (float interval ∷ []))) on)) (cond past (tells []) on))
      by_tests true true true true free past x = refl
      by_tests true true true false true past x = refl
      by_tests true true true false false past x = h
      by_tests true true false same free true x = refl
      by_tests true true false same free false x = h
      by_tests true false near same free past x = refl
      by_tests false other near same free past x = absurd (true≢false (sym x))

  seek_told : is_made made p ≡ true → (left at : ℕ) (measure sum interval : Float)
      → found_told (seek_from left e sides made p f at measure sum interval) ≡ seek_table e sides made p f left at measure sum interval
  unfolding seek_from seek_table
  seek_told m zero at measure sum interval = refl
  seek_told m (suc left) at measure sum interval =
      move_told _ _
      (λ n k. moved_told m n measure (add binary64 sum k) interval _ _ (seek_told m left n measure (add binary64 sum k) interval))
      (sides at (anti_clockwise_of f))

  pub search_told : found_told (find_inferred_connection e sides made p f) ≡ search_table e sides made p f
  unfolding find_inferred_connection search_table
  search_told = by_made (is_made made p) refl
    where
      onward : ℕ → Float → Result (Option LinkEnd) Refusal
      onward corner measure = walked (walk_of sides made corner f (anti_clockwise_of f)) (λ start interval. seek_from made e sides made p f start measure zero_literal interval)

      table : ℕ → Float → Told
      table corner measure = walked_table (walk_of sides made corner f (anti_clockwise_of f)) (λ start interval. seek_table e sides made p f made start measure zero_literal interval)

      by_made : (b : Bool) → is_made made p ≡ b
          → found_told (walked (walk_of sides made p (clockwise_of f) f) onward) ≡ unless 11 b (walked_table (walk_of sides made p (clockwise_of f) f) table)
      by_made true m =
          walked_told onward table
          (λ corner measure. walked_told _ _ (λ start interval. seek_told m made start measure zero_literal interval) (walk_of sides made corner f (anti_clockwise_of f)))
          (walk_of sides made p (clockwise_of f) f)
      by_made false m = ap (λ (walk : Result Walk Refusal). found_told (walked walk onward)) (walk_unmade sides made (clockwise_of f) f p m)
