-- Laws of walks and searches in mirrored sides: from a made point they meet made points only, so none is refused 11.
use Prim.Native.Nat.{ℕ, zero, suc, ◌<◌, ◌≤◌, ◌+◌, ◌-◌}
use Rattle.std.specs.Prelude.{◌≡◌, true, false, ◌&&◌, ◌||◌, T, eqb, Float, Err, None, Ok, Option, Result, Some, ⊤}
use Rattle.std.proofs.Math.Path.{refl}
use Rattle.std.proofs.Common.{sym, ap, ◌∙◌, subst, eqb→eq}
use Rattle.std.specs.Float.Ieee.{binary64, add, sub, lt}
use Rattle.control_point.specs.Connect.{connectable}
use Rattle.control_point.specs.Direction.{clockwise_of, anti_clockwise_of, flip_of}
use Rattle.control_point.specs.Point.{is_link, is_opening}
use Rattle.control_point.proofs.PointLaws.{made_is_made}
use Rattle.control_point.specs.Refusal.{refusal_number}
use Rattle.control_point.specs.Sides.{Sides}
use Rattle.control_point.specs.Small.{small}
use Rattle.navigation.specs.Walk.{step_over, arrive, onward, walk_of}
use Rattle.control_point.specs.declared.refusal.Refusal.{Refusal}
use Rattle.control_point.specs.declared.t_mesh_direction.TmeshDirection.{TmeshDirection}
use Rattle.control_point.specs.declared.t_mesh_control_point.Side.{Side}
use Rattle.control_point.specs.declared.t_mesh_control_point.Side.TheVariants.{Link, Border, Opening}
use Rattle.counting.proofs.BoolLaws.{cond_case, or_case}
use Rattle.mirror.specs.Mirror.{Mirrored}
use Rattle.search.specs.Search.{after_connecting, judge_at, concluded, move_over, seek_from, walked, find_inferred_connection}
use Rattle.search.specs.declared.search.Judged.TheVariants.{On, Here, Ends}
use Rattle.navigation.specs.declared.walk.Walk.{Walk}
use Rattle.control_point.specs.declared.t_mesh_control_point.LinkEnd.{LinkEnd}
use Rattle.search.specs.declared.search.Judged.{Judged}

-- a refusal other than 11
abbrev pub Known : Refusal → Type 0
Known refusal = eqb (refusal_number refusal) 11 ≡ false

-- a refusal that a walk between made points can meet: an opening 3, a border 4, a ring 9
abbrev pub Met : Refusal → Type 0
Met refusal = (eqb (refusal_number refusal) 3 || (eqb (refusal_number refusal) 4 || eqb (refusal_number refusal) 9)) ≡ true

met_other : (n m : ℕ) → eqb m 11 ≡ false → eqb n m ≡ true → eqb n 11 ≡ false
met_other n m other same = ap (λ (k : ℕ). eqb k 11) (eqb→eq n m (subst T (sym same) tt)) ∙ other

-- it is not 11
pub met_known : (refusal : Refusal) → Met refusal → Known refusal
met_known refusal met =
    let n = refusal_number refusal in
    or_case (eqb n 3) (eqb n 4 || eqb n 9) met (met_other n 3 refl) (λ h. or_case (eqb n 4) (eqb n 9) h (met_other n 4 refl) (met_other n 9 refl))

-- a building of knots that is done, or meets what a walk can meet
abbrev pub MetOutcome : Result ⊤ Refusal → Type 0
MetOutcome (Ok tt) = Unit {0}
MetOutcome (Err refusal) = Met refusal

-- a call that is done, or refused otherwise
abbrev pub KnownOutcome : Result ⊤ Refusal → Type 0
KnownOutcome (Ok tt) = Unit {0}
KnownOutcome (Err refusal) = Known refusal

-- a walk that ends at a made point, or is refused 3, 4 or 9
abbrev pub KnownWalk : ℕ → Result Walk Refusal → Type 0
KnownWalk made (Ok walk) = walk.at < made
KnownWalk made (Err refusal) = Met refusal

-- a search that fails otherwise, if it fails
abbrev pub KnownFound : Result (Option LinkEnd) Refusal → Type 0
KnownFound (Ok (Some end)) = Unit {0}
KnownFound (Ok None) = Unit {0}
KnownFound (Err refusal) = Known refusal

-- a judgement that goes on, or fails otherwise
abbrev KnownJudged : Result Judged Refusal → Type 0
KnownJudged (Ok On) = Unit {0}
KnownJudged (Ok Here) = Unit {0}
KnownJudged (Ok Ends) = Unit {0}
KnownJudged (Err refusal) = Known refusal

module _ (sides : Sides) (made : ℕ) (fits : made ≤ 128) (mirrored : Mirrored made sides) where
  -- ---- the walk
  -- a step from a made point, over its side
  over : (n : ℕ) (d : TmeshDirection) → n < made → (side : Side) → sides n d ≡ side → (next : ℕ → Float → Result Walk Refusal)
      → ((m : ℕ) (interval : Float) → m < made → KnownWalk made (next m interval)) → KnownWalk made (step_over side next)
  over n d h (Link m interval) e next known = known m interval (mirrored n d m interval h e).leads
  over n d h (Border weight) e next known = refl
  over n d h Opening e next known = refl

  arrives : (travel watch : TmeshDirection) (at : ℕ) (sum : Float) (moves : ℕ) (next : ℕ → Float → Result Walk Refusal) → at < made
      → ((m : ℕ) (interval : Float) → m < made → KnownWalk made (next m interval))
      → KnownWalk made (arrive sides made travel watch at sum moves next)
  arrives travel watch at sum moves next h known =
      rw (made_is_made made at fits h)
      (cond_case (is_link (sides at watch)) (KnownWalk made) _ _ (λ w. h) (λ w. over at travel h (sides at travel) refl next known))

  known_onward : (left : ℕ) (travel watch : TmeshDirection) (at : ℕ) (sum : Float) (moves : ℕ) → at < made
      → KnownWalk made (onward left sides made travel watch at sum moves)
  unfolding onward
  known_onward zero travel watch at sum moves h = arrives travel watch at sum moves _ h (λ m interval l. refl)
  known_onward (suc left) travel watch at sum moves h =
      arrives travel watch at sum moves _ h (λ m interval l. known_onward left travel watch m (add binary64 sum interval) (moves + 1) l)

  pub known_walk : (start : ℕ) (travel watch : TmeshDirection) → start < made → KnownWalk made (walk_of sides made start travel watch)
  unfolding walk_of
  known_walk start travel watch h =
      rw (made_is_made made start fits h)
      (over start travel h (sides start travel) refl _ (λ m interval l. known_onward (made - 1) travel watch m interval 1 l))

  -- ---- the search
  pub known_connectable : (first other : ℕ) (d : TmeshDirection) → first < made → other < made → KnownOutcome (connectable sides made first other d)
  unfolding connectable
  known_connectable first other d h l =
      rw (made_is_made made first fits h, made_is_made made other fits l)
      (cond_case (eqb first other) KnownOutcome _ _ (λ s. refl)
      (λ s. cond_case (is_opening (sides first d) && is_opening (sides other (flip_of d))) KnownOutcome _ _ (λ o. tt) (λ o. refl)))

  module _ (e : Float) (p : ℕ) (f : TmeshDirection) (p-made : p < made) where
    known_connecting : (outcome : Result ⊤ Refusal) → KnownOutcome outcome → KnownJudged (after_connecting outcome)
    known_connecting (Ok tt) known = tt
    known_connecting (Err refusal) known = cond_case (eqb (refusal_number refusal) 5) KnownJudged _ _ (λ t. tt) (λ t. known)

    known_judged : (at : ℕ) (measure sum : Float) → at < made → KnownJudged (judge_at e sides made p f at measure sum)
    unfolding judge_at
    known_judged at measure sum h =
        rw (made_is_made made at fits h)
        (cond_case (small e (sub binary64 measure sum)) KnownJudged _ _
        (λ s. known_connecting (connectable sides made p at f) (known_connectable p at f p-made h))
        (λ s. cond_case (lt measure sum || is_link (sides at (flip_of f))) KnownJudged _ _ (λ t. tt) (λ t. tt)))

    known_concluded : (judged : Result Judged Refusal) (at : ℕ) (interval : Float) (rest : Result (Option LinkEnd) Refusal) → KnownJudged judged → KnownFound rest
        → KnownFound (concluded judged at interval rest)
    known_concluded (Ok On) at interval rest known known-rest = known-rest
    known_concluded (Ok Here) at interval rest known known-rest = tt
    known_concluded (Ok Ends) at interval rest known known-rest = tt
    known_concluded (Err refusal) at interval rest known known-rest = known

    moves : (n : ℕ) (d : TmeshDirection) → n < made → (side : Side) → sides n d ≡ side → (next : ℕ → Float → Result (Option LinkEnd) Refusal)
        → ((m : ℕ) (interval : Float) → m < made → KnownFound (next m interval)) → KnownFound (move_over side next)
    moves n d h (Link m interval) i next known = known m interval (mirrored n d m interval h i).leads
    moves n d h (Border weight) i next known = refl
    moves n d h Opening i next known = refl

    known_seek : (left at : ℕ) (measure sum interval : Float) → at < made → KnownFound (seek_from left e sides made p f at measure sum interval)
    unfolding seek_from
    known_seek zero at measure sum interval h = refl
    known_seek (suc left) at measure sum interval h =
        moves at (anti_clockwise_of f) h (sides at (anti_clockwise_of f)) refl _
        (λ n k l.
        known_concluded (judge_at e sides made p f n measure (add binary64 sum k)) n interval _
        (known_judged n measure (add binary64 sum k) l)
        (known_seek left n measure (add binary64 sum k) interval l))

    walks : (walk : Result Walk Refusal) (next : ℕ → Float → Result (Option LinkEnd) Refusal) → KnownWalk made walk → ((n : ℕ) (sum : Float) → n < made → KnownFound (next n sum))
        → KnownFound (walked walk next)
    walks (Ok walk) next known go = go walk.at walk.sum known
    walks (Err refusal) next known go = met_known refusal known

    pub known_search : KnownFound (find_inferred_connection e sides made p f)
    unfolding find_inferred_connection
    known_search =
        walks (walk_of sides made p (clockwise_of f) f) _ (known_walk p (clockwise_of f) f p-made)
        (λ corner measure h.
        walks (walk_of sides made corner f (anti_clockwise_of f)) _ (known_walk corner f (anti_clockwise_of f) h)
        (λ start interval l. known_seek made start measure _ interval l))
