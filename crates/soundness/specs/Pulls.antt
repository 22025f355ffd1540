-- THE PULLS OF A MAP, after every list of calls of the kinds of MapCalls, with any arguments, whatever they answer. Each of the 128 numbers has the pull that was last set for it by a
-- call that was answered 0, and 1.0 if there was none: so one for which no such call was made has the pull 1.0, whether it was made by an insertion, done or torn, or alone, or not at
-- all; and one that is not made has it too, so that a point has it when it is made. Where every pull so set is 1.0, every evaluation is the one without pulls, bit for bit; of settings
-- that are refused nothing is asked. And nothing but evaluations and set-points sees the pulls: a list leaves the points with their sides, how many are made, the positions, the listing, the kept knots
-- and the index that it leaves without its settings of pulls, and on any map every other call tells what it tells where every pull is 1.0.
-- Every beginning of a list is a list, so that it is so throughout one.
use Rattle.std.specs.Prelude.{ℕ, ◌<◌, ◌≡◌, Bool, true, false, cond, ◌&&◌, List, [], ◌∷◌, map, eqb, Float}
use Rattle.float64.specs.Literals.{one_literal}
use Rattle.control_point.specs.Point.{is_made}
use Rattle.calls.specs.Calls.{Call, insertion, evaluation, set_point_call, question, pulling}
use Rattle.surface.specs.Evaluation.{subs_of}
use Rattle.surface.specs.Plain.{plain_subs}
use Rattle.t_mesh.specs.Tmesh.{unpulled, pull_of, store_of, new_tmesh}
use Rattle.t_mesh.specs.declared.t_mesh.Position.{Position}
use Rattle.t_mesh.specs.declared.t_mesh.Tmesh.{Tmesh}
use Rattle.soundness.specs.MapCalls.{MapCall, entry, generate_knot_vectors_call, point_knot_vectors_call, cast_ray_call, direct, after_call, map_after_all, told_to, number_to}
use Rattle.soundness.specs.Theorems.{EveryMap}

-- ---- the last one set
-- the pull of n after a call, by the one before: where the call sets the pull of n and is answered 0, that one
abbrev pub entry_pull : ℕ → Call → ℕ → Float → Float
entry_pull number (insertion withdraws con d ratio position) n before = before
entry_pull number (evaluation s t) n before = before
entry_pull number (set_point_call s t) n before = before
entry_pull number (question cell) n before = before
entry_pull number (pulling m pull) n before = cond (eqb n m && eqb number 0) pull before

abbrev pub call_pull : Float → Tmesh → MapCall → ℕ → Float → Float
call_pull e map (entry call) n before = entry_pull (number_to e map (entry call)) call n before
call_pull e map generate_knot_vectors_call n before = before
call_pull e map (point_knot_vectors_call m) n before = before
call_pull e map (cast_ray_call m d buffer) n before = before
call_pull e map (direct call) n before = before

-- after a list of calls
unfoldable pub last_pull : Float → Tmesh → List MapCall → ℕ → Float → Float
last_pull e map [] n before = before
last_pull e map (call ∷ rest) n before = last_pull e (after_call e map call) rest n (call_pull e map call n before)

-- Each of the 128 numbers, made or not, has the last pull set for it by a call answered 0, and 1.0 if none was.
abbrev pub PullIsLastSet : Type 0
PullIsLastSet =
    (e weight : Float) (at_bottom_left at_bottom_right at_top_right at_top_left : Position) (calls : List MapCall) (n : ℕ)
    → n < 128
    → pull_of (map_after_all e (new_tmesh weight at_bottom_left at_bottom_right at_top_right at_top_left) calls) n
    ≡ last_pull e (new_tmesh weight at_bottom_left at_bottom_right at_top_right at_top_left) calls n one_literal

-- ---- none set
-- no call of a list sets the pull of n: those that would are refused
abbrev pub NeverSet : Float → Tmesh → List MapCall → ℕ → Type 0
NeverSet e map [] n = Unit {0}
NeverSet e map (call ∷ rest) n =
    ((pull : Float) → call ≡ entry (pulling n pull) → number_to e map call ≡ 0 → ⊥) × NeverSet e (after_call e map call) rest n

-- Such a number of the 128 has the pull 1.0, made or not.
abbrev pub UnsetPullIsOne : Type 0
UnsetPullIsOne =
    (e weight : Float) (at_bottom_left at_bottom_right at_top_right at_top_left : Position) (calls : List MapCall) (n : ℕ)
    → n < 128
    → NeverSet e (new_tmesh weight at_bottom_left at_bottom_right at_top_right at_top_left) calls n
    → pull_of (map_after_all e (new_tmesh weight at_bottom_left at_bottom_right at_top_right at_top_left) calls) n ≡ one_literal

-- A number that is not made has it too, so that a point has it when it is made, by an insertion or alone.
abbrev pub UnmadePullIsOne : Type 0
UnmadePullIsOne = EveryMap (λ own. (n : ℕ) → n < 128 → is_made (store_of own).made n ≡ false → pull_of own n ≡ one_literal)

-- ---- every one set is 1.0
abbrev pub OnesSet : Float → Tmesh → List MapCall → Type 0
OnesSet e map [] = Unit {0}
OnesSet e map (call ∷ rest) =
    ((n : ℕ) (pull : Float) → call ≡ entry (pulling n pull) → number_to e map call ≡ 0 → pull ≡ one_literal) × OnesSet e (after_call e map call) rest

-- Then an evaluation of the map that the list leaves, with any closeness, is the one without pulls: the answer, bit for bit, and the map after it.
abbrev pub OnesArePlain : Type 0
OnesArePlain =
    (e weight : Float) (at_bottom_left at_bottom_right at_top_right at_top_left : Position) (calls : List MapCall)
    → OnesSet e (new_tmesh weight at_bottom_left at_bottom_right at_top_right at_top_left) calls
    → (closeness s t : Float)
    → subs_of closeness (map_after_all e (new_tmesh weight at_bottom_left at_bottom_right at_top_right at_top_left) calls) s t
    ≡ plain_subs closeness (map_after_all e (new_tmesh weight at_bottom_left at_bottom_right at_top_right at_top_left) calls) s t

-- ---- what does not see them
-- a map with every pull 1.0
abbrev pub all_unpulled : Tmesh → Tmesh
all_unpulled own =
    record {
      mesh = record { points = own.mesh.points; made = own.mesh.made; places = map (λ place. unpulled place.position) own.mesh.places; listed = own.mesh.listed };
      kept = own.kept;
      knots = own.knots;
      index = own.index;
    }

-- a list without its settings of pulls
abbrev pub is_pulling : Call → Bool
is_pulling (insertion withdraws con d ratio position) = false
is_pulling (evaluation s t) = false
is_pulling (set_point_call s t) = false
is_pulling (question cell) = false
is_pulling (pulling n pull) = true

abbrev pub sets_pull : MapCall → Bool
sets_pull (entry call) = is_pulling call
sets_pull generate_knot_vectors_call = false
sets_pull (point_knot_vectors_call n) = false
sets_pull (cast_ray_call n d buffer) = false
sets_pull (direct call) = false

unfoldable pub without_settings : List MapCall → List MapCall
without_settings [] = []
without_settings (call ∷ rest) = cond (sets_pull call) (without_settings rest) (call ∷ without_settings rest)

-- On every map: but for the pulls a list leaves the map that it leaves without its settings of pulls.
abbrev pub PullsUnseen : Type 0
PullsUnseen = (e : Float) (own : Tmesh) (calls : List MapCall) → all_unpulled (map_after_all e own calls) ≡ all_unpulled (map_after_all e own (without_settings calls))

-- whether a call is an evaluation or a set-point
abbrev pub asks_value : Call → Bool
asks_value (insertion withdraws con d ratio position) = false
asks_value (evaluation s t) = true
asks_value (set_point_call s t) = true
asks_value (question cell) = false
asks_value (pulling n pull) = false

abbrev pub evaluates : MapCall → Bool
evaluates (entry call) = asks_value call
evaluates generate_knot_vectors_call = false
evaluates (point_knot_vectors_call n) = false
evaluates (cast_ray_call n d buffer) = false
evaluates (direct call) = false

-- On every map: every call but an evaluation and a set-point tells what it tells where every pull is 1.0.
abbrev pub PullsUntold : Type 0
PullsUntold = (e : Float) (own : Tmesh) (call : MapCall) → evaluates call ≡ false → told_to e own call ≡ told_to e (all_unpulled own) call
