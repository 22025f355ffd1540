-- `Tmesh::new` makes a sound map, and insertion, evaluation, set-point, question and the setting of a pull keep it sound; an evaluation of a sound map is a mean of numbers in 0 to 1
-- with weights that are products of two basis functions and a pull, so NaN or not negative.
use Prim.Native.Nat.{ℕ, zero, suc, ◌+◌}
use Rattle.std.specs.Prelude.{◌≡◌, refl, Bool, cond, List, [], ◌∷◌, T, Float, get_or, set, replicate, Err, Ok, Result, ⊤}
use Rattle.std.proofs.Common.{sym, subst}
use Rattle.std.proofs.Math.Bool.{true, false}
use Rattle.std.proofs.lemmas.Bool.{false≢true}
use Rattle.std.specs.Float.{inf}
use Rattle.std.specs.Float.Ieee.{binary64, add, le, lt, fits}
use Rattle.std.specs.Float.Ieee.Fits.{nan-fits, mul-fits}
use Rattle.float64.specs.Literals.{zero_literal, one_literal}
use Rattle.float64.specs.Unit.{in_unit}
use Rattle.float64.specs.Sign.{0f}
use Rattle.float64.proofs.SignLaws.{literal_zero, literal_one, le→nonneg, nonneg→nonneg_or_nan, nonneg_or_nan_mul}
use Rattle.float64.specs.Mean.{Admitted}
use Rattle.float64.proofs.MeanLaws.{Bounded, start, step, finish}
use Rattle.basis.specs.Binary64.{binary64_arithmetic, knots}
use Rattle.basis.specs.Formula.{formula}
use Rattle.control_point.specs.Point.{side_of, blank, loose_point}
use Rattle.control_point.specs.declared.t_mesh_direction.TmeshDirection.{TmeshDirection}
use Rattle.control_point.specs.declared.t_mesh_direction.TmeshDirection.TheVariants.{Up, Right, Down, Left}
use Rattle.control_point.specs.declared.t_mesh_control_point.Side.{Side}
use Rattle.store.specs.declared.store.Store.{Store}
use Rattle.insertion.specs.Insert.{insert_point}
use Rattle.insertion.specs.declared.insertion.Insertion.TheVariants.{Done, Torn}
use Rattle.t_mesh.specs.Tmesh.{Axis, X, Y, Z, coordinate, unpulled, no_place, position_of, pull_of, store_of, is_listed, corner, corner_store, origin, blank_knots, new_tmesh}
use Rattle.t_mesh.specs.Insertion.{after_insertion, add_control_point}
use Rattle.t_mesh.specs.declared.t_mesh.Place.{Place}
use Rattle.t_mesh.specs.declared.t_mesh.Position.{Position}
use Rattle.t_mesh.specs.declared.t_mesh.Tmesh.{Tmesh}
use Rattle.pull.specs.Pull.{can_pull, repulled, set_pull}
use Rattle.knot_vectors.specs.Knots.{AllKnots, all, none, all_knots, keeping, generate_knot_vectors}
use Rattle.grid_index.specs.Index.{no_knots}
use Rattle.surface.specs.Evaluation.{knots_of, basis_of, weight_of, sum_from, share_with, mean_with, total_weight, value_of, with_knots, subs_of, evaluated_by}
use Rattle.surface.specs.SetPoint.{weighty, where_weighty, weighed, set_point}
use Rattle.surface.proofs.SetPointLaws.{set_point_case}
use Rattle.knot_vectors.specs.declared.knots.Generated.{Generated}
use Rattle.cells.specs.Cells.{cell_points}
use Rattle.calls.specs.Calls.{evaluated}
use Rattle.calls.specs.FullStroke.{InUnit}
use Rattle.counting.proofs.BoolLaws.{cond_case, and_both}
use Rattle.calls.proofs.ListLaws.{set_case, replicate_case}
use Rattle.calls.specs.Good.{NotNegative, GoodSide, GoodPoint, GoodStore, GoodKnots, GoodRows}
use Rattle.calls.proofs.GoodLaws.{zero_not_negative, loose_point_lem, point_inserted}
use Rattle.calls.proofs.GoodKnotsLaws.{blank_knots_lem, no_knots_lem, good_rows}
use Rattle.calls.proofs.PullingLaws.{pulled_case}
use Rattle.calls.proofs.RowsLaws.{OfRows}
use Rattle.calls.specs.Sound.{ListedInUnit, Sound, ValueInUnit, ValueInUnitAt, AnswerInUnit}
use Rattle.control_point.specs.declared.refusal.Refusal.{Refusal}
use Rattle.insertion.specs.declared.insertion.Insertion.{Insertion}
use Rattle.surface.specs.declared.evaluation.Evaluation.{Evaluation}

-- ---- listed places
module _ (axis : Axis) where
  -- a number with its place
  placed : (listed : List Bool) (places : List Place) (n : ℕ) (now : Bool) (place : Place)
      → (now ≡ true → InUnit (coordinate axis place.position))
      → ListedInUnit axis listed places → ListedInUnit axis (set listed n now) (set places n place)
  placed [] places n now place h k = tt
  placed (l ∷ more) [] n now place h k = absurd k
  placed (l ∷ more) (p ∷ places) zero now place h k = (h, k.1)
  placed (l ∷ more) (p ∷ places) (suc n) now place h k = (k.0, placed more places n now place h k.1)

  -- a number with another pull
  pulled_at : (listed : List Bool) (places : List Place) (n : ℕ) (pull : Float) → ListedInUnit axis listed places
      → ListedInUnit axis listed (set places n (repulled (get_or places n no_place) pull))
  pulled_at [] places n pull k = tt
  pulled_at (l ∷ more) [] n pull k = absurd k
  pulled_at (l ∷ more) (p ∷ places) zero pull k = k
  pulled_at (l ∷ more) (p ∷ places) (suc n) pull k = (k.0, pulled_at more places n pull k.1)

  -- a listed number's position
  listed_at : (listed : List Bool) (places : List Place) (n : ℕ) → ListedInUnit axis listed places → get_or listed n false ≡ true
      → InUnit (coordinate axis (get_or places n no_place).position)
  listed_at [] places n k e = absurd (false≢true e)
  listed_at (l ∷ more) [] n k e = absurd k
  listed_at (l ∷ more) (p ∷ places) zero k e = k.0 e
  listed_at (l ∷ more) (p ∷ places) (suc n) k e = listed_at more places n k.1 e

  -- none of so many is listed
  none_listed : (n : ℕ) (place : Place) → ListedInUnit axis (replicate n false) (replicate n place)
  none_listed zero place = tt
  none_listed (suc n) place = ((λ e. absurd (false≢true e)), none_listed n place)

-- a place whose pull is not negative
abbrev GoodPlace : Place → Type 0
GoodPlace place = NotNegative place.pull

-- ---- `Tmesh::new`
one_not_negative : NotNegative one_literal
one_not_negative = rw literal_one tt

zero_fits : T (fits binary64 zero_literal)
zero_fits = rw literal_zero (unfold fits in tt)

one_fits : T (fits binary64 one_literal)
one_fits = rw literal_one (unfold fits in tt)

four_sides_lem : (up right down left : Side) (s t : Float) → GoodSide up → GoodSide right → GoodSide down → GoodSide left → T (fits binary64 s)
    → T (fits binary64 t) → GoodPoint (corner up right down left s t)
four_sides_lem up right down left s t u r d l f g = record { sides = each; s_fits = f; t_fits = g }
  where
    each : (e : TmeshDirection) → GoodSide (side_of (corner up right down left s t) e)
    each Up = u
    each Right = r
    each Down = d
    each Left = l

pub corner_store_lem : (weight : Float) → NotNegative weight → GoodStore (corner_store weight)
corner_store_lem weight h zero = four_sides_lem _ _ _ _ _ _ one_not_negative one_not_negative h h zero_fits zero_fits
corner_store_lem weight h (suc zero) = four_sides_lem _ _ _ _ _ _ one_not_negative h h one_not_negative one_fits zero_fits
corner_store_lem weight h (suc (suc zero)) = four_sides_lem _ _ _ _ _ _ h h one_not_negative one_not_negative one_fits one_fits
corner_store_lem weight h (suc (suc (suc zero))) = four_sides_lem _ _ _ _ _ _ h one_not_negative one_not_negative h zero_fits one_fits
corner_store_lem weight h (suc (suc (suc (suc n)))) =
    replicate_case GoodPoint 124 n (loose_point zero_literal) blank (loose_point_lem zero_literal zero_not_negative) past_end
  where
    past_end : GoodPoint blank
    past_end = four_sides_lem _ _ _ _ _ _ tt tt tt tt (nan-fits binary64) (nan-fits binary64)

fresh_pulls : (weight : Float) (at_bottom_left at_bottom_right at_top_right at_top_left : Position) (n : ℕ)
    → NotNegative (pull_of (new_tmesh weight at_bottom_left at_bottom_right at_top_right at_top_left) n)
unfolding new_tmesh
fresh_pulls weight at_bottom_left at_bottom_right at_top_right at_top_left zero = one_not_negative
fresh_pulls weight at_bottom_left at_bottom_right at_top_right at_top_left (suc zero) = one_not_negative
fresh_pulls weight at_bottom_left at_bottom_right at_top_right at_top_left (suc (suc zero)) = one_not_negative
fresh_pulls weight at_bottom_left at_bottom_right at_top_right at_top_left (suc (suc (suc zero))) = one_not_negative
fresh_pulls weight at_bottom_left at_bottom_right at_top_right at_top_left (suc (suc (suc (suc n)))) =
    replicate_case GoodPlace 124 n (unpulled origin) no_place one_not_negative tt

pub new_sound : (axis : Axis) (weight : Float) (at_bottom_left at_bottom_right at_top_right at_top_left : Position) → NotNegative weight
    → InUnit (coordinate axis at_bottom_left) → InUnit (coordinate axis at_bottom_right) → InUnit (coordinate axis at_top_right) → InUnit (coordinate axis at_top_left)
    → Sound axis (new_tmesh weight at_bottom_left at_bottom_right at_top_right at_top_left)
unfolding new_tmesh
new_sound axis weight at_bottom_left at_bottom_right at_top_right at_top_left h a b c d =
    record {
      mesh = corner_store_lem weight h;
      rows = λ n. replicate_case GoodKnots 128 n blank_knots no_knots blank_knots_lem no_knots_lem;
      points = ((λ _. a), ((λ _. b), ((λ _. c), ((λ _. d), none_listed axis 124 (unpulled origin)))));
      pulls = fresh_pulls weight at_bottom_left at_bottom_right at_top_right at_top_left;
    }

-- ---- insertion
pub insertion_sound : (axis : Axis) (e : Float) (map : Tmesh) → Sound axis map → (con : ℕ) (d : TmeshDirection) (ratio : Float) (position : Position)
    → ((opened links : ℕ) → (add_control_point e map con d ratio position).answer ≡ Ok (Done opened links) → InUnit (coordinate axis position))
    → Sound axis (add_control_point e map con d ratio position).map
unfolding add_control_point
insertion_sound axis e map sound con d ratio position =
    by_answer (insert_point e (store_of map) (is_listed map con) con d ratio).answer
    (insert_point e (store_of map) (is_listed map con) con d ratio).store
    (point_inserted (store_of map) sound.mesh con d ratio e (is_listed map con))
  where
    next : ℕ
    next = (store_of map).made

    listing : (now : Bool) → (now ≡ true → InUnit (coordinate axis position))
        → ListedInUnit axis (set map.mesh.listed next now) (set map.mesh.places next (unpulled position))
    listing now h = placed axis map.mesh.listed map.mesh.places next now (unpulled position) h sound.points

    pulls : (n : ℕ) → GoodPlace (get_or (set map.mesh.places next (unpulled position)) n no_place)
    pulls n = set_case GoodPlace map.mesh.places next n (unpulled position) no_place one_not_negative (sound.pulls n)

    by_answer : (answer : Result Insertion Refusal) (store : Store) → GoodStore store
        → ((opened links : ℕ) → answer ≡ Ok (Done opened links) → InUnit (coordinate axis position))
        → Sound axis (after_insertion map position answer store)
    by_answer (Ok (Done opened links)) store good h =
        record { mesh = good; rows = sound.rows; points = listing true (λ _. h opened links refl); pulls = pulls }
    by_answer (Ok (Torn opened links)) store good h =
        record { mesh = good; rows = sound.rows; points = listing false (λ e. absurd (false≢true e)); pulls = pulls }
    by_answer (Err refusal) store good h = sound

-- ---- evaluation
module _ (axis : Axis) (map : Tmesh) (sound : Sound axis map) (s t : Float) where
  entry_admitted : (n : ℕ) → is_listed map n ≡ true → Admitted (coordinate axis (position_of map n), weight_of map s t n)
  entry_admitted n e =
      let b = formula binary64_arithmetic s (knots (knots_of map n).s) in
      let c = formula binary64_arithmetic t (knots (knots_of map n).t) in
      let k = listed_at axis map.mesh.listed map.mesh.places n sound.points e in
      let basis≥0 = nonneg_or_nan_mul binary64 b c ((sound.rows n).in_s s) ((sound.rows n).in_t t) in
      record {
        value≥0 = k.0;
        value≤1 = k.1;
        weight≥0 = nonneg_or_nan_mul binary64 (basis_of map s t n) (pull_of map n) basis≥0 (sound.pulls n);
        weight_fits = mul-fits binary64 (basis_of map s t n) (pull_of map n);
      }

  sums_bounded : (left n : ℕ) (numerator denominator : Float) → Bounded numerator denominator
      → Bounded (sum_from map (share_with (weight_of map s t) axis map) left n numerator) (sum_from map (weight_of map s t) left n denominator)
  unfolding sum_from
  sums_bounded zero n numerator denominator h = h
  sums_bounded (suc left) n numerator denominator h = sums_bounded left (n + 1) _ _ (by_test (is_listed map n) refl)
    where
      by_test : (b : Bool) → is_listed map n ≡ b
          → Bounded (cond b (add binary64 numerator (share_with (weight_of map s t) axis map n)) numerator) (cond b (add binary64 denominator (weight_of map s t n)) denominator)
      by_test true e = step numerator denominator (coordinate axis (position_of map n), weight_of map s t n) (entry_admitted n e) h
      by_test false e = h

  mean_in_unit : T (lt 0f (total_weight map s t)) → T (lt (total_weight map s t) (inf false)) → InUnit (mean_with (weight_of map s t) axis map)
  mean_in_unit = finish _ _ (sums_bounded 128 0 zero_literal zero_literal (rw literal_zero start))

value_in_unit : (axis : Axis) (map : Tmesh) → Sound axis map → (s t : Float) → AnswerInUnit axis (evaluated (Ok (value_of map s t)))
unfolding value_of
value_in_unit X map sound s t = mean_in_unit X map sound s t
value_in_unit Y map sound s t = mean_in_unit Y map sound s t
value_in_unit Z map sound s t = mean_in_unit Z map sound s t

-- with the knots kept, or those built
with_knots_lem : (axis : Axis) (e : Float) (map : Tmesh) → Sound axis map → Sound axis (with_knots e map).map
unfolding with_knots generate_knot_vectors
with_knots_lem axis e map sound =
    cond_case map.kept SoundMap _ _ (λ _. sound)
    (λ _. kept (all_knots e map) (good_rows e map sound.mesh sound.rows))
  where
    SoundMap : Generated → Type 0
    SoundMap generated = Sound axis generated.map

    kept : (rows : AllKnots) → OfRows GoodRows rows → Sound axis (keeping map rows).map
    kept (all rows) h = record { mesh = sound.mesh; rows = h; points = sound.points; pulls = sound.pulls }
    kept (none refusal) h = sound

pub evaluation_sound : (axis : Axis) (e : Float) (map : Tmesh) → Sound axis map → (s t : Float)
    → AnswerInUnit axis (evaluated (subs_of e map s t).answer) × Sound axis (subs_of e map s t).map
unfolding subs_of
evaluation_sound axis e map sound s t = by_outcome (with_knots e map).outcome (with_knots e map).map (with_knots_lem axis e map sound)
  where
    by_outcome : (outcome : Result ⊤ Refusal) (map : Tmesh) → Sound axis map
        → AnswerInUnit axis (evaluated (evaluated_by outcome map s t).answer) × Sound axis (evaluated_by outcome map s t).map
    by_outcome (Ok tt) map sound = (value_in_unit axis map sound s t, sound)
    by_outcome (Err refusal) map sound = (tt, sound)

-- ---- a set-point
-- an evaluation's answer, with its weight tested
weighed_in_unit : (axis : Axis) (answer : Result Evaluation Refusal) → AnswerInUnit axis (evaluated answer) → ValueInUnit axis (weighed answer)
unfolding where_weighty
weighed_in_unit axis (Ok value) h =
    cond_case (weighty value) (ValueInUnit axis) _ _
    (λ passed.
    let both = and_both (lt zero_literal value.weight) (lt value.weight (inf false)) passed in
    h (subst (λ (least : Float). T (lt least value.weight)) literal_zero (subst T (sym both.0) tt)) (subst T (sym both.1) tt))
    (λ _. tt)
weighed_in_unit axis (Err refusal) h = tt

-- a float that passes the test lies in 0 to 1
pub passes_in_unit : (x : Float) → in_unit x ≡ true → InUnit x
unfolding in_unit
passes_in_unit x h =
    let both = and_both (le zero_literal x) (le x one_literal) h in (
      subst (λ (least : Float). T (le least x)) literal_zero (subst T (sym both.0) tt),
      subst (λ (most : Float). T (le x most)) literal_one (subst T (sym both.1) tt),
    )

pub set_point_sound : (axis : Axis) (e : Float) (map : Tmesh) → Sound axis map → (s t : Float)
    → ValueInUnitAt axis s t (set_point e map s t).answer × Sound axis (set_point e map s t).map
set_point_sound axis e map sound s t =
    let evaluated = evaluation_sound axis e map sound s t in
    set_point_case e map s t (λ given. ValueInUnitAt axis s t given.answer × Sound axis given.map)
    (λ on.
    let both = and_both (in_unit s) (in_unit t) on in
    (placed (passes_in_unit s both.0) (passes_in_unit t both.1) (weighed (subs_of e map s t).answer) (weighed_in_unit axis (subs_of e map s t).answer evaluated.0), evaluated.1))
    (λ _. (tt, sound))
  where
    placed : InUnit s → InUnit t → (answer : Result Evaluation Refusal) → ValueInUnit axis answer → ValueInUnitAt axis s t answer
    placed in_s in_t (Ok value) h = (in_s, (in_t, h))
    placed in_s in_t (Err refusal) h = tt

-- ---- a question
pub question_sound : (axis : Axis) (e : Float) (map : Tmesh) → Sound axis map → (cell : ℕ) → Sound axis (cell_points e map cell).map
unfolding cell_points
question_sound axis e map sound cell = with_knots_lem axis e map sound

-- ---- a setting of a pull
can_not_negative : (pull : Float) → can_pull pull ≡ true → NotNegative pull
can_not_negative pull can =
    nonneg→nonneg_or_nan pull
    (le→nonneg pull (subst (λ (least : Float). T (le least pull)) literal_zero (subst T (sym (and_both (le zero_literal pull) (lt pull (inf false)) can).0) tt)))

pub pulling_sound : (axis : Axis) (map : Tmesh) → Sound axis map → (n : ℕ) (pull : Float) → Sound axis (set_pull map n pull).map
pulling_sound axis map sound n pull =
    pulled_case map n pull (Sound axis) sound
    (λ made can.
    record {
      mesh = sound.mesh;
      rows = sound.rows;
      points = pulled_at axis map.mesh.listed map.mesh.places n pull sound.points;
      pulls = λ m. set_case GoodPlace map.mesh.places n m _ no_place (can_not_negative pull can) (sound.pulls m);
    })
