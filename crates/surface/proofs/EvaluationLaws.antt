-- Laws of evaluation: a point's part by its two basis functions; a sum that stands at a number is the whole sum once the rest is added, whatever its parts are; the four sums of an
-- evaluation stand together; maps that agree at their listed points have one value; the map by whose knots it is; what its tables say; and its number, which is that of what it tells.
use Prim.Native.Nat.{ℕ, zero, suc, ◌+◌, ◌-◌, ◌<◌}
use Rattle.std.specs.Prelude.{◌≡◌, Bool, Float, Err, Ok, Result, ⊤}
use Rattle.std.proofs.Math.Path.{refl, ap}
use Rattle.std.proofs.Common.{◌∙◌, arith}
use Rattle.std.proofs.Math.Bool.{true, false, cond}
use Rattle.std.specs.Float.Ieee.{binary64, add, mul, div}
use Rattle.float64.specs.Literals.{zero_literal}
use Rattle.basis.specs.Binary64.{binary64_arithmetic, knots}
use Rattle.basis.specs.Formula.{formula}
use Rattle.control_point.specs.Told.{Told, refused_or, number_of}
use Rattle.ray.specs.declared.knots.PointKnots.{PointKnots}
use Rattle.t_mesh.specs.Tmesh.{Axis, X, Y, Z, coordinate, place_under, position_of, is_listed}
use Rattle.t_mesh.specs.declared.t_mesh.Place.{Place}
use Rattle.t_mesh.specs.declared.t_mesh.Position.{Position}
use Rattle.t_mesh.specs.declared.t_mesh.Tmesh.{Tmesh}
use Rattle.surface.specs.Evaluation.{knots_of, weight_of, share_by, sum_from, sum_of, share_with, value_with, value_told, evaluation_told, evaluation_number, value_of, answer_by, evaluated_by, with_knots, with_knots_table, subs_of, subs_table}
use Rattle.knot_vectors.specs.Knots.{AllKnots, all, none, all_knots, keeping, generate_knot_vectors}
use Rattle.surface.specs.declared.evaluation.Evaluation.{Evaluation}
use Rattle.surface.specs.declared.evaluation.Share.{Share}
use Rattle.knot_vectors.specs.declared.knots.Generated.{Generated}
use Rattle.control_point.specs.declared.refusal.Refusal.{Refusal}

-- ---- a point's part, by its two basis functions
pub share_by_basis : (own : PointKnots) (place : Place) (s t across upwards : Float) → across ≡ formula binary64_arithmetic s (knots own.s)
    → upwards ≡ formula binary64_arithmetic t (knots own.t)
    → let weight = mul binary64 (mul binary64 across upwards) place.pull in
    record { x = mul binary64 place.position.x weight; y = mul binary64 place.position.y weight; z = mul binary64 place.position.z weight; weight = weight }
    ≡ share_by own place s t
share_by_basis own place s t across upwards first second = rw (first, second)

-- ---- sums
-- the sum of the parts below n
abbrev pub Standing : Tmesh → (ℕ → Float) → ℕ → Float → Type 0
Standing map part n sum = sum_of map part ≡ sum_from map part (128 - n) n sum

module _ (map : Tmesh) (part : ℕ → Float) where
  sum_end : (left n : ℕ) (sum : Float) → left ≡ 0 → sum_from map part left n sum ≡ sum
  unfolding sum_from
  sum_end left n sum h = simp h

  sum_step : (left more n : ℕ) (sum next : Float) → left ≡ suc more → next ≡ cond (is_listed map n) (add binary64 sum (part n)) sum
      → sum_from map part left n sum ≡ sum_from map part more (n + 1) next
  unfolding sum_from
  sum_step left more n sum next h k = rw k (simp h)

  standing_end : (n : ℕ) (sum : Float) → n ≡ 128 → Standing map part n sum → sum_of map part ≡ sum
  standing_end n sum h standing = standing ∙ sum_end (128 - n) n sum (omega arith)

  module _ (n : ℕ) (sum next : Float) (h : n < 128) (standing : Standing map part n sum) where
    standing_next : next ≡ cond (is_listed map n) (add binary64 sum (part n)) sum → Standing map part (n + 1) next
    standing_next k = standing ∙ sum_step (128 - n) (128 - (n + 1)) n sum next (omega arith) k

    standing_added : (share : Float) → is_listed map n ≡ true → share ≡ part n → next ≡ add binary64 sum share → Standing map part (n + 1) next
    standing_added share l p k = standing_next (k ∙ simp (l, p))

    standing_passed : is_listed map n ≡ false → next ≡ sum → Standing map part (n + 1) next
    standing_passed l k = standing_next (k ∙ simp l)

-- ---- the four sums of an evaluation
pub record Sums (map : Tmesh) (s t : Float) (n : ℕ) (x y z weight : Float) : Type 0 where
  pub on_x : Standing map (share_with (weight_of map s t) X map) n x
  pub on_y : Standing map (share_with (weight_of map s t) Y map) n y
  pub on_z : Standing map (share_with (weight_of map s t) Z map) n z
  pub of_weight : Standing map (weight_of map s t) n weight

module _ (map : Tmesh) (s t : Float) where
  pub sums_start : Sums map s t 0 zero_literal zero_literal zero_literal zero_literal
  sums_start = record { on_x = refl; on_y = refl; on_z = refl; of_weight = refl }

  pub sums_end : (n : ℕ) (x y z weight : Float) → n ≡ 128 → Sums map s t n x y z weight
      → record { x = div binary64 x weight; y = div binary64 y weight; z = div binary64 z weight; weight = weight } ≡ value_of map s t
  unfolding value_of
  sums_end n x y z weight h sums =
      rw (
        standing_end map (share_with (weight_of map s t) X map) n x h sums.on_x,
        standing_end map (share_with (weight_of map s t) Y map) n y h sums.on_y,
        standing_end map (share_with (weight_of map s t) Z map) n z h sums.on_z,
        standing_end map (weight_of map s t) n weight h sums.of_weight,
      )

  module _ (n : ℕ) (x y z weight x' y' z' weight' : Float) (h : n < 128) (sums : Sums map s t n x y z weight) where
    pub sums_added : (share : Share) → is_listed map n ≡ true → share ≡ share_by (knots_of map n) (place_under map n) s t
        → x' ≡ add binary64 x share.x → y' ≡ add binary64 y share.y → z' ≡ add binary64 z share.z → weight' ≡ add binary64 weight share.weight
        → Sums map s t (n + 1) x' y' z' weight'
    sums_added share l k a b c d =
        record {
          on_x = standing_added map (share_with (weight_of map s t) X map) n x x' h sums.on_x share.x l (ap (λ (p : Share). p.x) k) a;
          on_y = standing_added map (share_with (weight_of map s t) Y map) n y y' h sums.on_y share.y l (ap (λ (p : Share). p.y) k) b;
          on_z = standing_added map (share_with (weight_of map s t) Z map) n z z' h sums.on_z share.z l (ap (λ (p : Share). p.z) k) c;
          of_weight = standing_added map (weight_of map s t) n weight weight' h sums.of_weight share.weight l (ap (λ (p : Share). p.weight) k) d;
        }

    pub sums_passed : is_listed map n ≡ false → x' ≡ x → y' ≡ y → z' ≡ z → weight' ≡ weight → Sums map s t (n + 1) x' y' z' weight'
    sums_passed l a b c d =
        record {
          on_x = standing_passed map (share_with (weight_of map s t) X map) n x x' h sums.on_x l a;
          on_y = standing_passed map (share_with (weight_of map s t) Y map) n y y' h sums.on_y l b;
          on_z = standing_passed map (share_with (weight_of map s t) Z map) n z z' h sums.on_z l c;
          of_weight = standing_passed map (weight_of map s t) n weight weight' h sums.of_weight l d;
        }

-- ---- two maps of one listing, with weights that agree at each listed number
module _ (one other : Tmesh) (same-listing : (n : ℕ) → n < 128 → is_listed one n ≡ is_listed other n) where
  sums_alike : (part own : ℕ → Float) → ((n : ℕ) → n < 128 → is_listed one n ≡ true → part n ≡ own n) → (left n : ℕ) (sum : Float) → n + left ≡ 128
      → sum_from one part left n sum ≡ sum_from other own left n sum
  unfolding sum_from
  sums_alike part own same zero n sum e = refl
  sums_alike part own same (suc left) n sum e =
      ap (sum_from one part left (n + 1))
      (by_test (is_listed one n) (λ listed. same n (omega (arith, e)) listed)
      ∙ ap (λ (b : Bool). cond b (add binary64 sum (own n)) sum) (same-listing n (omega (arith, e))))
      ∙ sums_alike part own same left (n + 1) (cond (is_listed other n) (add binary64 sum (own n)) sum) (omega (arith, e))
    where
      by_test : (b : Bool) → (b ≡ true → part n ≡ own n) → cond b (add binary64 sum (part n)) sum ≡ cond b (add binary64 sum (own n)) sum
      by_test true h = ap (add binary64 sum) (h refl)
      by_test false h = refl

  module _ (weight own : ℕ → Float) (same : (n : ℕ) → n < 128 → is_listed one n ≡ true → weight n ≡ own n) where
    pub total_alike : sum_of one weight ≡ sum_of other own
    total_alike = sums_alike weight own same 128 0 zero_literal refl

    -- and positions that agree there too
    module _ (there : (n : ℕ) → n < 128 → is_listed one n ≡ true → position_of one n ≡ position_of other n) where
      share_alike : (axis : Axis) → sum_of one (share_with weight axis one) ≡ sum_of other (share_with own axis other)
      share_alike axis =
          sums_alike (share_with weight axis one) (share_with own axis other)
          (λ n h listed.
          ap (λ (position : Position). mul binary64 (coordinate axis position) (weight n)) (there n h listed)
          ∙ ap (mul binary64 (coordinate axis (position_of other n))) (same n h listed))
          128 0 zero_literal refl

      pub value_alike : value_with weight one ≡ value_with own other
      value_alike = rw (share_alike X, share_alike Y, share_alike Z, total_alike)

-- ---- the map by whose knots it is
module _ (e : Float) (map : Tmesh) where
  -- it has the mesh of the map, which a building leaves
  pub generated_mesh : (generate_knot_vectors e map).map.mesh ≡ map.mesh
  unfolding generate_knot_vectors
  generated_mesh = by_rows (all_knots e map)
    where
      by_rows : (rows : AllKnots) → (keeping map rows).map.mesh ≡ map.mesh
      by_rows (all rows) = refl
      by_rows (none refusal) = refl

  pub ready_mesh : (with_knots e map).map.mesh ≡ map.mesh
  unfolding with_knots
  ready_mesh = by_test map.kept
    where
      by_test : (b : Bool) → (cond b (record { outcome = Ok tt; map = map }) (generate_knot_vectors e map)).map.mesh ≡ map.mesh
      by_test true = refl
      by_test false = generated_mesh

  module _ (outcome : Result ⊤ Refusal) (ready : Tmesh) where
    pub ready_kept : map.kept ≡ true → outcome ≡ Ok tt → ready ≡ map → record { outcome = outcome; map = ready } ≡ with_knots e map
    unfolding with_knots
    ready_kept h o m = rw (o, m) (simp h)

    pub ready_built : (generated : Generated) → generated ≡ generate_knot_vectors e map → map.kept ≡ false → outcome ≡ generated.outcome → ready ≡ generated.map
        → record { outcome = outcome; map = ready } ≡ with_knots e map
    unfolding with_knots
    ready_built generated g h o m = rw (o, m) (simp h g)

  pub evaluated_ready : (s t : Float) (outcome : Result ⊤ Refusal) (ready : Tmesh) (value : Evaluation) (answer : Result Evaluation Refusal)
      → record { outcome = outcome; map = ready } ≡ with_knots e map → value ≡ value_of ready s t → answer ≡ answer_by outcome value
      → record { answer = answer; map = ready } ≡ subs_of e map s t
  unfolding subs_of
  evaluated_ready s t outcome ready value answer h v a = rw (a, v) (ap (λ (x : Generated). evaluated_by x.outcome x.map s t) h)

-- ---- it tells what its table says
-- what is told of the knots kept or built, or else of the refusal, is the table of what wants knots
pub with_knots_told : (e : Float) (map : Tmesh) (next : Tmesh → Told) → refused_or (with_knots e map).outcome (next (with_knots e map).map) ≡ with_knots_table e map next
unfolding with_knots
with_knots_told e map next = by_test map.kept
  where
    by_test : (b : Bool)
        → refused_or (cond b (record { outcome = Ok tt; map = map }) (generate_knot_vectors e map)).outcome (next (cond b (record { outcome = Ok tt; map = map }) (generate_knot_vectors e map)).map)
        ≡ cond b (next map) (refused_or (generate_knot_vectors e map).outcome (next (generate_knot_vectors e map).map))
    by_test true = refl
    by_test false = refl

answer_told_lem : (outcome : Result ⊤ Refusal) (value : Evaluation) → evaluation_told (answer_by outcome value) ≡ refused_or outcome (value_told value)
answer_told_lem (Ok tt) value = refl
answer_told_lem (Err refusal) value = refl

pub subs_told : (e : Float) (map : Tmesh) (s t : Float) → evaluation_told (subs_of e map s t).answer ≡ subs_table e map s t
unfolding subs_of
subs_told e map s t = answer_told_lem (with_knots e map).outcome (value_of (with_knots e map).map s t) ∙ with_knots_told e map (λ own. value_told (value_of own s t))

-- ---- its number
pub evaluation_numbered : (answer : Result Evaluation Refusal) → number_of answer ≡ evaluation_number answer
evaluation_numbered (Ok value) = refl
evaluation_numbered (Err refusal) = refl
