-- Laws of an evaluation that goes point by point over a lent mesh and keeps no knots: a point's share over the arrays is that in the map whose knots all are filled, so the sums so
-- far are those by them, and the end of the turns is the answer of `subs`.
use Prim.Native.Nat.{ℕ, ◌+◌, ◌<◌}
use mathlib.Core.Path.{◌≡◌, sym, ap, ◌∙◌}
use mathlib.Core.Bool.{true, false}
use mathlib.Core.List.{List}
use lib.Ieee.{Float, binary64, add, div}
use lib.ListN.{get_or}
use Rattle.float64.specs.Literals.{zero_literal}
use Rattle.control_point.specs.declared.refusal.Refusal.{Refusal}
use Rattle.grid_index.specs.Index.{knots_in, index_of}
use Rattle.knot_vectors.specs.Knots.{AllKnots, all, none, all_knots, keeping, generate_knot_vectors}
use Rattle.lent_knots.proofs.TurnLaws.{FilledTo, lent_knots, filled_none, filled_all, filled_passed, filled_refused, filled_put, filled_row}
use Rattle.lent_mesh.specs.LentMesh.{unpulled_at, lent_mesh, unkept, lent_map}
use Rattle.lent_mesh.specs.declared.LentMesh.{LentMesh}
use Rattle.ray.specs.declared.knots.KnotsAnswer.{KnotsAnswer}
use Rattle.ray.specs.declared.knots.PointKnots.{PointKnots}
use Rattle.surface.specs.Evaluation.{share_by, value_of, answer_by, with_knots, subs_of}
use Rattle.surface.proofs.EvaluationLaws.{Sums, sums_start, sums_end, sums_added, sums_passed}
use Rattle.surface.specs.declared.evaluation.Share.{Share}
use Rattle.t_mesh.specs.Tmesh.{no_place, listed_in}
use Rattle.t_mesh.specs.declared.t_mesh.Mesh.{Mesh}
use Rattle.t_mesh.specs.declared.t_mesh.Place.{Place}
use Rattle.t_mesh.specs.declared.t_mesh.Tmesh.{Tmesh}
use Rattle.values.proofs.ValuesLaws.{values_first}
use Rattle.std.specs.Prelude.{Err, Ok}

-- ---- what stands at a turn
-- a mesh as a map that keeps knots
abbrev pub kept_map : Mesh → List PointKnots → Tmesh
kept_map mesh rows = record { mesh = mesh; kept = true; knots = rows; index = index_of mesh.listed rows }

-- the rows of the points below n are filled, and where no refusal is to come the sums by the knots of all stand at n
pub record Turn (e : Float) (mesh : Mesh) (s t : Float) (n : ℕ) (x y z weight : Float) : Type 0 where
  pub filled : FilledTo e mesh n
  pub sums : (rows : List PointKnots) → all_knots e (unkept mesh) ≡ all rows → Sums (kept_map mesh rows) s t n x y z weight

-- ---- `subs` of a map that keeps no knots
-- its answer, by the knots of all listed points or the refusal met
subs_by : (e : Float) (mesh : Mesh) (s t : Float) (rows : AllKnots) → all_knots e (unkept mesh) ≡ rows
    → (subs_of e (unkept mesh) s t).answer ≡ answer_by (keeping (unkept mesh) rows).outcome (value_of (keeping (unkept mesh) rows).map s t)
unfolding subs_of with_knots generate_knot_vectors unkept
subs_by e mesh s t rows are = ap (λ (r : AllKnots). answer_by (keeping (unkept mesh) r).outcome (value_of (keeping (unkept mesh) r).map s t)) are

-- ---- the turns, in the map that lent arrays hold
module _ (e : Float) (lent : LentMesh) (s t : Float) where
  abbrev map : Tmesh
  map = lent_map lent

  abbrev mesh : Mesh
  mesh = lent_mesh lent

  abbrev pub LentTurn : ℕ → Float → Float → Float → Float → Type 0
  LentTurn n x y z weight = Turn e mesh s t n x y z weight

  pub turn_first : LentTurn 0 zero_literal zero_literal zero_literal zero_literal
  turn_first =
      record {
        filled = filled_none e lent;
        sums = λ rows are. sums_start (kept_map mesh rows) s t;
      }

  module _ (n : ℕ) (x y z weight : Float) (turn : LentTurn n x y z weight) where
    pub turn_end : n ≡ 128 → Ok (record { x = div binary64 x weight; y = div binary64 y weight; z = div binary64 z weight; weight = weight }) ≡ (subs_of e map s t).answer
    unfolding unkept
    turn_end h =
        let rows = turn.filled.rows in
        let are = filled_all e lent n turn.filled h in
        ap Ok (sums_end (kept_map mesh rows) s t n x y z weight h (turn.sums rows are)) ∙ sym (subs_by e mesh s t (all rows) are)

    module _ (h : n < 128) where
      pub turn_passed : listed_in lent.listed n ≡ false → (x' y' z' weight' : Float) → x' ≡ x → y' ≡ y → z' ≡ z → weight' ≡ weight → LentTurn (n + 1) x' y' z' weight'
      turn_passed l x' y' z' weight' a b c d =
          record {
            filled = filled_passed e lent n turn.filled h l;
            sums = λ rows are. sums_passed (kept_map mesh rows) s t n x y z weight x' y' z' weight' h (turn.sums rows are) l a b c d;
          }

      module _ (built : KnotsAnswer) (k : built ≡ lent_knots e lent n) (l : listed_in lent.listed n ≡ true) where
        pub turn_refused : (refusal : Refusal) → built.outcome ≡ Err refusal → Err refusal ≡ (subs_of e map s t).answer
        turn_refused refusal o =
            sym (subs_by e mesh s t (none refusal) (filled_refused e lent n turn.filled h built k l refusal o))

        pub turn_added : built.outcome ≡ Ok tt → (place : Place) → place ≡ unpulled_at lent.positions n → (share : Share) → share ≡ share_by built.knots place s t
            → (x' y' z' weight' : Float) → x' ≡ add binary64 x share.x → y' ≡ add binary64 y share.y → z' ≡ add binary64 z share.z → weight' ≡ add binary64 weight share.weight
            → LentTurn (n + 1) x' y' z' weight'
        turn_added o place held share is x' y' z' weight' a b c d =
            record {
              filled = filled_put e lent n turn.filled h built k l o;
              sums = λ rows are. sums_added (kept_map mesh rows) s t n x y z weight x' y' z' weight' h (turn.sums rows are) share l (shared rows are) a b c d;
            }
          where
            stands : place ≡ get_or mesh.places n no_place
            stands = held ∙ sym (values_first (unpulled_at lent.positions) no_place 128 n h)

            shared : (rows : List PointKnots) → all_knots e map ≡ all rows → share ≡ share_by (knots_in rows n) (get_or mesh.places n no_place) s t
            shared rows are =
                is
                ∙ ap (λ (p : Place). share_by built.knots p s t) stands
                ∙ ap (λ (own : PointKnots). share_by own (get_or mesh.places n no_place) s t)
                (sym (filled_row e lent n turn.filled h built k l o rows are))
