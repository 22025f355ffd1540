-- Laws of a lent map: what the arrays hold once each point stands in them, that they hold the map that was lent, and its sums from there.
use Rattle.std.specs.Prelude.{ℕ, zero, suc, ◌<◌, ◌≡◌, Bool, List, [], ◌∷◌, map, Float, length, get_or, replicate, Err, Ok, Result, ⊤}
use Rattle.std.proofs.Math.Path.{refl, ap}
use Rattle.std.proofs.Common.{sym, ◌∙◌, arith}
use Rattle.std.proofs.lemmas.List.{length-map, length-replicate}
use Rattle.std.proofs.Math.ListN.{get_or-map}
use Rattle.float64.specs.Literals.{zero_literal}
use Rattle.control_point.specs.Told.{outcome_told, tells, refused_or}
use Rattle.control_point.specs.declared.refusal.Refusal.{Refusal}
use Rattle.values.proofs.ValuesLaws.{values_at, values_are, StoredTo, stored_all}
use Rattle.ray.specs.declared.knots.PointKnots.{PointKnots}
use Rattle.grid_index.specs.Index.{no_knots}
use Rattle.surface.specs.Evaluation.{knots_of, weight_by, weight_of, share_by, value_of, with_knots}
use Rattle.surface.specs.declared.evaluation.Share.{Share}
use Rattle.t_mesh.specs.Tmesh.{no_place, place_under, pull_of}
use Rattle.t_mesh.specs.declared.t_mesh.Place.{Place}
use Rattle.t_mesh.specs.declared.t_mesh.Tmesh.{Tmesh}
use Rattle.surface.proofs.EvaluationLaws.{value_alike, with_knots_told}
use Rattle.knot_vectors.specs.declared.knots.Generated.{Generated}
use Rattle.lent_surface.specs.Lent.{place_row, lent_place, LentArrays, Full, lent, lent_knots, held_map, held_by, lent_of, none_lent, lent_after, lend_of, lend_table}

-- ---- a list with a function of each element
with_each : {A B : Type 0} (f : A → B) (d : A) (list : List A) (count : ℕ) (array : List B) → count ≡ 128 → length list ≡ 128 → StoredTo (λ (n : ℕ). f (get_or list n d)) (f d) 128 count array → array ≡ map f list
with_each f d list count array e full so_far =
    stored_all (λ (n : ℕ). f (get_or list n d)) (f d) 128 count array e so_far
    ∙ sym (values_are (λ (n : ℕ). f (get_or list n d)) (f d) 128 (map f list) (length-map list f ∙ full) (λ n h. get_or-map f list n d))

-- every point and the listing stored, the arrays are the map's
pub all_lent : (own : Tmesh) (count : ℕ) (across upwards places : List (List Float)) → count ≡ 128 → length own.knots ≡ 128 → length own.mesh.places ≡ 128
    → StoredTo (λ (n : ℕ). (knots_of own n).s) [] 128 count across
    → StoredTo (λ (n : ℕ). (knots_of own n).t) [] 128 count upwards
    → StoredTo (λ (n : ℕ). place_row (place_under own n)) (place_row no_place) 128 count places
    → lent across upwards places own.mesh.listed ≡ lent_of own
unfolding lent_of
all_lent own count across upwards places e k p a u q =
    ap (λ (rows : List (List Float)). lent rows upwards places own.mesh.listed) (with_each (λ (x : PointKnots). x.s) no_knots own.knots count across e k a)
    ∙ ap (λ (rows : List (List Float)). lent (map (λ (x : PointKnots). x.s) own.knots) rows places own.mesh.listed)
    (with_each (λ (x : PointKnots). x.t) no_knots own.knots count upwards e k u)
    ∙ ap (λ (rows : List (List Float)). lent (map (λ (x : PointKnots). x.s) own.knots) (map (λ (x : PointKnots). x.t) own.knots) rows own.mesh.listed)
    (with_each place_row no_place own.mesh.places count places e p q)

-- nothing lent, they have their lengths
pub none_full : (arrays : LentArrays) → arrays ≡ none_lent → Full arrays.across arrays.upwards arrays.places
unfolding none_lent
none_full arrays e =
    rw e (length-replicate 128 (replicate 5 zero_literal), (length-replicate 128 (replicate 5 zero_literal), length-replicate 128 (replicate 4 zero_literal)))

-- ---- the map that arrays hold
module _ (across upwards places : List (List Float)) (listed : List Bool) (n : ℕ) (h : n < 128) where
  held_knots_lem : knots_of (held_map across upwards places listed) n ≡ lent_knots across upwards n
  held_knots_lem = values_at (lent_knots across upwards) no_knots 128 0 n h ∙ ap (lent_knots across upwards) (omega arith)

  held_place : place_under (held_map across upwards places listed) n ≡ lent_place places n
  held_place = values_at (lent_place places) no_place 128 0 n h ∙ ap (lent_place places) (omega arith)

  -- a point's share, taken from the arrays
  pub held_share : (s t : Float) (share : Share) → share ≡ share_by (lent_knots across upwards n) (lent_place places n) s t
      → share ≡ share_by (knots_of (held_map across upwards places listed) n) (place_under (held_map across upwards places listed) n) s t
  held_share s t share k =
      k
      ∙ ap (λ (own : PointKnots). share_by own (lent_place places n) s t) (sym held_knots_lem)
      ∙ ap (λ (place : Place). share_by (knots_of (held_map across upwards places listed) n) place s t) (sym held_place)

-- a map lent is held as it is
pub lent_value : (own : Tmesh) (s t : Float) → value_of (held_by (lent_of own)) s t ≡ value_of own s t
unfolding lent_of value_of
lent_value own s t =
    value_alike held own (λ n h. refl) (weight_of held s t) (weight_of own s t)
    (λ n h listed.
    ap (λ (knots : PointKnots). weight_by knots (pull_of held n) s t) (same_knots n h) ∙ ap (λ (place : Place). weight_by (knots_of own n) place.pull s t) (same_place n h))
    (λ n h listed. ap (λ (place : Place). place.position) (same_place n h))
  where
    held : Tmesh
    held = held_by (lent_of own)

    same_knots : (n : ℕ) → n < 128 → knots_of held n ≡ knots_of own n
    same_knots n h =
        held_knots_lem (lent_of own).across (lent_of own).upwards (lent_of own).places (lent_of own).listed n h
        ∙ ap (λ (five : List Float). record { s = five; t = get_or (lent_of own).upwards n [] }) (get_or-map (λ (k : PointKnots). k.s) own.knots n no_knots)
        ∙ ap (λ (five : List Float). record { s = (knots_of own n).s; t = five }) (get_or-map (λ (k : PointKnots). k.t) own.knots n no_knots)

    place_at : (places : List Place) (n : ℕ) → lent_place (map place_row places) n ≡ get_or places n no_place
    place_at [] n = refl
    place_at (p ∷ places) zero = refl
    place_at (p ∷ places) (suc n) = place_at places n

    same_place : (n : ℕ) → n < 128 → place_under held n ≡ place_under own n
    same_place n h = held_place (lent_of own).across (lent_of own).upwards (lent_of own).places (lent_of own).listed n h ∙ place_at own.mesh.places n

-- ---- what `lend` gives
module _ (e : Float) (own : Tmesh) where
  module _ (built : Generated) (arrays : LentArrays) (is : built ≡ with_knots e own) where
    lend_by : (outcome : Result ⊤ Refusal) → built.outcome ≡ outcome → arrays ≡ lent_after outcome built.map → (built, arrays) ≡ lend_of e own
    unfolding lend_of
    lend_by outcome o a =
        ap (λ (x : LentArrays). (built, x)) (a ∙ ap (λ (x : Result ⊤ Refusal). lent_after x built.map) (sym o))
        ∙ ap (λ (x : Generated). (x, lent_after x.outcome x.map)) is

    pub lend_done : built.outcome ≡ Ok tt → arrays ≡ lent_of built.map → (built, arrays) ≡ lend_of e own
    lend_done o a = lend_by (Ok tt) o a

    pub lend_refused : (refusal : Refusal) → built.outcome ≡ Err refusal → arrays ≡ none_lent → (built, arrays) ≡ lend_of e own
    lend_refused refusal o a = lend_by (Err refusal) o a

  pub lend_told : outcome_told (lend_of e own).0.outcome ≡ lend_table e own
  unfolding lend_of
  lend_told = outcome_told_lem (with_knots e own).outcome ∙ with_knots_told e own (λ kept. tells [])
    where
      outcome_told_lem : (outcome : Result ⊤ Refusal) → outcome_told outcome ≡ refused_or outcome (tells [])
      outcome_told_lem (Ok tt) = refl
      outcome_told_lem (Err refusal) = refl
