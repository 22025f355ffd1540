-- Laws of a lent mesh: its lists are the values of a function, number by number, so the points of a store that arrays hold over loose points are those of the mesh that they hold;
-- the map packed by value, and that of the four corners, have such lists.
use Rattle.std.specs.Prelude.{ℕ, zero, suc, ◌<◌, ◌≤◌, ◌≡◌, refl, Bool, cond, ltb, Float, length, get_or, replicate}
use Rattle.std.proofs.Common.{sym, ◌∙◌, subst, arith, ltb-true, ltb-false, ext_get_or}
use Rattle.std.proofs.Math.Path.{ap}
use Rattle.std.proofs.Math.Bool.{true, false}
use mathlib.Core.List.{List, [], ◌∷◌}
use Rattle.std.proofs.lemmas.List.{length-replicate, get_or-replicate}
use Rattle.std.proofs.Math.ListN.{get_or-eq_default}
use Rattle.float64.specs.Literals.{zero_literal}
use Rattle.control_point.specs.Point.{is_made, loose_point, blank, point_at}
use Rattle.control_point.proofs.PointLaws.{is_made_made, is_made_room, made_is_made}
use Rattle.control_point.specs.declared.t_mesh_control_point.TmeshControlPoint.{TmeshControlPoint}
use Rattle.lent_points.specs.Lent.{Points, points_with, Held, FilledTo}
use Rattle.lent_points.proofs.LentLaws.{filled_none, filled_more, PackedTo, held_packed}
use Rattle.store.specs.Store.{store_point}
use Rattle.store.specs.declared.store.Store.{Store}
use Rattle.t_mesh.specs.Tmesh.{unpulled, no_place, mesh_store, corners, corner_store, origin, new_tmesh}
use Rattle.t_mesh.specs.declared.t_mesh.Place.{Place}
use Rattle.t_mesh.specs.declared.t_mesh.Position.{Position}
use Rattle.values.specs.Values.{values_from}
use Rattle.values.proofs.ValuesLaws.{values_length, values_at, values_are}
use Rattle.lent_mesh.specs.LentMesh.{row_of, row_position, unpulled_at, made_or_loose, mesh_over, unkept}

-- ---- the points
-- what stands beyond the made ones
unfoldable pub loose_points : List TmeshControlPoint
loose_points = replicate 128 (loose_point zero_literal)

loose_length : length loose_points ≡ 128
unfolding loose_points
loose_length = length-replicate 128 (loose_point zero_literal)

loose_at : (n : ℕ) → n < 128 → point_at loose_points n ≡ loose_point zero_literal
unfolding loose_points
loose_at n h = get_or-replicate 128 n (loose_point zero_literal) blank h

-- the store of the mesh that arrays hold is held by them
pub mesh_held : (points : Points) (made : ℕ) (positions : List (List Float)) (listed : List Bool) → Held points loose_points (mesh_store (mesh_over points made positions listed))
mesh_held points made positions listed =
    record {
      room = values_length (made_or_loose points made) 128 0;
      held = λ n h. within n (is_made_room made n h) true h;
      beyond = λ n h. by_test n (ltb n 128) refl h;
    }
  where
    within : (n : ℕ) → n < 128 → (b : Bool) → is_made made n ≡ b → point_at (values_from (made_or_loose points made) 128 0) n ≡ cond b (points n) (loose_point zero_literal)
    within n h b e =
        values_at (made_or_loose points made) blank 128 0 n h
        ∙ ap (made_or_loose points made) (omega arith)
        ∙ ap (λ (x : Bool). cond x (points n) (loose_point zero_literal)) e

    by_test : (n : ℕ) (b : Bool) → ltb n 128 ≡ b → is_made made n ≡ false → point_at (values_from (made_or_loose points made) 128 0) n ≡ point_at loose_points n
    by_test n true x h = within n (ltb-true n 128 x) false h ∙ sym (loose_at n (ltb-true n 128 x))
    by_test n false x h =
        get_or-eq_default (values_from (made_or_loose points made) 128 0) blank (omega (arith, ltb-false n 128 x, values_length (made_or_loose points made) 128 0))
        ∙ sym (get_or-eq_default loose_points blank (omega (arith, ltb-false n 128 x, loose_length)))

-- two stores that the same points hold over the same rest have the same points
pub held_same : (points : Points) (rest : List TmeshControlPoint) (one other : Store) → one.made ≡ other.made → Held points rest one → Held points rest other → one.points ≡ other.points
held_same points rest one other same a b =
    ext_get_or blank one.points other.points (a.room ∙ sym b.room) (λ n h. by_test n (is_made one.made n) refl)
  where
    by_test : (n : ℕ) (made : Bool) → is_made one.made n ≡ made → store_point one n ≡ store_point other n
    by_test n true x = a.held n x ∙ sym (b.held n (ap (λ (k : ℕ). is_made k n) (sym same) ∙ x))
    by_test n false x = a.beyond n x ∙ sym (b.beyond n (ap (λ (k : ℕ). is_made k n) (sym same) ∙ x))

-- ---- the map by value
-- the made points packed over loose ones, one after another, are those of the mesh
pub packed_all : (points : Points) (loose : TmeshControlPoint) (list : List TmeshControlPoint) (made count : ℕ) → loose ≡ loose_point zero_literal → count ≤ 128
    → ((n : ℕ) → n < count → is_made made n ≡ true) → ((n : ℕ) → is_made made n ≡ true → n < count)
    → PackedTo count points (replicate 128 loose) list → list ≡ values_from (made_or_loose points made) 128 0
unfolding loose_points
packed_all points loose list made count same few below within packed =
    held_packed points (replicate 128 loose) list (mesh_store (mesh_over points made [] [])) count few (length-replicate 128 loose)
    (subst (λ (point : TmeshControlPoint). Held points (replicate 128 point) (mesh_store (mesh_over points made [] []))) (sym same) (mesh_held points made [] []))
    below within packed

-- with the points packed and the places too the map is the one that the arrays hold
pub packed_mesh : (points : Points) (made : ℕ) (positions : List (List Float)) (listed : List Bool) (list : List TmeshControlPoint) (places : List Place)
    → list ≡ values_from (made_or_loose points made) 128 0 → places ≡ values_from (unpulled_at positions) 128 0
    → unkept (record { points = list; made = made; places = places; listed = listed }) ≡ unkept (mesh_over points made positions listed)
packed_mesh points made positions listed list places same there = rw (same, there)

-- ---- the four corners
-- four values, and one for all others
module _ {A : Type 0} (a b c d rest : A) where
  abbrev pub four_then : List A
  four_then = a ∷ (b ∷ (c ∷ (d ∷ replicate 124 rest)))

  four_length : length four_then ≡ 128
  four_length = ap (λ (k : ℕ). suc (suc (suc (suc k)))) (length-replicate 124 rest)

  four_values : (f : ℕ → A) (default : A) → f 0 ≡ a → f 1 ≡ b → f 2 ≡ c → f 3 ≡ d → ((n : ℕ) → n < 124 → f (suc (suc (suc (suc n)))) ≡ rest) → values_from f 128 0 ≡ four_then
  four_values f default first second third fourth others = sym (values_are f default 128 four_then four_length each)
    where
      each : (n : ℕ) → n < 128 → get_or four_then n default ≡ f n
      each zero h = sym first
      each (suc zero) h = sym second
      each (suc (suc zero)) h = sym third
      each (suc (suc (suc zero))) h = sym fourth
      each (suc (suc (suc (suc n)))) h = get_or-replicate 124 n rest default (omega (arith, h)) ∙ sym (others n (omega (arith, h)))

-- put one after another, they are filled in
pub corners_filled : (weight : Float) (four : List TmeshControlPoint) (p₀ p₁ p₂ p₃ p₄ : Points) → four ≡ corners weight
    → p₁ ≡ points_with p₀ 0 (point_at four 0) → p₂ ≡ points_with p₁ 1 (point_at four 1) → p₃ ≡ points_with p₂ 2 (point_at four 2) → p₄ ≡ points_with p₃ 3 (point_at four 3)
    → FilledTo 4 p₄ (corners weight)
corners_filled weight four p₀ p₁ p₂ p₃ p₄ e first second third fourth =
    subst (FilledTo 4 p₄) e
    (filled_more 3 p₃ p₄ four fourth (filled_more 2 p₂ p₃ four third (filled_more 1 p₁ p₂ four second (filled_more 0 p₀ p₁ four first (filled_none p₀ four)))))

module _ (points : Points) (weight : Float) (filled : FilledTo 4 points (corners weight)) where
  made_corner : (n : ℕ) → n < 4 → made_or_loose points 4 n ≡ point_at (corners weight) n
  made_corner n h = ap (λ (b : Bool). cond b (points n) (loose_point zero_literal)) (made_is_made 4 n (omega arith) h) ∙ filled n h

  not_made : (n : ℕ) (b : Bool) → is_made 4 (suc (suc (suc (suc n)))) ≡ b → cond b (points (suc (suc (suc (suc n))))) (loose_point zero_literal) ≡ loose_point zero_literal
  not_made n true x = absurd (omega (arith, is_made_made 4 (suc (suc (suc (suc n)))) x))
  not_made n false x = refl

  corner_points : values_from (made_or_loose points 4) 128 0 ≡ (corner_store weight).points
  corner_points =
      four_values _ _ _ _ (loose_point zero_literal) (made_or_loose points 4) blank
      (made_corner 0 (omega arith)) (made_corner 1 (omega arith)) (made_corner 2 (omega arith)) (made_corner 3 (omega arith))
      (λ n h. not_made n (is_made 4 (suc (suc (suc (suc n))))) refl)

module _ (at_bottom_left at_bottom_right at_top_right at_top_left : Position) where
  abbrev pub corner_rows : List (List Float)
  corner_rows = four_then (row_of at_bottom_left) (row_of at_bottom_right) (row_of at_top_right) (row_of at_top_left) (replicate 3 zero_literal)

  pub corner_rows_lem : (p q r s : List Float) → p ≡ row_of at_bottom_left → q ≡ row_of at_bottom_right → r ≡ row_of at_top_right → s ≡ row_of at_top_left → four_then p q r s (replicate 3 zero_literal) ≡ corner_rows
  corner_rows_lem p q r s first second third fourth = rw (first, second, third, fourth)

  corner_places : values_from (unpulled_at corner_rows) 128 0 ≡ four_then (unpulled at_bottom_left) (unpulled at_bottom_right) (unpulled at_top_right) (unpulled at_top_left) (unpulled origin)
  corner_places =
      four_values (unpulled at_bottom_left) (unpulled at_bottom_right) (unpulled at_top_right) (unpulled at_top_left) (unpulled origin) (unpulled_at corner_rows) no_place refl refl refl refl
      (λ n h.
      ap (λ (row : List Float). unpulled (row_position row)) (get_or-replicate 124 n (replicate 3 zero_literal) [] h))

  -- the points of the corners, their positions and their listing are the map of four corners
  pub corners_map : (points : Points) (weight : Float) (positions : List (List Float)) (listed : List Bool) → FilledTo 4 points (corners weight) → positions ≡ corner_rows → listed ≡ four_then true true true true false
      → unkept (mesh_over points 4 positions listed) ≡ new_tmesh weight at_bottom_left at_bottom_right at_top_right at_top_left
  unfolding unkept new_tmesh
  corners_map points weight positions listed filled rows listing =
      ap (λ (x : List (List Float)). unkept (mesh_over points 4 x listed)) rows
      ∙ ap (λ (x : List Bool). unkept (mesh_over points 4 corner_rows x)) listing
      ∙ ap (λ (x : List TmeshControlPoint). unkept (record { points = x; made = 4; places = values_from (unpulled_at corner_rows) 128 0; listed = four_then true true true true false }))
      (corner_points points weight filled)
      ∙ ap (λ (x : List Place). unkept (record { points = (corner_store weight).points; made = 4; places = x; listed = four_then true true true true false }))
      corner_places
