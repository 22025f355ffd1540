-- Laws of the run of a file. An edit of a map is one of its mesh: where no knots are kept, none are kept after it. Past the end of a
-- file every edit reads the same. What is left of a run gives the whole.
use Prim.Native.Nat.{ℕ, zero, suc, ◌+◌, ◌-◌, ◌≤◌, ◌<◌}
use Rattle.std.specs.Prelude.{◌≡◌, Bool, true, false, cond, Float, length, set, Err, Ok, Result}
use Rattle.std.proofs.Math.Path.{refl, sym, ap}
use Rattle.std.proofs.Common.{◌∙◌, arith, drop_of_length-le}
use mathlib.Core.List.{List, [], ◌∷◌}
use Rattle.std.proofs.Math.Numerals.{unary_clauses}
use Rattle.big_endian.specs.BigEndian.{float_at}
use Rattle.big_endian.specs.Written.{written}
use Rattle.control_point.specs.declared.refusal.Refusal.{Refusal}
use Rattle.insertion.specs.Insert.{answer_number}
use Rattle.insertion.specs.Withdrawal.{is_withdrawn, unless_withdrawn}
use Rattle.insertion.specs.declared.insertion.Insertion.TheVariants.{Done, Torn}
use Rattle.lent_mesh.specs.LentMesh.{unkept}
use Rattle.t_mesh.specs.Insertion.{insert_into_mesh, kept_after, add_control_point}
use Rattle.t_mesh.specs.Tmesh.{new_tmesh}
use Rattle.t_mesh.specs.declared.add.InsertedMesh.{InsertedMesh}
use Rattle.t_mesh.specs.declared.t_mesh.Mesh.{Mesh}
use Rattle.t_mesh.specs.declared.t_mesh.Position.{Position}
use Rattle.t_mesh.specs.declared.t_mesh.Tmesh.{Tmesh}
use Rattle.surface.specs.SetPoint.{set_point}
use Rattle.map_format.specs.Format.{border_at, edits_at, edit_bytes, file_withdraws, Edit, edit_at, edits_from, checked_file}
use Rattle.map_format.proofs.FormatLaws.{edit_after}
use Rattle.map_file.specs.Run.{corner_of, fresh_map, SameEdits, edited, mesh_edited, after_edits, edit_answers, edit_numbers, file_map, file_numbers, checked_set_point, file_set_point}
use Rattle.insertion.specs.declared.insertion.Insertion.{Insertion}

-- ---- the map before the edits, by the weight and the corners that were read
pub fresh_read : (bytes : List ℕ) (map : Tmesh) (weight : Float) (at_bottom_left at_bottom_right at_top_right at_top_left : Position) → map ≡ new_tmesh weight at_bottom_left at_bottom_right at_top_right at_top_left
    → weight ≡ float_at bytes border_at → at_bottom_left ≡ corner_of bytes 0 → at_bottom_right ≡ corner_of bytes 1 → at_top_right ≡ corner_of bytes 2 → at_top_left ≡ corner_of bytes 3
    → map ≡ fresh_map bytes
fresh_read bytes map weight at_bottom_left at_bottom_right at_top_right at_top_left is w first second third fourth = rw (is, w, first, second, third, fourth)

-- ---- an edit of a map that keeps no knots
pub none_after : (answer : Result Insertion Refusal) → kept_after false answer ≡ false
none_after (Ok (Done opened inferred)) = refl
none_after (Ok (Torn opened inferred)) = refl
none_after (Err refusal) = refl

-- either of two meshes
unkept_either : (first : Bool) (mesh other : Mesh) → cond first (unkept mesh) (unkept other) ≡ unkept (cond first mesh other)
unkept_either true mesh other = refl
unkept_either false mesh other = refl

module _ (withdraws : Bool) (e : Float) (mesh : Mesh) (edit : Edit) where
  abbrev inserted : InsertedMesh
  inserted = insert_into_mesh e mesh edit.point edit.direction edit.ratio edit.position

  edited_map : (edited withdraws e (unkept mesh) edit).map ≡ unkept (mesh_edited withdraws e mesh edit).mesh
  unfolding add_control_point insert_into_mesh unkept
  edited_map =
      ap
      (λ (kept : Bool).
      unless_withdrawn withdraws inserted.answer (unkept mesh) (record { mesh = inserted.mesh; kept = kept; knots = (unkept mesh).knots; index = (unkept mesh).index }))
      (none_after inserted.answer)
      ∙ unkept_either (is_withdrawn withdraws inserted.answer) mesh inserted.mesh

  edited_answer : (edited withdraws e (unkept mesh) edit).answer ≡ (mesh_edited withdraws e mesh edit).answer
  unfolding add_control_point insert_into_mesh unkept
  edited_answer = refl

  -- the first edit of several, by the answer and the mesh that it gave
  module _ (answer : Result Insertion Refusal) (answered : answer ≡ (mesh_edited withdraws e mesh edit).answer) (after : Mesh) (left : after ≡ (mesh_edited withdraws e mesh edit).mesh) (rest : List Edit) where
    map_after_lem : (edited withdraws e (unkept mesh) edit).map ≡ unkept after
    map_after_lem = edited_map ∙ ap unkept (sym left)

    map_after_first : after_edits withdraws e (unkept mesh) (edit ∷ rest) ≡ after_edits withdraws e (unkept after) rest
    unfolding after_edits
    map_after_first = ap (λ (map : Tmesh). after_edits withdraws e map rest) map_after_lem

    numbers_after_first : edit_numbers withdraws e (unkept mesh) (edit ∷ rest) ≡ answer_number answer ∷ edit_numbers withdraws e (unkept after) rest
    unfolding edit_answers
    numbers_after_first =
        ap (λ (a : Result Insertion Refusal). answer_number a ∷ edit_numbers withdraws e (edited withdraws e (unkept mesh) edit).map rest) (edited_answer ∙ sym answered)
        ∙ ap (λ (map : Tmesh). answer_number answer ∷ edit_numbers withdraws e map rest) map_after_lem

-- ---- past the end of a file
module _ (bytes : List ℕ) where
  edit_past : (at : ℕ) → length bytes ≤ at → edit_at bytes at ≡ edit_at [] 0
  edit_past at past =
      sym (edit_after bytes at 0 ∙ ap (edit_at bytes) (omega arith)) ∙ ap (λ (rest : List ℕ). edit_at rest 0) (drop_of_length-le bytes {i = at} past)

  edits_past : (count at other : ℕ) → length bytes ≤ at → length bytes ≤ other → edits_from count bytes at ≡ edits_from count bytes other
  unfolding edits_from
  edits_past zero at other past further = refl
  edits_past (suc count) at other past further =
      ap (λ (edit : Edit). edit ∷ edits_from count bytes (at + edit_bytes)) (edit_past at past ∙ sym (edit_past other further))
      ∙ ap (λ (rest : List Edit). edit_at bytes other ∷ rest) (edits_past count (at + edit_bytes) (other + edit_bytes) (omega arith) (omega arith))

  pub same_past : (at : ℕ) → length bytes ≤ at → SameEdits bytes at (at + edit_bytes)
  same_past at past count = edits_past count at (at + edit_bytes) past (omega arith)

-- ---- what is left of a run
-- after n edits, with the next one at a place, the map and the notes with what is left give the whole
pub record Running (e : Float) (bytes : List ℕ) (count : ℕ) (notes₀ : List ℕ) (map : Tmesh) (notes : List ℕ) (at n : ℕ) : Type 0 where
  pub gives_map : after_edits (file_withdraws bytes) e map (edits_from (count - n) bytes at) ≡ file_map e bytes count
  pub gives_notes : written notes n (edit_numbers (file_withdraws bytes) e map (edits_from (count - n) bytes at)) ≡ written notes₀ 0 (file_numbers e bytes count)

module _ (e : Float) (bytes : List ℕ) (count : ℕ) (notes₀ : List ℕ) where
  abbrev rule : Bool
  rule = file_withdraws bytes

  pub running_first : (map : Tmesh) → map ≡ fresh_map bytes → Running e bytes count notes₀ map notes₀ edits_at 0
  running_first map fresh = rw fresh (record { gives_map = simp unary_clauses; gives_notes = simp unary_clauses })

  -- at the end
  module _ (map : Tmesh) (notes : List ℕ) (at n : ℕ) (running : Running e bytes count notes₀ map notes at n) (all : n ≡ count) where
    none_left : edits_from (count - n) bytes at ≡ []
    unfolding edits_from
    none_left = let z : count - n ≡ 0 = omega (arith, all) in simp z

    pub running_map : map ≡ file_map e bytes count
    unfolding after_edits
    running_map = sym (ap (after_edits rule e map) none_left) ∙ running.gives_map

    pub running_notes : notes ≡ written notes₀ 0 (file_numbers e bytes count)
    unfolding edit_answers written
    running_notes = sym (ap (λ (edits : List Edit). written notes n (edit_numbers rule e map edits)) none_left) ∙ running.gives_notes

  -- one edit more
  module _ (mesh : Mesh) (notes : List ℕ) (at n : ℕ) (running : Running e bytes count notes₀ (unkept mesh) notes at n) (some : n < count) (next : ℕ) (same : SameEdits bytes next (at + edit_bytes)) where
    one_left : edits_from (count - n) bytes at ≡ edit_at bytes at ∷ edits_from (count - (n + 1)) bytes next
    unfolding edits_from
    one_left =
        let z : count - n ≡ suc (count - (n + 1)) = omega (arith, some) in
        simp z (ap (λ (rest : List Edit). edit_at bytes at ∷ rest) (sym (same (count - (n + 1)))))

    pub running_next : (withdraws : Bool) → withdraws ≡ rule → (answer : Result Insertion Refusal) → answer ≡ (mesh_edited withdraws e mesh (edit_at bytes at)).answer → (after : Mesh)
        → after ≡ (mesh_edited withdraws e mesh (edit_at bytes at)).mesh → (notes' : List ℕ) → notes' ≡ set notes n (answer_number answer) → Running e bytes count notes₀ (unkept after) notes' next (n + 1)
    unfolding written
    running_next withdraws by_rule answer answered after left notes' noted =
        let rest = edits_from (count - (n + 1)) bytes next in
        let answered-so = answered ∙ ap (λ (w : Bool). (mesh_edited w e mesh (edit_at bytes at)).answer) by_rule in
        let left_so = left ∙ ap (λ (w : Bool). (mesh_edited w e mesh (edit_at bytes at)).mesh) by_rule in
        record {
          gives_map =
              sym (ap (after_edits rule e (unkept mesh)) one_left ∙ map_after_first rule e mesh (edit_at bytes at) answer answered-so after left_so rest)
              ∙ running.gives_map;
          gives_notes =
              rw noted
              (sym
              (ap (written notes n)
              (ap (edit_numbers rule e (unkept mesh)) one_left ∙ numbers_after_first rule e mesh (edit_at bytes at) answer answered-so after left_so rest))
              ∙ running.gives_notes);
        }

-- ---- a file's set-point, by its check
module _ (e : Float) (bytes : List ℕ) (s t : Float) where
  pub set_point_valid : (count : ℕ) → checked_file bytes ≡ Ok count → (set_point e (file_map e bytes count) s t).answer ≡ file_set_point e bytes s t
  unfolding file_set_point
  set_point_valid count valid = sym (ap (checked_set_point e bytes s t) valid)

  pub set_point_refused : (refusal : Refusal) → checked_file bytes ≡ Err refusal → Err refusal ≡ file_set_point e bytes s t
  unfolding file_set_point
  set_point_refused refusal refused = sym (ap (checked_set_point e bytes s t) refused)
