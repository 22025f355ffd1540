-- A file's edits are a list of calls, and no edit builds knots; so what is said of every answer over lists is said of the call's words, with the knots built of the
-- map that the edits leave; and what the call wrote of them is read back as it was.
use Rattle.std.specs.Prelude.{ℕ, ◌≤◌, ◌<◌, ◌^◌, ◌≡◌, refl, Bool, true, false, cond, List, [], ◌∷◌, ◌++◌, T, leb, Float, length, Err, Ok, Result}
use Rattle.std.proofs.Common.{sym, ap, ◌∙◌, subst, append_assoc, append-nil, arith, leb→le, length-append}
use Rattle.std.proofs.lemmas.Nat.{ones-le}
use Rattle.big_endian.specs.BigEndian.{number_at, float_at}
use Rattle.big_endian.proofs.ReadBackLaws.{number_back}
use Rattle.big_endian.specs.Written.{written, bytes_of}
use Rattle.big_endian.proofs.WrittenLaws.{length_bytes}
use Rattle.control_point.specs.Small.{millionth}
use Rattle.control_point.specs.declared.refusal.Refusal.TheVariants.{Short}
use Rattle.insertion.specs.Insert.{insert_point}
use Rattle.ray.specs.declared.knots.PointKnots.{PointKnots}
use Rattle.grid_index.specs.CellTheorem.{Says}
use Rattle.grid_index.specs.declared.Cell.{Cell}
use Rattle.t_mesh.specs.Insertion.{kept_after, add_control_point}
use Rattle.t_mesh.specs.Tmesh.{store_of, is_listed, new_tmesh}
use Rattle.t_mesh.specs.declared.t_mesh.Tmesh.{Tmesh}
use Rattle.knot_vectors.specs.Knots.{generate_knot_vectors}
use Rattle.surface.specs.Evaluation.{with_knots}
use Rattle.cells.specs.Cells.{cell_number, cell_points}
use Rattle.calls.proofs.WithdrawalLaws.{by_either_rule}
use Rattle.soundness.proofs.IndexProof.{is_words, every_answer_says}
use Rattle.soundness.specs.MapCalls.{entries}
use Rattle.map_format.specs.Format.{border_at, edits_at, file_withdraws, edit_count, Edit, edits_from, checked_file}
use Rattle.map_file.specs.Run.{corner_of, fresh_map, edited, after_edits, file_map}
use Rattle.map_file.proofs.RunLaws.{none_after}
use Rattle.map_cell.specs.FileCell.{checked_cell, file_cell}
use Rattle.cell_bytes.specs.CellBytes.{cell_bytes, bytes_of_cell}
use Rattle.gatemap_host.specs.CellCall.{host_cell, cell_buffer_after}
use Rattle.file_soundness.proofs.CallsLaws.{calls_of, edits_are_calls}
use Rattle.file_soundness.proofs.FullStrokeProof.{numbered, OwnCount, own_count}
use Rattle.file_soundness.specs.Theorems.{cell_in, map_of, FileCellSays}
use Rattle.control_point.specs.declared.refusal.Refusal.{Refusal}

-- ---- the buffer
-- the words fit eight bytes each, and the count one
record FitsBytes (words : Cell) : Type 0 where
  pub first : words.first < 2 ^ 64
  pub second : words.second < 2 ^ 64
  pub count : words.count < 256

words_back : (words : Cell) (out : List ℕ) → FitsBytes words → cell_bytes ≤ length out → cell_in (written out 0 (bytes_of_cell words)) ≡ words
words_back words out fits room = λ i. record { first = first_back i; second = second_back i; count = count_back i }
  where
    a : List ℕ
    a = bytes_of 8 words.first

    b : List ℕ
    b = bytes_of 8 words.second

    c : List ℕ
    c = bytes_of 1 words.count

    whole : length (a ++ (b ++ c)) ≤ length out
    whole =
        omega (
          arith,
          room,
          length-append a (b ++ c),
          length-append b c,
          length_bytes 8 words.first,
          length_bytes 8 words.second,
          length_bytes 1 words.count,
        )

    first_back : number_at 8 (written out 0 (a ++ (b ++ c))) 0 ≡ words.first
    first_back = number_back 8 words.first [] (b ++ c) out fits.first whole

    second_back : number_at 8 (written out 0 (a ++ (b ++ c))) 8 ≡ words.second
    second_back =
        subst (λ (place : ℕ). number_at 8 (written out 0 (a ++ (b ++ c))) place ≡ words.second) (length_bytes 8 words.first)
        (number_back 8 words.second a c out fits.second whole)

    same : (a ++ b) ++ (c ++ []) ≡ a ++ (b ++ c)
    same = ap (λ (last : List ℕ). (a ++ b) ++ last) (append-nil c) ∙ append_assoc a b c

    count_back : number_at 1 (written out 0 (a ++ (b ++ c))) 16 ≡ words.count
    count_back =
        let place : length (a ++ b) ≡ 16 = omega (arith, length-append a b, length_bytes 8 words.first, length_bytes 8 words.second) in
        subst (λ (at : ℕ). number_at 1 (written out 0 (a ++ (b ++ c))) at ≡ words.count) place
        (subst (λ (text : List ℕ). number_at 1 (written out 0 text) (length (a ++ b)) ≡ words.count) same
        (number_back 1 words.count (a ++ b) [] out fits.count (subst (λ (text : List ℕ). length text ≤ length out) (sym same) whole)))

-- words that say which points reach a cell do
says_fits : (listed : List Bool) (knots : List PointKnots) (cell : ℕ) (words : Cell) → Says listed knots cell words → FitsBytes words
says_fits listed knots cell words says =
    record {
      first = says.first_fits;
      second = says.second_fits;
      count = omega (arith, says.ones_count, ones-le 64 words.first says.first_fits, ones-le 64 words.second says.second_fits);
    }

-- ---- the map that the edits leave keeps no knots
never_kept : (withdraws : Bool) (e : Float) (edits : List Edit) (map : Tmesh) → map.kept ≡ false → (after_edits withdraws e map edits).kept ≡ false
unfolding after_edits add_control_point
never_kept withdraws e [] map h = h
never_kept withdraws e (edit ∷ rest) map h =
    never_kept withdraws e rest (edited withdraws e map edit).map
    (let answer = (insert_point e (store_of map) (is_listed map edit.point) edit.point edit.direction edit.ratio).answer in
    by_either_rule (λ after. after.kept ≡ false) withdraws e map edit.point edit.direction edit.ratio edit.position h
    (ap (λ (kept : Bool). kept_after kept answer) h ∙ none_after answer))

fresh_kept : (file : List ℕ) → (fresh_map file).kept ≡ false
unfolding new_tmesh
fresh_kept file = refl

-- so a question builds them
built : (e : Float) (map : Tmesh) (cell : ℕ) → map.kept ≡ false → (cell_points e map cell).map.knots ≡ (generate_knot_vectors e map).map.knots
unfolding cell_points with_knots
built e map cell h = ap (λ (kept : Bool). (cond kept (record { outcome = Ok tt; map = map }) (generate_knot_vectors e map)).map.knots) h

-- ---- the answer
module _ (file : List ℕ) (cell : ℕ) (h : cell < 256) where
  abbrev SaysOf : Cell → Type 0
  SaysOf = Says (map_of file).mesh.listed (generate_knot_vectors millionth (map_of file)).map.knots cell

  map_says : (words : Cell) → (cell_points millionth (map_of file) cell).answer ≡ Ok words → SaysOf words
  map_says words is =
      subst (λ (knots : List PointKnots). Says (map_of file).mesh.listed knots cell words)
      (built millionth (map_of file) cell (never_kept (file_withdraws file) millionth (edits_from (edit_count file) file edits_at) (fresh_map file) (fresh_kept file)))
      (subst (λ (map : Tmesh). (cell_points millionth map cell).answer ≡ Ok words → Says map.mesh.listed (cell_points millionth map cell).map.knots cell words)
      (sym (edits_are_calls (file_withdraws file) millionth (fresh_map file) (edits_from (edit_count file) file edits_at)))
      (every_answer_says millionth (float_at file border_at) (corner_of file 0) (corner_of file 1) (corner_of file 2) (corner_of file 3)
      (entries (calls_of (file_withdraws file) (edits_from (edit_count file) file edits_at)))
      millionth
      cell
      words
      h)
      is)

  checked_says : (check : Result ℕ Refusal) → OwnCount file check → (words : Cell) → checked_cell millionth file cell check ≡ Ok words → SaysOf words
  checked_says (Ok count) own words is =
      map_says words (subst (λ (n : ℕ). (cell_points millionth (file_map millionth file n) cell).answer ≡ Ok words) own is)
  checked_says (Err refusal) own words is = absurd (subst is_words (sym is) tt)

  -- what the buffer holds, by the answer
  buffer_says : (answer : Result Cell Refusal) (out : List ℕ) → cell_bytes ≤ length out → ((words : Cell) → answer ≡ Ok words → SaysOf words) → cell_number answer ≡ 0
      → SaysOf (cell_in (cell_buffer_after answer out))
  buffer_says (Ok words) out room says answered = let those = says words refl in subst SaysOf (sym (words_back words out (says_fits _ _ cell words those) room)) those
  buffer_says (Err refusal) out room says answered = absurd (numbered refusal answered)

  -- with room for the words or without
  with_room : (enough : Bool) (answer : Result Cell Refusal) (out : List ℕ) → (T enough → cell_bytes ≤ length out) → ((words : Cell) → answer ≡ Ok words → SaysOf words)
      → cell_number (cond enough answer (Err Short)) ≡ 0
      → SaysOf (cell_in (cell_buffer_after (cond enough answer (Err Short)) out))
  with_room true answer out room says answered = buffer_says answer out (room tt) says answered
  with_room false answer out room says answered = absurd (numbered Short answered)

pub file_cell_says : FileCellSays
unfolding host_cell file_cell
file_cell_says file cell out h answered =
    with_room file cell h (leb cell_bytes (length out)) (checked_cell millionth file cell (checked_file file)) out (leb→le cell_bytes (length out))
    (λ words is. checked_says file cell h (checked_file file) (own_count file) words is)
    answered
