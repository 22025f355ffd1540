-- Laws of the lines of a report: each loop puts one line at a time, from the front of what is left.
use Prim.Native.Nat.{ℕ, ◌+◌, ◌≤◌, ◌<◌}
use mathlib.Core.Path.{◌≡◌, refl, sym, ap, ◌∙◌}
use mathlib.Core.List.{List, [], ◌∷◌, ◌++◌}
use native.Mathlib.Numerals.{add-one}
use native.Mathlib.Omega.{arith}
use lib.ListN.{length, get_or, drop, length-append, drop_of_length-le}
use lib.Seq.{drop-cons}
use Rattle.big_endian.specs.Written.{written}
use Rattle.big_endian.proofs.WrittenLaws.{written_append, length_written}
use Rattle.openings.specs.Openings.{PointSide, direction_entry, openings_answer}
use Rattle.openings.proofs.OpeningsLaws.{no_side, answer_point, answer_direction}
use Rattle.openings.specs.declared.list.Openings.{Openings}
use Rattle.report_text.specs.Put.{Put, Fits}
use Rattle.report_lines.specs.Lines.{edit_line, edit_lines, open_line, open_lines}

-- ---- what is left of a text
-- where the rest is put behind what the buffer has so far, the whole stands in it
pub record Left (before : List ℕ) (at : ℕ) (whole out : List ℕ) (end : ℕ) (rest : List ℕ) : Type 0 where
  pub wrote : written out end rest ≡ written before at whole
  pub ends : end + length rest ≡ at + length whole

pub left_all : (out : List ℕ) (at : ℕ) (whole : List ℕ) → Left out at whole out at whole
left_all out at whole = record { wrote = refl; ends = refl }

module _ {before whole out text : List ℕ} {at end : ℕ} (left : Left before at whole out end text) where
  -- the front of the rest fits, and is put
  pub left_fits : (front rest : List ℕ) → text ≡ front ++ rest → Fits at whole → Fits end front
  left_fits front rest split fits = omega (arith, left.ends, ap length split, length-append front rest)

  pub left_next : (rest : List ℕ) {front next : List ℕ} {middle : ℕ} → text ≡ front ++ rest → Put out end front next middle → Left before at whole next middle rest
  left_next rest {front} {next} {middle} split put =
      record {
        wrote =
            ap (λ (buffer : List ℕ). written buffer middle rest) put.wrote
            ∙ ap (λ (place : ℕ). written (written out end front) place rest) put.ends
            ∙ sym (written_append out end front rest)
            ∙ ap (λ (bytes : List ℕ). written out end bytes) (sym split)
            ∙ left.wrote;
        ends = omega (arith, put.ends, left.ends, ap length split, length-append front rest);
      }

  pub left_none : text ≡ [] → Put before at whole out end
  unfolding written
  left_none none =
      record {
        wrote = ap (λ (bytes : List ℕ). written out end bytes) (sym none) ∙ left.wrote;
        ends = omega (arith, left.ends, ap length none);
      }

  pub left_length : length out ≡ length before
  left_length = sym (length_written out end text) ∙ ap length left.wrote ∙ length_written before at whole

-- ---- the edits
pub edit_lines_next : (numbers : List ℕ) (i : ℕ) → i < length numbers
    → edit_lines (i + 1) (drop i numbers) ≡ edit_line (i + 1) (get_or numbers i 0) ++ edit_lines (i + 1 + 1) (drop (i + 1) numbers)
unfolding edit_lines
edit_lines_next numbers i inside = ap (edit_lines (i + 1)) (drop-cons numbers i 0 inside ∙ ap (λ (n : ℕ). get_or numbers i 0 ∷ drop n numbers) (sym (add-one i)))

pub edit_lines_none : (numbers : List ℕ) (k i : ℕ) → length numbers ≤ i → edit_lines k (drop i numbers) ≡ []
unfolding edit_lines
edit_lines_none numbers k i past = ap (edit_lines k) (drop_of_length-le numbers {i = i} past)

-- ---- the openings: the answer of the call has their numbers, entry by entry
pub open_lines_next : (sides : List PointSide) (list : Openings) (i : ℕ) → list ≡ openings_answer sides → i < length sides
    → open_lines (drop i sides) ≡ open_line (get_or list.points i 0) (get_or list.directions i 0) ++ open_lines (drop (i + 1) sides)
unfolding open_lines
open_lines_next sides list i so inside =
    let side = get_or sides i no_side in
    let rest = open_lines (drop (i + 1) sides) in
    ap open_lines (drop-cons sides i no_side inside ∙ ap (λ (n : ℕ). side ∷ drop n sides) (sym (add-one i)))
    ∙ ap (λ (n : ℕ). open_line n (direction_entry side) ++ rest) (sym (ap (λ (l : Openings). get_or l.points i 0) so ∙ answer_point sides i inside))
    ∙ ap (λ (k : ℕ). open_line (get_or list.points i 0) k ++ rest) (sym (ap (λ (l : Openings). get_or l.directions i 0) so ∙ answer_direction sides i inside))

pub open_lines_none : (sides : List PointSide) (i : ℕ) → length sides ≤ i → open_lines (drop i sides) ≡ []
unfolding open_lines
open_lines_none sides i past = ap open_lines (drop_of_length-le sides {i = i} past)
