-- A load is the file of a head and edits, so that what is written is read; its floats are drawn, and each is so many of 1,024 parts of 1.
use Rattle.std.specs.Prelude.{ℕ, zero, suc, ◌≤◌, ◌<◌, ◌≡◌, refl, Bool, true, false, not, cond, ◌&&◌, List, [], ◌++◌, leb, eqb, length, take, drop, Err, Ok, Result}
use Rattle.std.proofs.Common.{sym, ap, ◌∙◌, subst, arith, le-leb, leb-true}
use Rattle.std.specs.Float.{binary64}
use Rattle.std.specs.Float.Ieee.{of_bits, le}
use Rattle.std.specs.Float.Ieee.Bits.{of_bits-fits}
use Rattle.std.proofs.Math.Seq.{take-append_seam}
use Rattle.big_endian.proofs.WrittenLaws.{written_front}
use Rattle.control_point.specs.declared.refusal.Refusal.{Refusal}
use Rattle.control_point.specs.declared.refusal.Refusal.TheVariants.{Length, Short, Seed, TooMany}
use Rattle.draw.specs.Draw.{later_draw, drawn_float}
use Rattle.draw.proofs.DrawLaws.{in_parts_fits}
use Rattle.draw.proofs.TheoremsProof.{drawn_float_is_exact}
use Rattle.float64.specs.Literals.{zero_literal, one_literal}
use Rattle.float64.proofs.SignLaws.{literal_zero, literal_one}
use Rattle.float64.specs.Unit.{in_unit}
use Rattle.map_format.specs.Format.{most_edits, head_corner_at, file_length}
use Rattle.map_format.specs.declared.format.Head.{Head}
use Rattle.map_writing.specs.Answer.{write_told, bytes_written, buffer_with}
use Rattle.map_writing.proofs.LengthLaws.{length_file}
use Rattle.map_writing.specs.Theorems.{FitPosition, FitEdits, FitHead}
use Rattle.map_writing.proofs.TheoremsProof.{written_is_read}
use Rattle.t_mesh.specs.declared.t_mesh.Position.{Position}
use Rattle.load.specs.Load.{load_head, drawn_edit, drawn_edits, load_file, load_answer, asked_bytes, asked_seed, asked_count, asked_answer}
use Rattle.load.proofs.LoadLaws.{length_drawn, load_case, asked_case}
use Rattle.load.specs.Theorems.{LoadIsRead, PositionInUnit, EditsInUnit, LoadInUnit, LoadAtFront, ProgramHasRoom, ProgramWrites}

-- ---- the floats are f64
drawn_fits : (count state : ℕ) → FitEdits (drawn_edits count state)
unfolding drawn_edits drawn_edit
drawn_fits zero state = tt
drawn_fits (suc count) state =
    ((omega arith, (in_parts_fits _, (in_parts_fits _, (in_parts_fits _, in_parts_fits _)))), drawn_fits count (later_draw 6 state))

literal_position : (a b c : ℕ) → FitPosition (record { x = of_bits binary64 a; y = of_bits binary64 b; z = of_bits binary64 c })
literal_position a b c = (of_bits-fits binary64 a, (of_bits-fits binary64 b, of_bits-fits binary64 c))

head_fits : FitHead load_head
head_fits = (of_bits-fits binary64 _, (literal_position _ _ _, (literal_position _ _ _, (literal_position _ _ _, literal_position _ _ _))))

-- ---- the reader accepts each load
pub load_is_read : LoadIsRead
unfolding load_file
load_is_read seed count few =
    let long = length_drawn count seed in
    let read = written_is_read load_head (drawn_edits count seed) refl (subst (λ (n : ℕ). n ≤ most_edits) (sym long) few) head_fits (drawn_fits count seed) in
    (read.1 ∙ ap Ok long, read.2, read.3)

-- ---- every position lies from 0 to 1
drawn_in_unit : (count state : ℕ) → EditsInUnit (drawn_edits count state)
unfolding drawn_edits drawn_edit
drawn_in_unit zero state = tt
drawn_in_unit (suc count) state = (((float 4, (float 5, float 6)), float 3), drawn_in_unit count (later_draw 6 state))
  where
    float : (times : ℕ) → in_unit (drawn_float (later_draw times state)) ≡ true
    float times = (drawn_float_is_exact (later_draw times state)).1

zero_in_unit : in_unit zero_literal ≡ true
unfolding in_unit le
zero_in_unit = rw (literal_zero, literal_one) refl

one_in_unit : in_unit one_literal ≡ true
unfolding in_unit le
one_in_unit = rw (literal_zero, literal_one) refl

-- a corner is that of the head
abbrev head_corner : Head → ℕ → Position
head_corner head zero = head.bottom_left
head_corner head (suc zero) = head.bottom_right
head_corner head (suc (suc zero)) = head.top_right
head_corner head (suc (suc (suc k))) = head.top_left

corner_in_unit : (seed count : ℕ) → count ≤ most_edits → (k : ℕ) → k < 4 → PositionInUnit (head_corner_at (load_file seed count) k)
corner_in_unit seed count few k below = subst PositionInUnit (sym (corner_read k below)) (corner k)
  where
    corner_read : (k : ℕ) → k < 4 → head_corner_at (load_file seed count) k ≡ head_corner load_head k
    corner_read zero h = ap (λ (head : Head). head.bottom_left) (load_is_read seed count few).1
    corner_read (suc zero) h = ap (λ (head : Head). head.bottom_right) (load_is_read seed count few).1
    corner_read (suc (suc zero)) h = ap (λ (head : Head). head.top_right) (load_is_read seed count few).1
    corner_read (suc (suc (suc zero))) h = ap (λ (head : Head). head.top_left) (load_is_read seed count few).1
    corner_read (suc (suc (suc (suc k)))) h = absurd (omega arith)

    corner : (k : ℕ) → PositionInUnit (head_corner load_head k)
    corner zero = (zero_in_unit, (zero_in_unit, zero_in_unit))
    corner (suc zero) = (one_in_unit, (zero_in_unit, zero_in_unit))
    corner (suc (suc zero)) = (one_in_unit, (one_in_unit, one_in_unit))
    corner (suc (suc (suc k))) = (zero_in_unit, (one_in_unit, one_in_unit))

pub load_in_unit : LoadInUnit
load_in_unit seed count few = (corner_in_unit seed count few, subst EditsInUnit (sym (load_is_read seed count few).2) (drawn_in_unit count seed))

-- ---- the file stands at the front
pub length_load : (seed count : ℕ) → length (load_file seed count) ≡ file_length count
unfolding load_file
length_load seed count = length_file load_head (drawn_edits count seed) ∙ ap file_length (length_drawn count seed)

-- a refusal is no length, and lengths are the same where the answers are
refused_length : (refusal : Refusal) (bytes : ℕ) → Err refusal ≡ Ok bytes → ⊥
refused_length refusal bytes same = let z : ◌≡◌ {A = ℕ} 0 1 = cc in omega arith

same_length : (a b : ℕ) → ◌≡◌ {A = Result ℕ Refusal} (Ok a) (Ok b) → a ≡ b
same_length a b same = cc

module _ (seed count bytes : ℕ) (buffer : List ℕ) where
  abbrev file : List ℕ
  file = load_file seed count

  -- what is said of an answer
  abbrev AtFront : Result ℕ Refusal → Type 0
  AtFront answer =
      answer ≡ Ok bytes → (count ≤ most_edits) × (bytes ≡ length file) × (bytes ≤ length buffer) × (buffer_with file answer buffer ≡ file ++ drop bytes buffer)

  in_front : count ≤ most_edits → file_length count ≤ length buffer → AtFront (Ok (file_length count))
  in_front few room is =
      let one = same_length (file_length count) bytes is in
      let long : bytes ≡ length file = sym one ∙ sym (length_load seed count) in
      let enough : bytes ≤ length buffer = omega (arith, one, room) in
      (few, long, enough, written_front file buffer (omega (arith, long, enough)) ∙ ap (λ (n : ℕ). file ++ drop n buffer) (sym long))

pub load_at_front : LoadAtFront
load_at_front seed count bytes buffer =
    load_case seed count (length buffer) (AtFront seed count bytes buffer)
    (λ is. absurd (refused_length Seed bytes is))
    (λ is. absurd (refused_length TooMany bytes is))
    (λ few short is. absurd (refused_length Short bytes is))
    (in_front seed count bytes buffer)

-- ---- the program
pub program_has_room : ProgramHasRoom
program_has_room input room enough =
    asked_case input room (λ answer. (write_told answer).number ≡ 16 → ⊥)
    (λ is. omega arith)
    (load_case (asked_seed input) (asked_count input) room (λ answer. (write_told answer).number ≡ 16 → ⊥)
    (λ is. omega arith)
    (λ is. omega arith)
    (λ few short is. omega arith)
    (λ few fits is. omega arith))

module _ (input buffer : List ℕ) (enough : file_length most_edits ≤ length buffer) where
  abbrev count : ℕ
  count = asked_count input

  abbrev asked : List ℕ
  asked = load_file (asked_seed input) count

  -- what is written by an answer
  abbrev output : Result ℕ Refusal → List ℕ
  output answer = take (bytes_written answer) (buffer_with asked answer buffer)

  whole_file : count ≤ most_edits → output (Ok (file_length count)) ≡ asked
  whole_file few =
      let long = length_load (asked_seed input) count in
      ap (take (file_length count)) (written_front asked buffer (omega (arith, long, few, enough)))
      ∙ ap (λ (n : ℕ). take n (asked ++ drop (length asked) buffer)) (sym long)
      ∙ take-append_seam asked (drop (length asked) buffer)

  by_tests : (right some few : Bool) → leb count most_edits ≡ few
      → output (cond right (cond some (cond few (cond (leb (file_length count) (length buffer)) (Ok (file_length count)) (Err Short)) (Err TooMany)) (Err Seed)) (Err Length))
      ≡ cond (right && (some && few)) asked []
  by_tests true true true is-few =
      let few = leb-true count most_edits is-few in
      rw (le-leb (file_length count) (length buffer) (omega (arith, few, enough))) (whole_file few)
  by_tests true true false is-few = refl
  by_tests true false few is-few = refl
  by_tests false some few is-few = refl

pub program_writes : ProgramWrites
unfolding asked_answer load_answer
program_writes input buffer enough =
    by_tests input buffer enough (eqb (length input) asked_bytes) (not (eqb (asked_seed input) 0)) (leb (asked_count input) most_edits) refl
