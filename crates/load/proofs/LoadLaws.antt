-- Laws of specs/Load.antt: how many edits there are and one edit more; what holds of each answer of a call holds of the one that it gives; and for each way that its tests go, what it answers, what it
-- leaves and what it tells.
use Rattle.std.specs.Prelude.{ℕ, zero, suc, ◌+◌, ◌*◌, ◌-◌, ◌≤◌, ◌<◌, ◌≡◌, Bool, true, false, not, cond, List, [], ◌∷◌, ◌++◌, leb, eqb, length, Err, Ok, Result}
use Rattle.std.proofs.Math.Path.{refl}
use Rattle.std.proofs.Common.{sym, ap, ◌∙◌, add-one, arith}
use borrow.Author.Tests.{le-leb, lt-leb, leb-true, leb-false, eq-eqb, ne_eqb}
use Rattle.big_endian.specs.Written.{written}
use Rattle.big_endian.proofs.WrittenLaws.{written_part}
use Rattle.control_point.specs.Told.{natural, tells, unless}
use Rattle.control_point.specs.declared.refusal.Refusal.TheVariants.{Length, Short, Seed, TooMany}
use Rattle.counting.proofs.BoolLaws.{cond_case}
use Rattle.draw.specs.Draw.{later_draw}
use Rattle.map_format.specs.Format.{edits_at, edit_bytes, most_edits, bytes_of_edit, bytes_of_edits, file_length, front_of, file_of}
use Rattle.map_writing.specs.Answer.{write_told, bytes_written, buffer_with}
use Rattle.map_writing.proofs.AnswerLaws.{Gives, due_gives}
use Rattle.map_writing.proofs.LengthLaws.{length_edit, length_front}
use Rattle.load.specs.Load.{load_head, drawn_edit, drawn_edits, load_file, load_answer, load_buffer, load_table, asked_bytes, asked_seed, asked_count, asked_answer, asked_table}
use Rattle.control_point.specs.declared.refusal.Refusal.{Refusal}

-- ---- the edits
pub length_drawn : (count state : ℕ) → length (drawn_edits count state) ≡ count
unfolding drawn_edits
length_drawn zero state = refl
length_drawn (suc count) state = ap suc (length_drawn count (later_draw 6 state))

-- of those from number n on the first is written, and the others behind it
pub put_more : (buffer : List ℕ) (n count state : ℕ) → n < count
    → written (written buffer (edits_at + n * edit_bytes) (bytes_of_edit (drawn_edit state))) (edits_at + (n + 1) * edit_bytes) (bytes_of_edits (drawn_edits (count - (n + 1)) (later_draw 6 state)))
    ≡ written buffer (edits_at + n * edit_bytes) (bytes_of_edits (drawn_edits (count - n) state))
unfolding drawn_edits bytes_of_edits
put_more buffer n count state some =
    let at = edits_at + n * edit_bytes in
    let first = bytes_of_edit (drawn_edit state) in
    let others = bytes_of_edits (drawn_edits (count - (n + 1)) (later_draw 6 state)) in
    let next : edits_at + (n + 1) * edit_bytes ≡ at + edit_bytes = omega arith in
    let back : suc (count - (n + 1)) ≡ count - n = omega (arith, add-one (count - (n + 1))) in
    ap (λ (place : ℕ). written (written buffer at first) place others) next
    ∙ sym (written_part buffer at edit_bytes first others (length_edit (drawn_edit state)))
    ∙ ap (λ (left : ℕ). written buffer at (bytes_of_edits (drawn_edits left state))) back

-- the front, and all edits behind it
put_file : (seed count : ℕ) (buffer : List ℕ)
    → written (written buffer 0 (front_of count load_head)) edits_at (bytes_of_edits (drawn_edits count seed)) ≡ written buffer 0 (load_file seed count)
unfolding load_file file_of
put_file seed count buffer =
    let edits = drawn_edits count seed in
    sym (written_part buffer 0 edits_at (front_of count load_head) (bytes_of_edits edits) (length_front count load_head))
    ∙ ap (λ (n : ℕ). written buffer 0 (front_of n load_head ++ bytes_of_edits edits)) (sym (length_drawn count seed))

-- ---- what holds of each answer
module _ (seed count room : ℕ) (P : Result ℕ Refusal → Type 0) where
  pub load_case : P (Err Seed) → P (Err TooMany) → (count ≤ most_edits → room < file_length count → P (Err Short))
      → (count ≤ most_edits → file_length count ≤ room → P (Ok (file_length count))) → P (load_answer seed count room)
  unfolding load_answer
  load_case no_seed too_many short in_full =
      cond_case (not (eqb seed 0)) P _ _
      (λ some.
      cond_case (leb count most_edits) P _ _
      (λ few.
      let fewer = leb-true count most_edits few in
      cond_case (leb (file_length count) room) P _ _ (λ fits. in_full fewer (leb-true (file_length count) room fits)) (λ fails. short fewer (leb-false (file_length count) room fails)))
      (λ many. too_many))
      (λ none. no_seed)

pub asked_case : (input : List ℕ) (room : ℕ) (P : Result ℕ Refusal → Type 0) → P (Err Length) → P (load_answer (asked_seed input) (asked_count input) room) → P (asked_answer input room)
unfolding asked_answer
asked_case input room P wrong right = cond_case (eqb (length input) asked_bytes) P _ _ (λ _. right) (λ _. wrong)

-- no more is written than there is room for
pub load_fits : (seed count room : ℕ) → bytes_written (load_answer seed count room) ≤ room
load_fits seed count room = load_case seed count room (λ answer. bytes_written answer ≤ room) (omega arith) (omega arith) (λ few short. omega arith) (λ few fits. fits)

pub asked_fits : (input : List ℕ) (room : ℕ) → bytes_written (asked_answer input room) ≤ room
asked_fits input room = asked_case input room (λ answer. bytes_written answer ≤ room) (omega arith) (load_fits (asked_seed input) (asked_count input) room)

-- ---- the call
load_told : (seed count room : ℕ) → write_told (load_answer seed count room) ≡ load_table seed count room
unfolding load_answer
load_told seed count room = by_tests (not (eqb seed 0)) (leb count most_edits) (leb (file_length count) room)
  where
    by_tests : (some few fits : Bool)
        → write_told (cond some (cond few (cond fits (Ok (file_length count)) (Err Short)) (Err TooMany)) (Err Seed))
        ≡ unless 21 some (unless 22 few (unless 16 fits (tells (natural (file_length count) ∷ []))))
    by_tests true true true = refl
    by_tests true true false = refl
    by_tests true false fits = refl
    by_tests false few fits = refl

-- what a call gives: its answer, the buffer that it leaves, and what it tells
abbrev pub LoadGives : ℕ → ℕ → List ℕ → Result ℕ Refusal → List ℕ → Type 0
LoadGives seed count buffer = Gives (load_file seed count) buffer (load_answer seed count (length buffer)) (load_table seed count (length buffer))

module _ (seed count : ℕ) (buffer : List ℕ) where
  -- by the answer that is due
  load_gives : (answer : Result ℕ Refusal) → answer ≡ load_answer seed count (length buffer) → LoadGives seed count buffer answer (buffer_with (load_file seed count) answer buffer)
  load_gives = due_gives (load_file seed count) buffer (load_answer seed count (length buffer)) (load_table seed count (length buffer)) (load_told seed count (length buffer))

  pub no_seed : seed ≡ 0 → LoadGives seed count buffer (Err Seed) buffer
  unfolding load_answer
  no_seed none = load_gives (Err Seed) (rw (eq-eqb seed 0 none) refl)

  pub too_many : (seed ≡ 0 → ⊥) → most_edits < count → LoadGives seed count buffer (Err TooMany) buffer
  unfolding load_answer
  too_many some many = load_gives (Err TooMany) (rw (ne_eqb seed 0 some, lt-leb count most_edits many) refl)

  -- by the file's length that is at hand
  module _ (some : seed ≡ 0 → ⊥) (few : count ≤ most_edits) (bytes : ℕ) (is-length : bytes ≡ file_length count) where
    pub too_short : length buffer < bytes → LoadGives seed count buffer (Err Short) buffer
    unfolding load_answer
    too_short short =
        load_gives (Err Short) (rw (ne_eqb seed 0 some, le-leb count most_edits few, lt-leb (file_length count) (length buffer) (rw is-length at short)) refl)

    pub in_full : bytes ≤ length buffer
        → LoadGives seed count buffer (Ok bytes) (written (written buffer 0 (front_of count load_head)) edits_at (bytes_of_edits (drawn_edits count seed)))
    unfolding load_answer
    in_full room =
        let due : Ok bytes ≡ load_answer seed count (length buffer) =
        rw (is-length, ne_eqb seed 0 some, le-leb count most_edits few, le-leb (file_length count) (length buffer) (rw is-length at room)) refl in
        let gives = load_gives (Ok bytes) due in
        (gives.0, (put_file seed count buffer ∙ gives.1.0, gives.1.1))

-- ---- what the program is asked for
pub asked_told : (input : List ℕ) (room : ℕ) → write_told (asked_answer input room) ≡ asked_table input room
unfolding asked_answer
asked_told input room = by_test (eqb (length input) asked_bytes)
  where
    by_test : (right : Bool)
        → write_told (cond right (load_answer (asked_seed input) (asked_count input) room) (Err Length)) ≡ unless 12 right (load_table (asked_seed input) (asked_count input) room)
    by_test true = load_told (asked_seed input) (asked_count input) room
    by_test false = refl

abbrev pub AskedGives : List ℕ → List ℕ → Result ℕ Refusal → List ℕ → Type 0
AskedGives input buffer = Gives (load_file (asked_seed input) (asked_count input)) buffer (asked_answer input (length buffer)) (asked_table input (length buffer))

module _ (input buffer : List ℕ) where
  asked_gives : (answer : Result ℕ Refusal) → answer ≡ asked_answer input (length buffer)
      → AskedGives input buffer answer (buffer_with (load_file (asked_seed input) (asked_count input)) answer buffer)
  asked_gives =
      due_gives (load_file (asked_seed input) (asked_count input)) buffer (asked_answer input (length buffer)) (asked_table input (length buffer)) (asked_told input (length buffer))

  pub asked_wrongly : (length input ≡ asked_bytes → ⊥) → AskedGives input buffer (Err Length) buffer
  unfolding asked_answer
  asked_wrongly wrong = asked_gives (Err Length) (rw (ne_eqb (length input) asked_bytes wrong) refl)

  -- then it is the load of that seed and count
  pub asked_rightly_lem : length input ≡ asked_bytes → (seed count : ℕ) → seed ≡ asked_seed input → count ≡ asked_count input → (answer : Result ℕ Refusal) (after : List ℕ)
      → answer ≡ load_answer seed count (length buffer) → after ≡ load_buffer seed count buffer → AskedGives input buffer answer after
  unfolding asked_answer
  asked_rightly_lem right seed count is-seed is-count answer after is left =
      let due : load_answer seed count (length buffer) ≡ asked_answer input (length buffer) = rw (is-seed, is-count, eq-eqb (length input) asked_bytes right) refl in
      let gives = asked_gives answer (is ∙ due) in
      (gives.0, (left ∙ rw (is-seed, is-count) (ap (λ (a : Result ℕ Refusal). buffer_with (load_file (asked_seed input) (asked_count input)) a buffer) (rw (is-seed, is-count) at due)), gives.1.1))
