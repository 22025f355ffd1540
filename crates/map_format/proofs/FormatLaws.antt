-- Laws of the definitions of specs/Format.antt: what stands after the first bytes, what a valid file tells, the headings one by one, and one heading more.
use Rattle.std.specs.List.{list_all, range_with_len}
use Rattle.std.specs.Prelude.{ℕ, zero, suc, ◌+◌, ◌*◌, ◌-◌, ◌≤◌, ◌<◌, ◌≡◌, refl, Bool, true, false, cond, ◌&&◌, List, ltb, length, drop, Err, Ok, Result}
use Rattle.std.proofs.Common.{sym, ap, ◌∙◌, add-one, add_assoc, arith, get_or-drop, lt-ltb, le-ltb}
use Rattle.big_endian.specs.BigEndian.{byte_at}
use Rattle.big_endian.proofs.BigEndianLaws.{number_after}
use Rattle.control_point.specs.Told.{Told, unless, refusal_told}
use Rattle.control_point.specs.declared.refusal.Refusal.{Refusal}
use Rattle.control_point.specs.declared.refusal.Refusal.TheVariants.{Length, Version, Heading}
use Rattle.counted_file.specs.Counted.{file_told}
use Rattle.counted_file.proofs.CountedLaws.{length_tells, valid_refused}
use Rattle.map_format.specs.Format.{edits_at, edit_bytes, most_edits, direction_in, version_of, is_version, position_at, edit_at, target_of, edit_count, length_right, headings_right, checked_file, where_valid, file_table}

-- ---- what stands after the first bytes stands in all bytes, that many places on
pub position_after : (bytes : List ℕ) (count at : ℕ) → position_at (drop count bytes) at ≡ position_at bytes (count + at)
position_after bytes count at = simp (number_after, add_assoc)

pub edit_after : (bytes : List ℕ) (count at : ℕ) → edit_at (drop count bytes) at ≡ edit_at bytes (count + at)
edit_after bytes count at = simp (number_after, get_or-drop, add_assoc)

pub target_after : (bytes : List ℕ) (count : ℕ) → target_of (edit_at (drop count bytes) 0) ≡ target_of (edit_at bytes count)
target_after bytes count = ap target_of (edit_after bytes count 0 ∙ ap (edit_at bytes) (omega arith))

-- ---- a valid file
-- where three tests in a row make it valid, the first held and the count is that of the last
valid_right : (long second third : Bool) (other last : Refusal) (count n : ℕ)
    → cond long (cond second (cond third (Ok count) (Err last)) (Err other)) (Err Length) ≡ Ok n → (long ≡ true) × (count ≡ n)
valid_right true true true other last count n valid = (refl, cc)
valid_right true true false other last count n valid = absurd (valid_refused last n valid)
valid_right true false third other last count n valid = absurd (valid_refused other n valid)
valid_right false second third other last count n valid = absurd (valid_refused Length n valid)

-- its edits are all that follows the head, and at most 1,000
pub valid_tells : (bytes : List ℕ) (n : ℕ) → checked_file bytes ≡ Ok n → (edits_at + n * edit_bytes ≡ length bytes) × (n ≤ most_edits)
unfolding checked_file
valid_tells bytes n valid =
    let right = valid_right (length_right bytes) (is_version (version_of bytes)) (headings_right (edit_count bytes) bytes edits_at) Version Heading (edit_count bytes) n valid in
    let tells = length_tells edits_at edit_bytes most_edits bytes right.0 in
    (ap (λ (count : ℕ). edits_at + count * edit_bytes) (sym right.1) ∙ tells.filled, omega (arith, tells.few, right.1))

-- ---- `all` over the numbers of the edits
pub all_headings : (bytes : List ℕ) (from count : ℕ)
    → list_all (λ (n : ℕ). ltb (byte_at bytes (edits_at + n * edit_bytes + direction_in)) 4) (range_with_len from count) ≡ headings_right count bytes (edits_at + from * edit_bytes)
unfolding headings_right
all_headings bytes from zero = refl
all_headings bytes from (suc count) =
    let next : edits_at + (from + 1) * edit_bytes ≡ edits_at + from * edit_bytes + edit_bytes = omega arith in
    ap (λ (rest : Bool). ltb (byte_at bytes (edits_at + from * edit_bytes + direction_in)) 4 && rest)
    (all_headings bytes (from + 1) count ∙ ap (headings_right count bytes) next)

-- ---- one heading more
heading_first : (count : ℕ) (bytes : List ℕ) (at : ℕ) → 0 < count
    → headings_right count bytes at ≡ (ltb (byte_at bytes (at + direction_in)) 4 && headings_right (count - 1) bytes (at + edit_bytes))
unfolding headings_right
heading_first count bytes at some =
    let back : count ≡ suc (count - 1) = omega (arith, add-one (count - 1)) in
    ap (λ (n : ℕ). headings_right n bytes at) back

-- after a right one the others decide
pub heading_right : (count : ℕ) (bytes : List ℕ) (at : ℕ) → 0 < count → byte_at bytes (at + direction_in) < 4
    → headings_right (count - 1) bytes (at + edit_bytes) ≡ headings_right count bytes at
heading_right count bytes at some right = sym (heading_first count bytes at some ∙ rw (lt-ltb _ 4 right) refl)

-- a wrong one decides
pub heading_wrong : (count : ℕ) (bytes : List ℕ) (at : ℕ) → 0 < count → 4 ≤ byte_at bytes (at + direction_in) → false ≡ headings_right count bytes at
heading_wrong count bytes at some wrong = sym (heading_first count bytes at some ∙ rw (le-ltb _ 4 wrong) refl)

-- ---- what takes a file tells what its table says, if of a refused one it tells the refusal
pub where_valid_told : (bytes : List ℕ) (told : Result ℕ Refusal → Told) → ((refusal : Refusal) → told (Err refusal) ≡ refusal_told refusal)
    → told (checked_file bytes) ≡ where_valid bytes (told (Ok (edit_count bytes)))
unfolding checked_file
where_valid_told bytes told refused = by_tests (length_right bytes) (is_version (version_of bytes)) (headings_right (edit_count bytes) bytes edits_at)
  where
    by_tests : (long version headings : Bool)
        → told (cond long (cond version (cond headings (Ok (edit_count bytes)) (Err Heading)) (Err Version)) (Err Length))
        ≡ unless 12 long (unless 13 version (unless 14 headings (told (Ok (edit_count bytes)))))
    by_tests true true true = refl
    by_tests true true false = refused Heading
    by_tests true false headings = refused Version
    by_tests false version headings = refused Length

pub file_told_lem : (bytes : List ℕ) → file_told (checked_file bytes) ≡ file_table bytes
file_told_lem bytes = where_valid_told bytes file_told (λ refusal. refl)
