-- Each part of a file stands behind parts of known length, at the place where it is read.
use Rattle.std.specs.Prelude.{ℕ, zero, suc, ◌+◌, ◌*◌, ◌-◌, ◌/◌, ◌%◌, ◌≤◌, ◌<◌, ◌≡◌, true, leb, Float, Ok}
use Rattle.std.proofs.Math.Path.{refl, ap}
use Rattle.std.proofs.Common.{◌∙◌, mod-lt, lit<, length-append, lt-ltb, le-leb, leb-true, eq-eqb}
use mathlib.Core.List.{List, [], ◌∷◌, ◌++◌, append_assoc}
use native.Mathlib.Omega.{arith}
use Rattle.std.specs.Float.{binary64}
use Rattle.std.specs.Float.Ieee.{to_bits}
use Rattle.std.proofs.Math.ListN.{length}
use Rattle.big_endian.specs.BigEndian.{byte_at, number_at, float_at}
use Rattle.big_endian.proofs.ReadBackLaws.{byte_in, number_in, float_in}
use Rattle.big_endian.specs.Written.{bytes_of, bytes_of_float}
use Rattle.big_endian.proofs.WrittenLaws.{length_bytes}
use Rattle.control_point.specs.Direction.{direction_number, direction_numbered}
use Rattle.control_point.proofs.DirectionLaws.{number_small, numbered_number}
use Rattle.counted_file.specs.Counted.{count_bytes, version_at, counted_right}
use Rattle.counting.proofs.BoolLaws.{and_both}
use Rattle.map_format.specs.Format.{border_at, corners_at, position_bytes, edits_at, edit_bytes, most_edits, direction_in, ratio_in, position_in, first_version, last_version, is_version, position_at, bytes_of_position, Edit, edit_at, bytes_of_edit, edits_from, bytes_of_edits, head_of, bytes_of_head, edit_count, edits_of, file_length, front_of, file_of, headings_right, checked_file}
use Rattle.map_format.specs.declared.format.Head.{Head}
use Rattle.t_mesh.specs.declared.t_mesh.Position.{Position}
use Rattle.map_writing.proofs.LengthLaws.{length_front, length_file}
use Rattle.map_writing.specs.Theorems.{AreBytes, FitPosition, FitEdit, FitEdits, FitHead, WrittenIsRead}

-- ---- positions and edits, behind so many bytes of a text
position_in_lem : (p : Position) (before rest text : List ℕ) (at : ℕ) → FitPosition p → text ≡ before ++ (bytes_of_position p ++ rest) → length before ≡ at → position_at text at ≡ p
position_in_lem p before rest text at fit parts place =
    let x = bytes_of_float p.x in
    let y = bytes_of_float p.y in
    let z = bytes_of_float p.z in
    let first = float_in p.x before (y ++ (z ++ rest)) text at fit.0 (parts ∙ simp append_assoc) place in
    let second = float_in p.y (before ++ x) (z ++ rest) text (at + 8) fit.1.0 (parts ∙ simp append_assoc) (simp (length-append, length_bytes) (omega arith)) in
    let third = float_in p.z (before ++ (x ++ y)) rest text (at + 16) fit.1.1 (parts ∙ simp append_assoc) (simp (length-append, length_bytes) (omega arith)) in
    rw (first, second, third)

-- an edit by its parts
same_edit : (edit : Edit) (point number : ℕ) (ratio : Float) (position : Position)
    → point ≡ edit.point → number ≡ direction_number edit.direction → ratio ≡ edit.ratio → position ≡ edit.position
    → ◌≡◌ {A = Edit} (record { point = point; direction = direction_numbered number; ratio = ratio; position = position }) edit
same_edit edit point number ratio position p q r s = rw (p, q, r, s, numbered_number edit.direction)

edit_in : (edit : Edit) (before rest text : List ℕ) (at : ℕ) → FitEdit edit → text ≡ before ++ (bytes_of_edit edit ++ rest) → length before ≡ at → edit_at text at ≡ edit
edit_in edit before rest text at fit parts place =
    let two : List ℕ = edit.point ∷ (direction_number edit.direction ∷ []) in
    let ratio =
    float_in edit.ratio (before ++ two) (bytes_of_position edit.position ++ rest) text (at + ratio_in) fit.1.0 (parts ∙ simp append_assoc) (simp length-append (omega arith)) in
    let position =
    position_in_lem edit.position (before ++ (two ++ bytes_of_float edit.ratio)) rest text (at + position_in) fit.1.1 (parts ∙ simp append_assoc)
    (simp (length-append, length_bytes) (omega arith)) in
    same_edit edit (byte_at text at) (byte_at text (at + direction_in)) (float_at text (at + ratio_in)) (position_at text (at + position_in))
    (ap (byte_at text) {x = at} {y = at + 0} (omega arith) ∙ byte_in before (bytes_of_edit edit ++ rest) text at 0 parts place)
    (byte_in before (bytes_of_edit edit ++ rest) text at direction_in parts place)
    ratio
    position

edits_in : (edits : List Edit) (before text : List ℕ) (at : ℕ) → FitEdits edits → text ≡ before ++ bytes_of_edits edits → length before ≡ at
    → edits_from (length edits) text at ≡ edits
unfolding edits_from bytes_of_edits
edits_in [] before text at fit parts place = refl
edits_in (edit ∷ rest) before text at fit parts place =
    rw (
      edit_in edit before (bytes_of_edits rest) text at fit.0 parts place,
      edits_in rest (before ++ bytes_of_edit edit) text (at + edit_bytes) fit.1 (parts ∙ simp append_assoc) (simp (length-append, length_bytes) (omega arith)),
    )

headings_in : (edits : List Edit) (before text : List ℕ) (at : ℕ) → text ≡ before ++ bytes_of_edits edits → length before ≡ at
    → headings_right (length edits) text at ≡ true
unfolding headings_right bytes_of_edits
headings_in [] before text at parts place = refl
headings_in (edit ∷ rest) before text at parts place =
    rw (
      byte_in before (bytes_of_edit edit ++ bytes_of_edits rest) text at direction_in parts place,
      lt-ltb (direction_number edit.direction) 4 (number_small edit.direction),
      headings_in rest (before ++ bytes_of_edit edit) text (at + edit_bytes) (parts ∙ simp append_assoc) (simp (length-append, length_bytes) (omega arith)),
    )

-- ---- the whole file
-- a file is valid by its length, its count, its version and its headings
valid_by : (bytes : List ℕ) (count version : ℕ) → count ≤ most_edits → length bytes ≡ file_length count → count_bytes + number_at count_bytes bytes 0 ≡ file_length count
    → byte_at bytes version_at ≡ version → is_version version ≡ true → headings_right count bytes edits_at ≡ true → checked_file bytes ≡ Ok count
unfolding checked_file counted_right
valid_by bytes count version few long said is-there version-right headings =
    let edits : (file_length count - edits_at) / edit_bytes ≡ count = omega arith in
    let whole : (file_length count - edits_at) % edit_bytes ≡ 0 = omega arith in
    rw (
      long,
      said,
      edits,
      whole,
      is-there,
      version-right,
      headings,
      le-leb edits_at (file_length count) (omega arith),
      eq-eqb (file_length count) (file_length count) refl,
      le-leb count most_edits few,
    )

module _ (head : Head) (edits : List Edit) where
  abbrev text : List ℕ
  text = file_of head edits

  abbrev size : List ℕ
  size = bytes_of count_bytes (file_length (length edits) - count_bytes)

  abbrev behind_size : List ℕ
  behind_size = bytes_of_head head ++ bytes_of_edits edits

  size_first : text ≡ size ++ behind_size
  unfolding file_of front_of
  size_first = append_assoc size (bytes_of_head head) (bytes_of_edits edits)

  version_back : byte_at text version_at ≡ head.version
  version_back = byte_in size behind_size text version_at 0 size_first (length_bytes count_bytes (file_length (length edits) - count_bytes))

  count_back : length edits ≤ most_edits → count_bytes + number_at count_bytes text 0 ≡ file_length (length edits)
  count_back few =
      ap (λ (n : ℕ). count_bytes + n) (number_in count_bytes (file_length (length edits) - count_bytes) [] behind_size text 0 (omega arith) size_first refl) ∙ omega arith

  file_valid : is_version head.version ≡ true → length edits ≤ most_edits → checked_file text ≡ Ok (length edits)
  unfolding file_of
  file_valid known few =
      valid_by text (length edits) head.version few (length_file head edits) (count_back few) version_back known
      (headings_in edits (front_of (length edits) head) text edits_at refl (length_front (length edits) head))

  head_back : FitHead head → head_of text ≡ head
  unfolding file_of front_of
  head_back fit =
      let start = size ++ (head.version ∷ []) in
      let weight = bytes_of_float head.border in
      let a = bytes_of_position head.bottom_left in
      let b = bytes_of_position head.bottom_right in
      let c = bytes_of_position head.top_right in
      let d = bytes_of_position head.top_left in
      let rest = bytes_of_edits edits in
      rw (
        version_back,
        float_in head.border start (a ++ (b ++ (c ++ (d ++ rest)))) text border_at fit.0 (simp append_assoc) (simp (length-append, length_bytes)),
        position_in_lem head.bottom_left (start ++ weight) (b ++ (c ++ (d ++ rest))) text corners_at fit.1.0 (simp append_assoc) (simp (length-append, length_bytes)),
        position_in_lem head.bottom_right (start ++ (weight ++ a)) (c ++ (d ++ rest)) text (corners_at + position_bytes) fit.1.1.0 (simp append_assoc) (simp (length-append, length_bytes)),
        position_in_lem head.top_right (start ++ (weight ++ (a ++ b))) (d ++ rest) text (corners_at + 2 * position_bytes) fit.1.1.1.0 (simp append_assoc) (simp (length-append, length_bytes)),
        position_in_lem head.top_left (start ++ (weight ++ (a ++ (b ++ c)))) rest text (corners_at + 3 * position_bytes) fit.1.1.1.1 (simp append_assoc) (simp (length-append, length_bytes)),
      )

  edits_back : FitEdits edits → edits_of text ≡ edits
  unfolding file_of
  edits_back fit =
      let count : edit_count text ≡ length edits = ap (λ (n : ℕ). (n - edits_at) / edit_bytes) (length_file head edits) ∙ omega arith in
      ap (λ (n : ℕ). edits_from n text edits_at) count ∙ edits_in edits (front_of (length edits) head) text edits_at fit refl (length_front (length edits) head)

-- ---- it consists of bytes
both_bytes : (a b : List ℕ) → AreBytes a → AreBytes b → AreBytes (a ++ b)
both_bytes [] b first second = second
both_bytes (byte ∷ a) b first second = (first.0, both_bytes a b first.1 second)

number_bytes : (width number : ℕ) → AreBytes (bytes_of width number)
unfolding bytes_of
number_bytes zero number = tt
number_bytes (suc width) number = both_bytes (bytes_of width (number / 256)) (number % 256 ∷ []) (number_bytes width (number / 256)) (mod-lt number (lit< tt), tt)

float_bytes : (x : Float) → AreBytes (bytes_of_float x)
float_bytes x = number_bytes 8 (to_bits binary64 x)

position_bytes_lem : (p : Position) → AreBytes (bytes_of_position p)
position_bytes_lem p =
    let y = bytes_of_float p.y in
    let z = bytes_of_float p.z in
    both_bytes (bytes_of_float p.x) (y ++ z) (float_bytes p.x) (both_bytes y z (float_bytes p.y) (float_bytes p.z))

edits_bytes : (edits : List Edit) → FitEdits edits → AreBytes (bytes_of_edits edits)
unfolding bytes_of_edits
edits_bytes [] fit = tt
edits_bytes (edit ∷ rest) fit =
    let small = number_small edit.direction in
    both_bytes (bytes_of_edit edit) (bytes_of_edits rest)
    (fit.0.0, (omega (arith, small), both_bytes (bytes_of_float edit.ratio) (bytes_of_position edit.position) (float_bytes edit.ratio) (position_bytes_lem edit.position)))
    (edits_bytes rest fit.1)

-- a version that there is is a byte
version_byte : (version : ℕ) → is_version version ≡ true → version < 256
version_byte version known = let few = leb-true version last_version (and_both (leb first_version version) (leb version last_version) known).1 in omega arith

file_bytes : (head : Head) (edits : List Edit) → is_version head.version ≡ true → FitEdits edits → AreBytes (file_of head edits)
unfolding file_of front_of
file_bytes head edits known fit =
    let a = bytes_of_position head.bottom_left in
    let b = bytes_of_position head.bottom_right in
    let c = bytes_of_position head.top_right in
    let d = bytes_of_position head.top_left in
    let top = both_bytes c d (position_bytes_lem head.top_right) (position_bytes_lem head.top_left) in
    let corners = both_bytes a (b ++ (c ++ d)) (position_bytes_lem head.bottom_left) (both_bytes b (c ++ d) (position_bytes_lem head.bottom_right) top) in
    let behind-count : AreBytes (bytes_of_head head) =
    (version_byte head.version known, both_bytes (bytes_of_float head.border) (a ++ (b ++ (c ++ d))) (float_bytes head.border) corners) in
    let count = file_length (length edits) - count_bytes in
    both_bytes (front_of (length edits) head) (bytes_of_edits edits)
    (both_bytes (bytes_of count_bytes count) (bytes_of_head head) (number_bytes count_bytes count) behind-count)
    (edits_bytes edits fit)

pub written_is_read : WrittenIsRead
written_is_read head edits known few fit-head fit-edits =
    (file_bytes head edits known fit-edits, file_valid head edits known few, head_back head edits fit-head, edits_back head edits fit-edits)
