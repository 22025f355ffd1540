-- The map file: what its bytes say, the bytes that say it, and which files are refused. All numbers are big-endian, floats are their bits.
--
--   at    bytes  what
--   0     4      the count of all bytes that follow
--   4     1      the version, 1 or 2
--   5     8      the border weight
--   13    4 × 24 the corners, anticlockwise from bottom left, three floats each
--   109   n × 34 up to 1,000 edits
--
-- An edit: 1 byte the point, 1 byte the direction, 8 bytes the ratio, 24 bytes the position.
--
--   version  a torn edit
--   1        stays
--   2        is withdrawn
--   other    the file is refused 13
use Rattle.std.specs.Prelude.{ℕ, zero, suc, ◌+◌, ◌*◌, ◌-◌, Bool, true, cond, ◌&&◌, List, [], ◌∷◌, ◌++◌, ltb, leb, Float, length, Err, Ok, Result}
use Rattle.big_endian.specs.BigEndian.{byte_at, float_at}
use Rattle.big_endian.specs.Written.{bytes_of, bytes_of_float}
use Rattle.control_point.specs.Direction.{direction_number, direction_numbered}
use Rattle.control_point.specs.Told.{Told, natural, tells, unless}
use Rattle.control_point.specs.declared.refusal.Refusal.TheVariants.{Length, Version, Heading}
use Rattle.control_point.specs.declared.t_mesh_direction.TmeshDirection.{TmeshDirection}
use Rattle.counted_file.specs.Counted.{count_bytes, version_at, item_count, counted_right}
use Rattle.t_mesh.specs.declared.t_mesh.Position.{Position}
use Rattle.map_format.specs.declared.format.EditTarget.{EditTarget}
use Rattle.map_format.specs.declared.format.Head.{Head}
use Rattle.control_point.specs.declared.refusal.Refusal.{Refusal}

-- ---- sizes and places
abbrev pub border_at : ℕ
border_at = 5

abbrev pub corners_at : ℕ
corners_at = 13

abbrev pub position_bytes : ℕ
position_bytes = 24

abbrev pub edits_at : ℕ
edits_at = 109

abbrev pub edit_bytes : ℕ
edit_bytes = 34

abbrev pub most_edits : ℕ
most_edits = 1000

-- within an edit
abbrev pub direction_in : ℕ
direction_in = 1

abbrev pub ratio_in : ℕ
ratio_in = 2

abbrev pub position_in : ℕ
position_in = 10

-- ---- the versions
abbrev pub version_of : List ℕ → ℕ
version_of bytes = byte_at bytes version_at

abbrev pub first_version : ℕ
first_version = 1

abbrev pub last_version : ℕ
last_version = 2

abbrev pub is_version : ℕ → Bool
is_version version = leb first_version version && leb version last_version

-- torn edits are withdrawn from this version on
abbrev pub withdrawing_version : ℕ
withdrawing_version = 2

-- whether the torn edits of a file are withdrawn
abbrev pub file_withdraws : List ℕ → Bool
file_withdraws bytes = leb withdrawing_version (version_of bytes)

-- ---- what stands at a place, and the bytes that say it
-- a position
abbrev pub position_at : List ℕ → ℕ → Position
position_at bytes at = record { x = float_at bytes at; y = float_at bytes (at + 8); z = float_at bytes (at + 16) }

abbrev pub bytes_of_position : Position → List ℕ
bytes_of_position position = bytes_of_float position.x ++ (bytes_of_float position.y ++ bytes_of_float position.z)

-- an edit
pub record Edit : Type 0 where
  pub point : ℕ
  pub direction : TmeshDirection
  pub ratio : Float
  pub position : Position

abbrev pub edit_at : List ℕ → ℕ → Edit
edit_at bytes at =
    record {
      point = byte_at bytes at;
      direction = direction_numbered (byte_at bytes (at + direction_in));
      ratio = float_at bytes (at + ratio_in);
      position = position_at bytes (at + position_in);
    }

abbrev pub bytes_of_edit : Edit → List ℕ
bytes_of_edit edit = edit.point ∷ (direction_number edit.direction ∷ (bytes_of_float edit.ratio ++ bytes_of_position edit.position))

-- where an edit inserts, and the edit that inserts there
abbrev pub target_of : Edit → EditTarget
target_of edit = record { point = edit.point; direction = edit.direction; ratio = edit.ratio }

abbrev pub edit_of : EditTarget → Position → Edit
edit_of target position = record { point = target.point; direction = target.direction; ratio = target.ratio; position = position }

-- so many edits, from a place on
unfoldable pub edits_from : ℕ → List ℕ → ℕ → List Edit
edits_from zero bytes at = []
edits_from (suc count) bytes at = edit_at bytes at ∷ edits_from count bytes (at + edit_bytes)

unfoldable pub bytes_of_edits : List Edit → List ℕ
bytes_of_edits [] = []
bytes_of_edits (edit ∷ rest) = bytes_of_edit edit ++ bytes_of_edits rest

-- ---- the whole file
-- the corner of a number, from 0
abbrev pub head_corner_at : List ℕ → ℕ → Position
head_corner_at bytes k = position_at bytes (corners_at + k * position_bytes)

-- what stands between the count and the edits
abbrev pub head_of : List ℕ → Head
head_of bytes =
    record {
      version = version_of bytes;
      border = float_at bytes border_at;
      bottom_left = head_corner_at bytes 0;
      bottom_right = head_corner_at bytes 1;
      top_right = head_corner_at bytes 2;
      top_left = head_corner_at bytes 3;
    }

abbrev pub bytes_of_head : Head → List ℕ
bytes_of_head head =
    head.version
    ∷ (bytes_of_float head.border
    ++ (bytes_of_position head.bottom_left
    ++ (bytes_of_position head.bottom_right ++ (bytes_of_position head.top_right ++ bytes_of_position head.top_left))))

-- the edits that a file of this length has room for
abbrev pub edit_count : List ℕ → ℕ
edit_count = item_count edits_at edit_bytes

abbrev pub edits_of : List ℕ → List Edit
edits_of bytes = edits_from (edit_count bytes) bytes edits_at

-- the length of a file of so many edits
abbrev pub file_length : ℕ → ℕ
file_length count = edits_at + count * edit_bytes

-- what stands before so many edits: the count of the bytes that follow it, and the head
unfoldable pub front_of : ℕ → Head → List ℕ
front_of count head = bytes_of count_bytes (file_length count - count_bytes) ++ bytes_of_head head

-- the file of a head and edits
unfoldable pub file_of : Head → List Edit → List ℕ
file_of head edits = front_of (length edits) head ++ bytes_of_edits edits

-- ---- which files are refused
-- the count is that of the bytes that follow it, and these are the head and 0 to 1,000 whole edits
abbrev pub length_right : List ℕ → Bool
length_right = counted_right edits_at edit_bytes most_edits

-- every direction is one
unfoldable pub headings_right : ℕ → List ℕ → ℕ → Bool
headings_right zero bytes at = true
headings_right (suc count) bytes at = ltb (byte_at bytes (at + direction_in)) 4 && headings_right count bytes (at + edit_bytes)

-- 12, 13, 14 in order; else the count of edits
unfoldable pub checked_file : List ℕ → Result ℕ Refusal
checked_file bytes =
    cond (length_right bytes)
    (cond (is_version (version_of bytes))
    (cond (headings_right (edit_count bytes) bytes edits_at) (Ok (edit_count bytes)) (Err Heading))
    (Err Version))
    (Err Length)

-- the table of what takes a file: 12, 13, 14, and where it is valid what is told then
abbrev pub where_valid : List ℕ → Told → Told
where_valid bytes next =
    unless 12 (length_right bytes)
    (unless 13 (is_version (version_of bytes))
    (unless 14 (headings_right (edit_count bytes) bytes edits_at)
    next))

-- the table of a file: the count of its edits
abbrev pub file_table : List ℕ → Told
file_table bytes = where_valid bytes (tells (natural (edit_count bytes) ∷ []))
