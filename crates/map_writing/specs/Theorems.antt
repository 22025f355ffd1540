-- Theorems on writing a map file: statements only, with what they speak of.
use Rattle.std.specs.Prelude.{ℕ, ◌≤◌, ◌<◌, ◌≡◌, true, List, [], ◌∷◌, T, Float, length, Ok}
use Rattle.std.specs.Float.{binary64}
use Rattle.std.specs.Float.Ieee.{fits}
use Rattle.map_format.specs.Format.{most_edits, is_version, Edit, head_of, edits_of, file_of, checked_file}
use Rattle.map_format.specs.declared.format.Head.{Head}
use Rattle.t_mesh.specs.declared.t_mesh.Position.{Position}

-- ---- floats that are f64, and points that are bytes, as all are that code has
abbrev pub Fit : Float → Type 0
Fit x = T (fits binary64 x)

abbrev pub FitPosition : Position → Type 0
FitPosition p = Fit p.x × (Fit p.y × Fit p.z)

abbrev pub FitEdit : Edit → Type 0
FitEdit edit = (edit.point < 256) × (Fit edit.ratio × FitPosition edit.position)

abbrev pub FitEdits : List Edit → Type 0
FitEdits [] = Unit {0}
FitEdits (edit ∷ rest) = FitEdit edit × FitEdits rest

abbrev pub FitHead : Head → Type 0
FitHead head =
    Fit head.border × (FitPosition head.bottom_left × (FitPosition head.bottom_right × (FitPosition head.top_right × FitPosition head.top_left)))

-- ---- WHAT IS WRITTEN IS READ
-- of every byte of a list
abbrev pub AreBytes : List ℕ → Type 0
AreBytes [] = Unit {0}
AreBytes (byte ∷ rest) = (byte < 256) × AreBytes rest

-- Take any head of a version that there is, and any edits, up to 1,000, the floats of both f64 and the points bytes. Their file consists of bytes, is not refused and has as many edits; and its head and its
-- edits, as they are read, are those that it was made of.
abbrev pub WrittenIsRead : Type 0
WrittenIsRead =
    (head : Head) (edits : List Edit)
    → is_version head.version ≡ true
    → length edits ≤ most_edits
    → FitHead head
    → FitEdits edits
    → AreBytes (file_of head edits) × (checked_file (file_of head edits) ≡ Ok (length edits)) × (head_of (file_of head edits) ≡ head) × (edits_of (file_of head edits) ≡ edits)
