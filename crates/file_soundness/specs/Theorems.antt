-- Theorems on map files, seasons and loads: statements only, with what they speak of. A file is any list of bytes. What the program prints of it is `report_of`, and what a C host
-- gets is `host_number` and `host_buffer`, of a cell `host_cell_number` and `host_cell_buffer`, of a season `host_season_number` and `host_season_buffer`, and of a load `host_load_number` and `load_buffer`: the definitions that the
-- contracts of the code cite.
use Rattle.std.specs.Prelude.{ℕ, ◌+◌, ◌*◌, ◌^◌, ◌<◌, ◌≤◌, ◌≡◌, Bool, true, false, cond, not, ◌&&◌, List, [], ◌∷◌, ◌++◌, ◌⊎◌, T, eqb, leb, Float, length, take, drop, Err, Ok, Result}
use Rattle.std.specs.Float.{binary64}
use Rattle.std.specs.Float.Ieee.{of_bits, le}
use Rattle.float64.specs.Sign.{0f}
use Rattle.big_endian.specs.BigEndian.{byte_at, number_at, float_at}
use Rattle.control_point.specs.Refusal.{refusal_number}
use Rattle.control_point.specs.Small.{millionth}
use Rattle.control_point.specs.declared.refusal.Refusal.{Refusal}
use Rattle.insertion.specs.Insert.{is_torn}
use Rattle.t_mesh.specs.Tmesh.{Axis, X, Y, Z, coordinate, store_of}
use Rattle.t_mesh.specs.declared.t_mesh.Tmesh.{Tmesh}
use Rattle.surface.specs.SetPoint.{on_map}
use Rattle.census.specs.Census.{counts_of}
use Rattle.calls.specs.FullStroke.{InUnit, InUnitAt}
use Rattle.soundness.specs.Theorems.{OneOf}
use Rattle.ledger.specs.Ledger.{entered, counts_by, openings_by}
use Rattle.ledger.specs.Theorem.{HasLedger}
use Rattle.map_format.specs.Format.{border_at, edits_at, file_withdraws, edit_count, Edit, edits_from, checked_file}
use Rattle.map_file.specs.Run.{corner_of, edited, after_edits, edit_answers, file_map, file_answers, file_numbers}
use Rattle.report_text.specs.Text.{file_word, newline, refused_text}
use Rattle.openings.specs.Openings.{openings_of}
use Rattle.report_lines.specs.Lines.{edit_lines, counts_line, open_lines, mid_line}
use Rattle.report.specs.Report.{report_of}
use Rattle.gatemap_host.specs.SetPoint.{host_answer, host_number, host_buffer}
use Rattle.gatemap_host.specs.CellCall.{host_cell_number, host_cell_buffer}
use Rattle.gatemap_host.specs.SeasonCall.{host_season_number, host_season_buffer}
use Rattle.gatemap_host.specs.LoadCall.{host_load_number}
use Rattle.load.specs.Load.{load_file, load_buffer}
use Rattle.season.specs.Season.{window_of, window_count}
use Rattle.season_window.specs.Theorems.{Holds}
use Rattle.grid_index.specs.CellTheorem.{Says}
use Rattle.grid_index.specs.declared.Cell.{Cell}
use Rattle.knot_vectors.specs.Knots.{generate_knot_vectors}
use Rattle.insertion.specs.declared.insertion.Insertion.{Insertion}

-- ---- one definition at both ends
-- the bits of 0.5
abbrev pub half_bits : ℕ
half_bits = 0x3fe0_0000_0000_0000

-- What the program prints of a valid file is a line for each refused edit, the counts, a line for each opening, and the line `mid` of what the C call for a
-- set-point answers at (0.5, 0.5), in any buffer that has room.
abbrev pub EndsAgree : Type 0
EndsAgree =
    (file : List ℕ) (count room : ℕ)
    → checked_file file ≡ Ok count
    → 32 ≤ room
    → report_of file
    ≡ edit_lines 1 (file_numbers millionth file count)
    ++ (counts_line (counts_of (file_map millionth file count))
    ++ (open_lines (openings_of (store_of (file_map millionth file count))) ++ mid_line (host_answer file half_bits half_bits room)))

-- Of a refused file the program prints `file refused N`, and the C call for a set-point returns that N at every place and leaves the buffer as it was, where it
-- has room.
abbrev pub EndsRefuse : Type 0
EndsRefuse =
    (file : List ℕ) (refusal : Refusal)
    → checked_file file ≡ Err refusal
    → (report_of file ≡ file_word ++ (refused_text (refusal_number refusal) ++ newline))
    × ((s t : ℕ) (out : List ℕ) → 32 ≤ length out → (host_number file s t out ≡ refusal_number refusal) × (host_buffer file s t out ≡ out))

-- ---- the numbers
-- Whatever it is given, the C call for a set-point returns 0 or one of the refusals 3, 4, 9, 12 to 16 and 20.
abbrev pub NumbersNamed : Type 0
NumbersNamed =
    (file : List ℕ) (s t : ℕ) (out : List ℕ) → OneOf (host_number file s t out) (0 ∷ (3 ∷ (4 ∷ (9 ∷ (12 ∷ (13 ∷ (14 ∷ (15 ∷ (16 ∷ (20 ∷ []))))))))))

-- whether a file is not refused
abbrev pub is_valid : Result ℕ Refusal → Bool
is_valid (Ok count) = true
is_valid (Err refusal) = false

-- Whatever it is given, it returns 20 exactly where the buffer has room, the file is not refused, and s or t does not lie from 0 to 1; and the buffer is then as it was.
abbrev pub OffMapRefused : Type 0
OffMapRefused =
    (file : List ℕ) (s t : ℕ) (out : List ℕ)
    → (eqb (host_number file s t out) 20 ≡ (leb 32 (length out) && (is_valid (checked_file file) && not (on_map (of_bits binary64 s) (of_bits binary64 t)))))
    × (host_number file s t out ≡ 20 → host_buffer file s t out ≡ out)

-- Whatever it is given, the C call for a cell returns 0 or one of the refusals 3, 4, 9, 12, 13, 14 and 16.
abbrev pub CellNumbersNamed : Type 0
CellNumbersNamed = (file : List ℕ) (cell : ℕ) (out : List ℕ) → OneOf (host_cell_number file cell out) (0 ∷ (3 ∷ (4 ∷ (9 ∷ (12 ∷ (13 ∷ (14 ∷ (16 ∷ []))))))))

-- Whatever it is given, the C call for a season returns 0 or one of the refusals 12, 13, 16, 18 and 19.
abbrev pub SeasonNumbersNamed : Type 0
SeasonNumbersNamed = (season : List ℕ) (minute : ℕ) (out : List ℕ) → OneOf (host_season_number season minute out) (0 ∷ (12 ∷ (13 ∷ (16 ∷ (18 ∷ (19 ∷ []))))))

-- ---- NEVER PAST FULL STROKE, for files
-- where a position's float on an axis stands in the buffer
abbrev pub place_of : Axis → ℕ
place_of X = 0
place_of Y = 8
place_of Z = 16

-- the position of each edit that is answered 0, done, lies in 0 to 1 on an axis
abbrev pub DoneInUnit : Axis → List Edit → List ℕ → Type 0
DoneInUnit axis [] numbers = Unit {0}
DoneInUnit axis (edit ∷ rest) [] = Unit {0}
DoneInUnit axis (edit ∷ rest) (number ∷ numbers) = (number ≡ 0 → InUnit (coordinate axis edit.position)) × DoneInUnit axis rest numbers

-- Take any file, any s and t, any buffer and any axis. If the border weight is ≥ 0, the four corners lie in 0 to 1 on the axis, and so does the position of
-- each edit that is done, then, where the C call for a set-point answers 0, the float that it wrote for the axis lies in 0 to 1, both ends included; and so do s and t: off the map it does not answer 0.
abbrev pub FileNeverPastFullStroke : Type 0
FileNeverPastFullStroke =
    (file : List ℕ) (s t : ℕ) (out : List ℕ) (axis : Axis)
    → T (le 0f (float_at file border_at))
    → ((k : ℕ) → k < 4 → InUnit (coordinate axis (corner_of file k)))
    → DoneInUnit axis (edits_from (edit_count file) file edits_at) (file_numbers millionth file (edit_count file))
    → host_number file s t out ≡ 0
    → InUnitAt (of_bits binary64 s) (of_bits binary64 t) (float_at (host_buffer file s t out) (place_of axis))

-- ---- WHICH POINTS REACH A CELL, for files
-- the words of a cell and their count, as they stand in a buffer
abbrev pub cell_in : List ℕ → Cell
cell_in bytes = record { first = number_at 8 bytes 0; second = number_at 8 bytes 8; count = number_at 1 bytes 16 }

-- the map that a file's edits leave
abbrev pub map_of : List ℕ → Tmesh
map_of file = file_map millionth file (edit_count file)

-- Take any file, any cell's byte and any buffer. Where the C call for a cell answers 0, the words and the count that it wrote say which points reach the
-- cell, by the listing of the map that the file's edits leave and by the knots built of it.
abbrev pub FileCellSays : Type 0
FileCellSays =
    (file : List ℕ) (cell : ℕ) (out : List ℕ)
    → cell < 256
    → host_cell_number file cell out ≡ 0
    → Says (map_of file).mesh.listed (generate_knot_vectors millionth (map_of file)).map.knots cell (cell_in (host_cell_buffer file cell out))

-- ---- THE MAP OF A SEASON
-- a window that holds at the minute has that map number, and no other window holds there
abbrev pub SaysMap : List ℕ → ℕ → ℕ → Type 0
SaysMap season minute map =
    (i : ℕ)
    × (i < window_count season)
    × Holds (window_of season i) minute
    × (map ≡ (window_of season i).map)
    × ((j : ℕ) → j < window_count season → Holds (window_of season j) minute → j ≡ i)

-- Take any season, any minute and any buffer. Where the C call for a season answers 0, the byte that it wrote is the map number of the one window that holds at the minute.
abbrev pub SeasonByteSays : Type 0
SeasonByteSays =
    (season : List ℕ) (minute : ℕ) (out : List ℕ)
    → minute < 2 ^ 32
    → host_season_number season minute out ≡ 0
    → SaysMap season minute (byte_at (host_season_buffer season minute out) 0)

-- ---- LOADS
-- what the C call for a load leaves of a buffer, with a number that is a length: the file in so many first bytes, and the rest as it was
abbrev pub Loaded : ℕ → ℕ → List ℕ → ℕ → Type 0
Loaded seed count out number =
    (count ≤ 1000)
    × (number ≡ 109 + count * 34)
    × (take number (load_buffer seed count out) ≡ load_file seed count)
    × (drop number (load_buffer seed count out) ≡ drop number out)

-- Whatever it is given, the C call for a load returns one of the refusals 16, 21 and 22 and leaves the buffer as it was, or it returns the length of the file, at least 109, and has written it.
abbrev pub LoadNumbersNamed : Type 0
LoadNumbersNamed =
    (seed count : ℕ) (out : List ℕ)
    → let number = host_load_number seed count out in
    (OneOf number (16 ∷ (21 ∷ (22 ∷ []))) × (load_buffer seed count out ≡ out)) ⊎ Loaded seed count out number

-- of a file: at any s and t, in any buffer and on every axis, where the C call for a set-point answers 0, the float that it wrote for the axis lies in 0 to 1, both ends included, and so do s and t
abbrev pub SetPointsInUnit : List ℕ → Type 0
SetPointsInUnit file =
    (s t : ℕ) (out : List ℕ) (axis : Axis)
    → host_number file s t out ≡ 0
    → InUnitAt (of_bits binary64 s) (of_bits binary64 t) (float_at (host_buffer file s t out) (place_of axis))

-- Every set-point of every load, of whatever seed and up to 1,000 edits, lies in 0 to 1.
abbrev pub LoadNeverPastFullStroke : Type 0
LoadNeverPastFullStroke = (seed count : ℕ) → count ≤ 1000 → SetPointsInUnit (load_file seed count)

-- The same from call to call. Take any seed, any count of edits and any buffer, where the C call for a load has answered a length; and for a file as many bytes from the buffer's front. That file is none of 12, 13 and 14, and
-- every set-point of it lies in 0 to 1.
abbrev pub LoadedNeverPastFullStroke : Type 0
LoadedNeverPastFullStroke =
    (seed count : ℕ) (buffer : List ℕ)
    → 109 ≤ host_load_number seed count buffer
    → let file = take (host_load_number seed count buffer) (load_buffer seed count buffer) in
    (checked_file file ≡ Ok count) × SetPointsInUnit file

-- ---- THE LEDGER OF SIDES, for files
-- the answers of a file's edits that are entered in the ledger: those of withdrawn edits are left out, and where torn edits stay none is (`all_entered`)
abbrev pub file_entered : Float → List ℕ → ℕ → List (Result Insertion Refusal)
file_entered e file count = entered (file_withdraws file) (file_answers e file count)

-- The map that the edits of a file leave has the points, links, borders and openings that the answers of its edits give, no withdrawn one among them, and each link
-- has its mirror, with the same interval bits.
abbrev pub FileLedger : Type 0
FileLedger = (e : Float) (file : List ℕ) (count : ℕ) → HasLedger (file_map e file count) (file_entered e file count)

-- What the program prints of a valid file is, but for which sides are open and for the line `mid`, what the answers of its edits give: a line for each that is refused
-- or torn, withdrawn or not; and, by those that are not withdrawn, the counts and as many lines of openings.
abbrev pub ReportByAnswers : Type 0
ReportByAnswers =
    (file : List ℕ) (count room : ℕ)
    → checked_file file ≡ Ok count
    → 32 ≤ room
    → let answers = file_entered millionth file count in
    let openings = openings_of (store_of (file_map millionth file count)) in
    (report_of file ≡ edit_lines 1 (file_numbers millionth file count) ++ (counts_line (counts_by answers) ++ (open_lines openings ++ mid_line (host_answer file half_bits half_bits room))))
    × (length openings ≡ openings_by answers)

-- ---- WITHDRAWN EDITS LEAVE NO TRACE
-- the edits of a list that are not torn, each judged on the map as the run of the list by the rule that withdraws torn ones has it
unfoldable pub untorn : Float → Tmesh → List Edit → List Edit
untorn e before [] = []
untorn e before (edit ∷ rest) =
    cond (is_torn (edited true e before edit).answer) (untorn e before rest) (edit ∷ untorn e (edited true e before edit).map rest)

-- Where torn edits are withdrawn, a list of edits leaves the map that its edits that are not torn leave by themselves, by either rule, and these answer the same by
-- themselves.
abbrev pub WithdrawnLeaveNoTrace : Type 0
WithdrawnLeaveNoTrace =
    (withdraws : Bool) (e : Float) (before : Tmesh) (edits : List Edit)
    → (after_edits true e before edits ≡ after_edits withdraws e before (untorn e before edits))
    × (entered true (edit_answers true e before edits) ≡ edit_answers withdraws e before (untorn e before edits))

-- A file whose torn edits are withdrawn leaves as many points listed as made.
abbrev pub AsManyListedAsMade : Type 0
AsManyListedAsMade =
    (e : Float) (file : List ℕ) (count : ℕ) → file_withdraws file ≡ true → (counts_of (file_map e file count)).made ≡ (counts_of (file_map e file count)).listed
