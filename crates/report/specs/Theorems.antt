-- Theorems on reports: statements only.
use Rattle.std.specs.Prelude.{ℕ, ◌≤◌, true, List, ◌≡◌, length}
use Rattle.control_point.specs.Point.{is_made}
use Rattle.control_point.specs.declared.t_mesh_direction.TmeshDirection.{TmeshDirection}
use Rattle.store.specs.Store.{store_sides}
use Rattle.t_mesh.specs.Tmesh.{store_of}
use Rattle.t_mesh.specs.declared.t_mesh.Tmesh.{Tmesh}
use Rattle.openings.specs.Openings.{openings_of}
use Rattle.report_text.specs.Put.{most_bytes}
use Rattle.report_lines.specs.Lines.{open_lines}
use Rattle.report.specs.Report.{report_of}

-- No file's report is longer than 32,768 bytes: a buffer of that length has room for each.
abbrev pub ReportFits : Type 0
ReportFits = (file : List ℕ) → length (report_of file) ≤ most_bytes

-- Two maps with equally many points made, whose made points have equal sides, have the same lines of openings.
abbrev pub SameOpenLines : Type 0
SameOpenLines =
    (map other : Tmesh)
    → (store_of map).made ≡ (store_of other).made
    → ((n : ℕ) (d : TmeshDirection) → is_made (store_of map).made n ≡ true → store_sides (store_of map) n d ≡ store_sides (store_of other) n d)
    → open_lines (openings_of (store_of map)) ≡ open_lines (openings_of (store_of other))
