-- `put_map_report` meets its contract: the counts, the openings and the set-point are those of the map, and are put one behind the other.
use Prim.Native.Nat.{ℕ}
use mathlib.Core.List.{List, ◌++◌}
use mathlib.Core.Path.{ap}
use Rattle.control_point.specs.Small.{millionth}
use Rattle.store.specs.declared.store.Store.{Store}
use Rattle.t_mesh.specs.Tmesh.{store_of}
use Rattle.t_mesh.specs.declared.t_mesh.Tmesh.{Tmesh}
use Rattle.census.specs.Census.{counts_of}
use Rattle.surface.specs.SetPoint.{set_point}
use Rattle.surface.specs.declared.evaluation.Evaluated.{Evaluated}
use Rattle.openings.specs.Openings.{openings_of}
use Rattle.report_lines.specs.Lines.{counts_line, open_lines, mid_line}
use Rattle.report.specs.Report.{half}
use Rattle.report_text.proofs.PutLaws.{put_then, put_as, fits_first, fits_as}
use Rattle.report.proofs.ReportLaws.{counted_few}
use Rattle.report.proofs.put_map_report.Goals as goal

module _ (map : Tmesh) where
  abbrev counts_text : List ℕ
  counts_text = counts_line (counts_of map)

  abbrev open_text : List ℕ
  open_text = open_lines (openings_of (store_of map))

  abbrev mid_text_lem : List ℕ
  mid_text_lem = mid_line (set_point millionth map half half).answer

pub put_counts_line-counted-requires : goal.put_counts_line-counted-requires
put_counts_line-counted-requires c =
    let map = c.args.map in
    let same = c.counts.ensures in
    record {
      few = counted_few map c.counts.result same;
      fits = fits_as c.args.at _ _ (ap counts_line same) (fits_first c.args.at (counts_text map) (open_text map ++ mid_text_lem map) c.requires);
    }

pub returns : goal.returns
returns c =
    put_then (put_as (ap counts_line c.counts.ensures) c.put_counts_line-counted.ensures)
    (put_then (put_as (ap (λ (store : Store). open_lines (openings_of store)) c.store_of.ensures) c.put_open_lines-opened.ensures)
    (put_as (ap (λ (mid : Evaluated). mid_line mid.answer) c.set_point-given.ensures.is) c.put_mid_line.ensures))
