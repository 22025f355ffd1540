-- `main` prints a report that ends within its buffer.
use Rattle.std.proofs.Common.{◌≡◌, ℕ, ◌≤◌, List, rules, arith, length, sym, length-take-le}
use Rattle.report.specs.Report.{report_of}
use Rattle.report.proofs.ReportFitsProof.{report_fits}
use Rattle.gatemap.proofs.main.Goals as goal

within : (end : ℕ) (file text : List ℕ) → end ≡ length (report_of file) → 32768 ≡ length text → end ≤ length text
within end file text is long = omega (arith, report_fits file)

pub slice_bounds-text-end : goal.slice_bounds-text-end
slice_bounds-text-end c = within _ _ c.report-end.new.out c.report-end.ensures.0 (search rules)

pub slice_bounds-write_all-end : goal.slice_bounds-write_all-end
slice_bounds-write_all-end c = sym (length-take-le _ c.report-end.new.out (within _ _ c.report-end.new.out c.report-end.ensures.0 (search rules)))
