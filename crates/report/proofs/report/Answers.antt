-- `report` meets its contract: what is put is the report by the file's check, and every report fits.
use mathlib.Core.Path.{sym}
use Rattle.map_format.proofs.FormatLaws.{valid_tells}
use Rattle.report.proofs.ReportLaws.{checked_fits, reported}
use Rattle.report.proofs.report.Goals as goal

pub put_file_refused-requires : goal.put_file_refused-requires
put_file_refused-requires c =
    checked_fits c.args.file.now _ (sym c.in-Err.ensures.is)

pub put_valid-requires : goal.put_valid-requires
put_valid-requires c =
    let valid = sym c.in-Ok.ensures.is in record { few = (valid_tells c.args.file.now _ valid).1; fits = checked_fits c.args.file.now _ valid }

pub returns-in-Err : goal.returns-in-Err
returns-in-Err c =
    reported c.args.file.now _ (sym c.in-Err.ensures.is) c.put_file_refused.ensures

pub returns-in-Ok : goal.returns-in-Ok
returns-in-Ok c =
    reported c.args.file.now _ (sym c.in-Ok.ensures.is) c.put_valid.ensures
