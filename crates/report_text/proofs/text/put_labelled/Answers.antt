-- `put_labelled` meets its contract: the number is put behind the word.
use Rattle.report_text.proofs.PutLaws.{put_then}
use Rattle.report_text.proofs.text.put_labelled.Goals as goal

pub returns : goal.returns
returns c =
    put_then c.put_text-end.ensures c.put_number.ensures
