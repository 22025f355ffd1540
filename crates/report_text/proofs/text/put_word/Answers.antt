-- `put_word` meets its contract: the word is put behind the space.
use Rattle.report_text.proofs.PutLaws.{put_then}
use Rattle.report_text.proofs.text.put_word.Goals as goal

pub returns : goal.returns
returns c = put_then c.put_text-end.ensures c.put_text.ensures
