-- `text_is_right` meets its contract: the page after the report is the page with the report in the buffer's place.
use Rattle.file_replay.proofs.JudgedLaws.{text_no_room, text_judged}
use Rattle.file_replay.proofs.judge.text_is_right.Goals as goal

pub returns-then-page-end : goal.returns-then-page-end
returns-then-page-end c = text_no_room _ _ _ _ c.if-page-end.true

pub returns : goal.returns
returns c =
    let args = c.args in
    cc (text_judged args.file.now args.text.now args.end args.page.now c.if-page-end.false)
