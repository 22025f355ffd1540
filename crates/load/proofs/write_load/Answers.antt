-- `write_load` meets its contract: the tests are made in the order of the definition, and the front and the edits behind it are the file.
use mathlib.Core.Path.{◌∙◌}
use Rattle.load.proofs.LoadLaws.{no_seed, too_many, too_short, in_full}
use Rattle.load.proofs.write_load.Goals as goal

pub returns-then-seed-eq0 : goal.returns-then-seed-eq0
returns-then-seed-eq0 c =
    let all = (let a = c.args in no_seed a.seed a.edits a.out.now c.if-seed-eq0.true) in record { is = all.0; buffer = all.1.0; told = all.1.1 }

pub returns-then-count-gt-MOST_EDITS : goal.returns-then-count-gt-MOST_EDITS
returns-then-count-gt-MOST_EDITS c =
    let all = (let a = c.args in too_many a.seed a.edits a.out.now c.if-seed-eq0.false c.if-count-gt-MOST_EDITS.true) in record { is = all.0; buffer = all.1.0; told = all.1.1 }

pub returns-then-out-bytes : goal.returns-then-out-bytes
returns-then-out-bytes c =
    let all = (let a = c.args in
    too_short a.seed a.edits a.out.now c.if-seed-eq0.false c.if-count-gt-MOST_EDITS.false c.file_length-bytes.result c.file_length-bytes.ensures c.if-out-bytes.true) in record { is = all.0; buffer = all.1.0; told = all.1.1 }

pub returns : goal.returns
returns c =
    let a = c.args in
    let done = in_full a.seed a.edits a.out.now c.if-seed-eq0.false c.if-count-gt-MOST_EDITS.false c.file_length-bytes.result c.file_length-bytes.ensures c.if-out-bytes.false in
    record {
      is = done.0;
      buffer = c.put_edits.ensures ∙ rw (c.put_front.ensures, c.load_head.ensures) done.1.0;
      told = done.1.1;
    }
