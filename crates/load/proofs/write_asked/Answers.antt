-- `write_asked` meets its contract: the input's length is tested first, and its seed and count are handed on.
use Rattle.load.proofs.LoadLaws.{asked_wrongly, asked_rightly_lem}
use Rattle.load.proofs.write_asked.Goals as goal

pub returns-then-input-ne-ASKED_BYTES : goal.returns-then-input-ne-ASKED_BYTES
returns-then-input-ne-ASKED_BYTES c =
    let all = (let a = c.args in asked_wrongly a.input.now a.out.now c.if-input-ne-ASKED_BYTES.true) in record { is = all.0; buffer = all.1.0; told = all.1.1 }

pub returns : goal.returns
returns c =
    let all = (let a = c.args in
    asked_rightly_lem a.input.now a.out.now c.if-input-ne-ASKED_BYTES.false _ _ c.number_at.ensures c.pair_at.ensures.value _ _
    c.write_load.ensures.is
    c.write_load.ensures.buffer) in record { is = all.0; buffer = all.1.0; told = all.1.1 }
