-- `write_value` meets its contract: four floats written one behind the other are the value's bytes written at once.
use mathlib.Core.Path.{◌∙◌}
use Rattle.value_bytes.proofs.Laws.{written_value}
use Rattle.value_bytes.proofs.write_value.Goals as goal

pub returns : goal.returns
returns c = c.put_float-4.ensures ∙ rw (c.put_float-3.ensures, c.put_float-2.ensures, c.put_float.ensures) (written_value _ _)
