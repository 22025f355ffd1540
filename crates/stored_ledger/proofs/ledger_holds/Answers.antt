-- `ledger_holds` meets its contract: the counts are those of the map, and the openings are as many as are listed.
use mathlib.Core.Path.{refl}
use Rattle.openings.specs.Openings.{openings_of}
use Rattle.openings.proofs.OpeningsLaws.{answer_count}
use Rattle.stored_ledger.proofs.ledger_holds.Goals as goal

pub returns : goal.returns
returns c = rw (c.ledger_is_right.ensures, c.counts.ensures, c.openings-list.ensures, c.store_of.ensures, answer_count (openings_of _)) refl
