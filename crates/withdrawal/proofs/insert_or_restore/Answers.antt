-- `insert_or_restore` meets its contract: what is not torn is `insert_passed`'s, and the arrays that are copied back are those before it.
use mathlib.Core.Path.{◌∙◌, sym}
use mathlib.Core.Bool.{true}
use Rattle.insertion.proofs.WithdrawalLaws.{inserts_not_withdrawn, inserts_withdrawn}
use Rattle.withdrawal.proofs.insert_or_restore.Goals as goal

pub returns-then-is_torn : goal.returns-then-is_torn
returns-then-is_torn c = (
  c.requires.1,
  λ listed passes. inserts_withdrawn true _ _ _ _ _ _ _ _ _ (c.insert_passed-answer.ensures.1 listed passes) ((sym c.is_torn.ensures ∙ c.if-is_torn.true)),
)

pub returns-else-is_torn : goal.returns-else-is_torn
returns-else-is_torn c = (
  c.insert_passed-answer.ensures.0,
  λ listed passes. inserts_not_withdrawn true _ _ _ _ _ _ _ _ _ (c.insert_passed-answer.ensures.1 listed passes) ((sym c.is_torn.ensures ∙ c.if-is_torn.false)),
)
