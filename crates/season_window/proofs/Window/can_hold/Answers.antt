-- `can_hold` meets its contract: what it computes is `decided`.
use Rattle.std.proofs.Common.{arith}
use Rattle.std.proofs.lemmas.Bool.Decides.{nat_tests}
use Rattle.season_window.proofs.DecisionLaws.{decided_right}
use Rattle.season_window.proofs.Window.can_hold.Goals as goal

pub returns-then-self-last : goal.returns-then-self-last
returns-then-self-last c = let right = decided_right c.args.self (omega arith) in grind (arith, nat_tests)

pub returns-else-self-last : goal.returns-else-self-last
returns-else-self-last c = let right = decided_right c.args.self (omega arith) in grind (arith, nat_tests)
