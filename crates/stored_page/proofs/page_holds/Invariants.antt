-- `page_holds` meets its contract: the loop has compared the first n bytes.
use Prim.Native.Nat.{◌-◌}
use mathlib.Core.Path.{◌≡◌}
use Rattle.stored_page.specs.Page.{holds_to}
use Rattle.stored_page.proofs.page_holds.Given as goal

abbrev pub invariant-loop-n : goal.invariant-loop-n
invariant-loop-n l = l.right ≡ holds_to l.n l.page l.held
