-- `may_connect` meets its contract: each answer picks its case of `may_connect` by the tests that led there.
use mathlib.Core.Path.{◌∙◌, sym}
use borrow.Author.Tests.{eq-eqb, ne_eqb}
use Rattle.connection.specs.Connect.{may_connect}
use Rattle.connection.proofs.connect.may_connect.Goals as goal

pub returns-then-first-other : goal.returns-then-first-other
unfolding may_connect
returns-then-first-other c = simp (eq-eqb _ _ c.if-first-other.true)

pub returns-then-not-facing_openings : goal.returns-then-not-facing_openings
unfolding may_connect
returns-then-not-facing_openings c = simp (ne_eqb _ _ c.if-first-other.false, sym c.facing_openings.ensures ∙ c.if-not-facing_openings.true)

pub returns : goal.returns
unfolding may_connect
returns c = simp (ne_eqb _ _ c.if-first-other.false, sym c.facing_openings.ensures ∙ c.if-not-facing_openings.false)
