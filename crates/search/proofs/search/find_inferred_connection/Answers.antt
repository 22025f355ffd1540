-- what an answer tells, by what it is
use Rattle.std.proofs.Common.{◌≡◌, ◌∙◌, ℕ, ap, rules}
use lib.Ieee.{Float}
use Rattle.control_point.specs.Sides.{Sides, lent_sides}
use Rattle.control_point.specs.declared.t_mesh_direction.TmeshDirection.{TmeshDirection}
use Rattle.search.specs.Search.{found_told, find_inferred_connection}
use Rattle.search.specs.Table.{search_table}
use Rattle.search.proofs.TableLaws.{search_told}
use Rattle.search.proofs.search.find_inferred_connection.Goals as goal
use Rattle.std.specs.Prelude.{Option, Result}
use Rattle.control_point.specs.declared.refusal.Refusal.{Refusal}
use Rattle.control_point.specs.declared.t_mesh_control_point.LinkEnd.{LinkEnd}

told_of : (e : Float) (sides : Sides) (made p : ℕ) (f : TmeshDirection) (r : Result (Option LinkEnd) Refusal) → r ≡ find_inferred_connection e sides made p f → found_told r ≡ search_table e sides made p f
told_of e sides made p f r is = ap found_told is ∙ search_told e sides made p f

pub returns-in_err-corner-clause-told : goal.returns-in_err-corner-clause-told
unfolding find_inferred_connection
returns-in_err-corner-clause-told c = told_of c.args.closeness (lent_sides c.args.sides.now) c.args.made c.args.p c.args.f c.from_residual.result (search rules)

pub returns-in_err-start-clause-told : goal.returns-in_err-start-clause-told
unfolding find_inferred_connection
returns-in_err-start-clause-told c = told_of c.args.closeness (lent_sides c.args.sides.now) c.args.made c.args.p c.args.f c.from_residual-in_err-start.result (search rules)

pub returns-clause-told : goal.returns-clause-told
unfolding find_inferred_connection
returns-clause-told c = told_of c.args.closeness (lent_sides c.args.sides.now) c.args.made c.args.p c.args.f c.seek.result (search rules)
