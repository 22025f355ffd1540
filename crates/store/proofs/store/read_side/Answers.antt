-- `read_side` meets its contract: the side of the point read is the side at that number.
use mathlib.Core.Path.{◌≡◌, refl, ◌∙◌, sym, ap}
use mathlib.Core.Bool.{Bool, true, false}
use Prim.Native.Nat.{ℕ}
use Rattle.std.specs.Prelude.{cond, Result, Ok, Err}
use Rattle.control_point.specs.Point.{side_of, is_made}
use Rattle.control_point.proofs.PointLaws.{is_made_room}
use Rattle.control_point.specs.Told.{side_told}
use Rattle.control_point.proofs.ToldLaws.{beside}
use Rattle.control_point.specs.declared.refusal.Refusal.{Refusal}
use Rattle.control_point.specs.declared.refusal.Refusal.TheVariants.{NoPoint}
use Rattle.control_point.specs.declared.t_mesh_control_point.Side.{Side}
use Rattle.control_point.specs.declared.t_mesh_control_point.TmeshControlPoint.{TmeshControlPoint}
use Rattle.control_point.specs.declared.t_mesh_direction.TmeshDirection.{TmeshDirection}
use Rattle.store.specs.Store.{store_sides, store_point, read_point, read_side}
use Rattle.store.specs.declared.store.Store.{Store}
use Rattle.store.proofs.StoreLaws.{side_read}
use Rattle.store.proofs.TablesLaws.{side_told_lem}
use Rattle.store.proofs.store.read_side.Goals as goal

-- of a point that was read
abbrev side_over : TmeshDirection → Result TmeshControlPoint Refusal → Result Side Refusal
side_over d (Ok point) = Ok (side_of point d)
side_over d (Err refusal) = Err refusal

side_of_read : (store : Store) (n : ℕ) (d : TmeshDirection) (point : TmeshControlPoint) → Ok point ≡ read_point store n → Ok (side_of point d) ≡ read_side store n d
side_of_read store n d point read = by_test (is_made store.made n) refl read
  where
    by_test : (b : Bool) → is_made store.made n ≡ b → Ok point ≡ cond b (Ok (store_point store n)) (Err NoPoint) → Ok (side_of point d) ≡ cond b (Ok (store_sides store n d)) (Err NoPoint)
    by_test true made is = ap (side_over d) is ∙ ap Ok (sym (side_read store n d (is_made_room _ _ made)))
    by_test false made is = ap (side_over d) is

pub returns : goal.returns
returns c =
    let a = c.args in
    let all = beside side_told _ _ (side_told_lem a.store a.n a.direction) _ (ap Ok c.side_of.ensures ∙ side_of_read a.store a.n a.direction c.in_ok-point.point c.in_ok-point.ensures.is) in
    record { is = all.0; told = all.1 }
