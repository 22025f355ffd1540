-- `cast` meets its contract: the entries that stand, and the rest of the ray behind them, are the whole ray at each turn of the loop.
use Prim.Native.Nat.{ℕ, ◌-◌, ◌+◌, ◌<◌}
use mathlib.Core.List.{List, append-nil}
use mathlib.Core.Path.{◌≡◌, ◌∙◌, sym, ap, refl}
use native.Mathlib.Nat.{sub-zero}
use native.Mathlib.Omega.{arith}
use lib.Ieee.{Float}
use lib.ListN.{length, take, replicate, length-set}
use lib.Seq.{take_all}
use Rattle.control_point.specs.Sides.{Sides, lent_sides}
use Rattle.control_point.specs.declared.refusal.Refusal.TheVariants.{NoPoint}
use Rattle.control_point.specs.declared.t_mesh_direction.TmeshDirection.{TmeshDirection}
use Rattle.float64.specs.Literals.{zero_literal}
use Rattle.ray.specs.Ray.{entries, after_entry, ray_from, ray_of}
use Rattle.ray.proofs.RayLaws.{ray_end, ray_step, ray_unmade, ray_made, cast_refused, cast_done, behind, behind_none, behind_put}
use Rattle.ray_entry.specs.Entry.{entry_of}
use Rattle.ray_entry.specs.declared.entry.Front.{Front}
use Rattle.ray.proofs.ray.cast.Goals as goal
use Rattle.std.specs.Prelude.{Result}
use Rattle.control_point.specs.declared.refusal.Refusal.{Refusal}
use Rattle.ray_entry.specs.declared.entry.Entry.{Entry}

-- a turn of the loop, by the entry that it gets
entered : (e : Float) (sides : Sides) (made start : ℕ) (d : TmeshDirection) (n : ℕ) (buffer : List Float) (i : ℕ) (front : Front) (entry : Result Entry Refusal)
    → i < n
    → ray_of e sides made start d n ≡ behind (take i buffer) (ray_from e sides made d (n - i) front)
    → entry ≡ entry_of e sides made d front
    → ray_of e sides made start d n ≡ behind (take i buffer) (after_entry entry (λ next. ray_from e sides made d (n - (i + 1)) next))
entered e sides made start d n buffer i front entry h so_far is =
    so_far
    ∙ ap (behind (take i buffer))
    (ray_step e sides made d _ (n - (i + 1)) front (omega arith)
    ∙ ap (λ (x : Result Entry Refusal). after_entry x (λ next. ray_from e sides made d (n - (i + 1)) next)) (sym is))

pub returns-then-not-is_made : goal.returns-then-not-is_made
returns-then-not-is_made c =
    let a = c.args in
    cast_refused _ (length a.buffer.now) _ NoPoint
    (ray_unmade a.closeness (lent_sides a.sides.now) a.made a.direction a.start (length a.buffer.now)
    (sym c.is_made.ensures ∙ c.if-not-is_made.true))
    c.clear.ensures

pub loop-i-init : goal.loop-i-init
loop-i-init c =
    let a = c.args in (
      refl,
      ray_made a.closeness (lent_sides a.sides.now) a.made a.direction a.start (length a.buffer.now)
          (sym c.is_made.ensures ∙ c.if-not-is_made.false)
          ∙ rw (sub-zero, c.on_ray-front.ensures) (sym (behind_none _)),
    )

pub returns-in-Err : goal.returns-in-Err
returns-in-Err c =
    let a = c.args in
    let l = c.loop-i in
    cast_refused _ (length a.buffer.now) _ c.in-Err.refusal
    (entered a.closeness (lent_sides a.sides.now) a.made a.start a.direction (length a.buffer.now) l.buffer l.i l.front c.next_entry.result
    (omega arith) l.invariant.1 c.next_entry.ensures
    ∙ rw c.in-Err.is)
    (c.clear-in-Err.ensures ∙ ap (λ (m : ℕ). replicate m zero_literal) l.invariant.0)

pub loop-i-preserved : goal.loop-i-preserved
loop-i-preserved c =
    let a = c.args in
    let l = c.loop-i in
    let sides = lent_sides a.sides.now in (
      length-set l.buffer l.i c.in-Ok.entry.value ∙ l.invariant.0,
      entered a.closeness sides a.made a.start a.direction (length a.buffer.now) l.buffer l.i l.front c.next_entry.result
          (omega arith) l.invariant.1 c.next_entry.ensures
          ∙ rw c.in-Ok.is
          (behind_put l.buffer l.i c.in-Ok.entry.value (ray_from a.closeness sides a.made a.direction (length a.buffer.now - (l.i + 1)) c.in-Ok.entry.front) (omega arith)),
    )

pub returns : goal.returns
returns c =
    let a = c.args in
    let l = c.loop-i in
    cast_done _ _ l.buffer
    (l.invariant.1
    ∙ ap (behind (take l.i l.buffer)) (ray_end a.closeness (lent_sides a.sides.now) a.made a.direction _ l.front (omega arith))
    ∙ ap entries (append-nil _ ∙ take_all l.i l.buffer (omega arith)))
