-- Laws of rays: their next entry, that they read the sides of made points alone, and the entries that stand in a buffer in front of those to come.
use Prim.Native.Nat.{ℕ, zero, suc, ◌+◌, ◌<◌}
use Rattle.std.specs.Prelude.{◌≡◌, true, false, List, [], ◌++◌, Float, length, take, set, replicate, Err, Ok, Result}
use Rattle.std.proofs.Math.Path.{refl, ap}
use Rattle.std.proofs.Common.{sym, add-one, take-suc-set}
use Rattle.std.proofs.Math.Bool.{cond}
use Rattle.std.proofs.Math.Seq.{append_snoc}
use Rattle.control_point.specs.Point.{is_made}
use Rattle.control_point.specs.Sides.{Sides}
use Rattle.control_point.proofs.SidesLaws.{Agree}
use Rattle.control_point.specs.declared.refusal.Refusal.{Refusal}
use Rattle.control_point.specs.declared.refusal.Refusal.TheVariants.{NoPoint}
use Rattle.control_point.specs.declared.t_mesh_direction.TmeshDirection.{TmeshDirection}
use Rattle.float64.specs.Literals.{zero_literal}
use Rattle.ray_entry.specs.Entry.{on_ray, entry_of}
use Rattle.ray_entry.proofs.EntryLaws.{FrontMade, entry_agrees}
use Rattle.ray.specs.Ray.{Ray, entries, refused, before, after_entry, ray_from, ray_of, cast_of}
use Rattle.ray_entry.specs.declared.entry.Front.{Front}
use Rattle.ray_entry.specs.declared.entry.Entry.{Entry}

module _ (e : Float) (sides : Sides) (made : ℕ) (d : TmeshDirection) where
  pub ray_end : (n : ℕ) (front : Front) → n ≡ 0 → ray_from e sides made d n front ≡ entries []
  unfolding ray_from
  ray_end n front h = simp h

  pub ray_step : (n more : ℕ) (front : Front) → n ≡ suc more
      → ray_from e sides made d n front ≡ after_entry (entry_of e sides made d front) (λ next. ray_from e sides made d more next)
  unfolding ray_from
  ray_step n more front h = simp h

  pub ray_unmade : (start n : ℕ) → is_made made start ≡ false → ray_of e sides made start d n ≡ refused NoPoint
  unfolding ray_of
  ray_unmade start n h = simp h

  pub ray_made : (start n : ℕ) → is_made made start ≡ true → ray_of e sides made start d n ≡ ray_from e sides made d n (on_ray start false)
  unfolding ray_of
  ray_made start n h = simp h

-- over sides that agree on all made numbers
module _ (e : Float) (made : ℕ) (sides others : Sides) (agree : Agree made sides others) (d : TmeshDirection) where
  from_agrees : (left : ℕ) (front : Front) → FrontMade made front → ray_from e sides made d left front ≡ ray_from e others made d left front
  unfolding ray_from
  from_agrees zero front m = refl
  from_agrees (suc left) front m =
      entry_agrees e made sides others agree d
      (λ (entry : Result Entry Refusal). after_entry entry (λ next. ray_from e sides made d left next))
      (λ (entry : Result Entry Refusal). after_entry entry (λ next. ray_from e others made d left next))
      (λ value next k. ap (before value) (from_agrees left next k)) (λ refusal. refl) front m

  pub ray_agrees : (start n : ℕ) → ray_of e sides made start d n ≡ ray_of e others made start d n
  unfolding ray_of
  ray_agrees start n = ap (λ (ray : Ray). cond (is_made made start) ray (refused NoPoint)) (from_agrees n (on_ray start false) tt)

-- what a cast is, by its ray
module _ (ray : Ray) (n : ℕ) (buffer : List Float) where
  pub cast_refused : (refusal : Refusal) → ray ≡ refused refusal → buffer ≡ replicate n zero_literal → (Err refusal, buffer) ≡ cast_of ray n
  cast_refused refusal h k = rw (h, k)

  pub cast_done : ray ≡ entries buffer → ((Ok tt), buffer) ≡ cast_of ray n
  cast_done h = rw h

-- entries in front of a ray's
abbrev pub behind : List Float → Ray → Ray
behind values (entries more) = entries (values ++ more)
behind values (refused refusal) = refused refusal

pub behind_none : (ray : Ray) → behind [] ray ≡ ray
behind_none (entries values) = refl
behind_none (refused refusal) = refl

-- the next entry, stored behind those that stand
pub behind_put : (buffer : List Float) (i : ℕ) (value : Float) (ray : Ray) → i < length buffer
    → behind (take i buffer) (before value ray) ≡ behind (take (i + 1) (set buffer i value)) ray
behind_put buffer i value (entries more) h = ap entries (rw (add-one, take-suc-set buffer i value) (sym (append_snoc (take i buffer) value more)))
behind_put buffer i value (refused refusal) h = refl
