-- Laws of knots: they go by the entries of four rays, as code holds them, and so by the sides of made points alone.
use Rattle.std.specs.Prelude.{ℕ, ◌≡◌, refl, Float, Err, Ok, Result, ⊤}
use Rattle.control_point.specs.Sides.{Sides}
use Rattle.control_point.proofs.SidesLaws.{Agree}
use Rattle.control_point.specs.declared.t_mesh_direction.TmeshDirection.TheVariants.{Up, Right, Down, Left}
use Rattle.ray.specs.Ray.{Ray, entries, refused, ray_of, cast_of}
use Rattle.ray.proofs.RayLaws.{ray_agrees}
use Rattle.ray.specs.Knots.{no_knots, after_ray, knots_about, knots_at, held, two_entries, both_of, in_turn}
use Rattle.ray.specs.declared.knots.KnotsAnswer.{KnotsAnswer}
use Rattle.ray.specs.declared.knots.TwoEntries.{TwoEntries}
use Rattle.control_point.specs.declared.refusal.Refusal.{Refusal}

-- the answer, where the rays are done
abbrev pub where_done : Result ⊤ Refusal → KnotsAnswer → KnotsAnswer
where_done (Ok tt) answer = answer
where_done (Err refusal) answer = no_knots (Err refusal)

-- a point's knots by the entries of its four rays
abbrev knots_by : Float → Float → TwoEntries → TwoEntries → TwoEntries → TwoEntries → KnotsAnswer
knots_by s t up right down left =
    where_done (in_turn up.outcome (in_turn right.outcome (in_turn down.outcome left.outcome)))
    (knots_about s t (both_of up) (both_of right) (both_of down) (both_of left))

pub knots_by_lem : (e : Float) (sides : Sides) (made n : ℕ) (s t : Float)
    → knots_at e sides made n s t
    ≡ knots_by s t (two_entries e sides made n Up) (two_entries e sides made n Right) (two_entries e sides made n Down) (two_entries e sides made n Left)
unfolding knots_at two_entries
knots_by_lem e sides made n s t = by_rays (ray_of e sides made n Up 2) (ray_of e sides made n Right 2) (ray_of e sides made n Down 2) (ray_of e sides made n Left 2)
  where
    by_rays : (up right down left : Ray)
        → after_ray up (λ a. after_ray right (λ b. after_ray down (λ c. after_ray left (λ d. knots_about s t a b c d))))
        ≡ knots_by s t (held (cast_of up 2)) (held (cast_of right 2)) (held (cast_of down 2)) (held (cast_of left 2))
    by_rays (refused refusal) right down left = refl
    by_rays (entries a) (refused refusal) down left = refl
    by_rays (entries a) (entries b) (refused refusal) left = refl
    by_rays (entries a) (entries b) (entries c) (refused refusal) = refl
    by_rays (entries a) (entries b) (entries c) (entries d) = refl

-- over sides that agree on all made numbers
pub knots_agrees : (e : Float) (made : ℕ) (sides others : Sides) → Agree made sides others → (n : ℕ) (s t : Float) → knots_at e sides made n s t ≡ knots_at e others made n s t
unfolding knots_at
knots_agrees e made sides others agree n s t =
    rw (
      ray_agrees e made sides others agree Up n 2,
      ray_agrees e made sides others agree Right n 2,
      ray_agrees e made sides others agree Down n 2,
      ray_agrees e made sides others agree Left n 2,
    )
