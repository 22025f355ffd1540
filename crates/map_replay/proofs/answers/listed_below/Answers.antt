-- `listed_below` meets its contract: the loop has counted among the first i numbers.
use Prim.Native.Nat.{ℕ, ◌+◌}
use mathlib.Core.List.{List}
use mathlib.Core.Bool.{Bool, cond}
use mathlib.Core.Path.{◌≡◌, sym, ap, ◌∙◌}
use native.Mathlib.Omega.{arith}
use Rattle.counting.specs.Counting.{count_below}
use Rattle.counting.proofs.CountLaws.{count_none, count_more, count_few}
use Rattle.t_mesh.specs.Tmesh.{listed_in}
use Rattle.map_replay.proofs.answers.listed_below.Goals as goal

-- the number looked at is counted too
counted_too :
    (listed : List Bool) (i count one : ℕ) (is : Bool) → count ≡ count_below i (listed_in listed) → one ≡ cond is 1 0 → is ≡ listed_in listed i →
    count + one ≡ count_below (i + 1) (listed_in listed)
counted_too listed i count one is counted o l = count_more i count one (listed_in listed) counted (o ∙ ap (λ (b : Bool). cond b 1 0) l)

pub loop-i-init : goal.loop-i-init
loop-i-init c = sym (count_none _)

pub overflow_add-count : goal.overflow_add-count
overflow_add-count c =
    let l = c.loop-i in
    let listed = c.args.listed in
    omega (arith, counted_too listed l.i l.count _ _ l.invariant c.one_where-count.ensures c.is_listed.ensures, count_few (l.i + 1) (listed_in listed))

pub loop-i-preserved : goal.loop-i-preserved
loop-i-preserved c = let l = c.loop-i in counted_too c.args.listed l.i l.count _ _ l.invariant c.one_where-count.ensures c.is_listed.ensures

pub returns : goal.returns
returns c =
    let l = c.loop-i in
    let a = c.args in
    let whole : l.i ≡ a.n = omega arith in
    record {
      value = l.invariant ∙ ap (λ (i : ℕ). count_below i (listed_in a.listed)) whole;
      bound = omega (arith, l.invariant, count_few l.i (listed_in a.listed));
    }
