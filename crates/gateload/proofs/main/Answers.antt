-- `main` writes no more bytes than its buffer has.
use Rattle.std.proofs.Common.{◌≡◌, ℕ, ◌≤◌, List, rules, arith, length, sym, ap, ◌∙◌, length-take-le}
use Rattle.load.specs.Load.{asked_answer}
use Rattle.load.proofs.LoadLaws.{asked_fits}
use Rattle.map_writing.specs.Answer.{bytes_written}
use Rattle.gateload.proofs.main.Goals as goal
use Rattle.std.specs.Prelude.{Result}
use Rattle.control_point.specs.declared.refusal.Refusal.{Refusal}

within : (end room : ℕ) (answer : Result ℕ Refusal) (input file : List ℕ)
    → end ≡ bytes_written answer → answer ≡ asked_answer input room → room ≡ length file → end ≤ length file
within end room answer input file told is same =
    let counted = told ∙ ap bytes_written is in
    omega (arith, counted, asked_fits input room)

pub slice_bounds-file-end : goal.slice_bounds-file-end
slice_bounds-file-end c =
    within _ _ c.write_asked.result _ c.write_asked.new.out c.bytes_written-written.ensures c.write_asked.ensures.is (search rules)

pub slice_bounds-write_all-end : goal.slice_bounds-write_all-end
slice_bounds-write_all-end c =
    sym (length-take-le _ c.write_asked.new.out
    (within _ _ c.write_asked.result _ c.write_asked.new.out c.bytes_written-written.ensures c.write_asked.ensures.is (search rules)))
