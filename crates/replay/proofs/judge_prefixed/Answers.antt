-- `judge_prefixed` meets its contract: what was read is the two bytes of the length, and the case behind them.
use Rattle.std.proofs.Common.{rules, arith, ◌∙◌, length-take-le}
use Rattle.std.proofs.lemmas.Grind.{common_steps}
use Rattle.std.proofs.Math.Seq.{take-length}
use Rattle.replay.proofs.CasesLaws.{judged_behind}
use Rattle.replay.proofs.judge_prefixed.Goals as goal

pub returns-then-read-rest : goal.returns-then-read-rest
returns-then-read-rest g c =
    judged_behind _ _ _ _ _ _ _ _ _ (search rules) (grind (arith, common_steps)) (search rules) c.in_ok-read_full.ensures.bytes (c.read_full-2.auto.buffer ∙ length-take-le _ _ (omega (arith, c.pair_at.ensures.bound)) ∙ c.pair_at.ensures.value) (search rules) c.in_ok-read.ensures.bytes (search rules) (λ same. rw (same, take-length c.read_full-2.new.buffer) (search rules)) (λ less. absurd (omega (arith, less, c.if-read-rest.true)))

pub returns-else-read-rest : goal.returns-else-read-rest
returns-else-read-rest g c =
    judged_behind _ _ _ _ _ _ _ _ _ (search rules) (grind (arith, common_steps)) (search rules) c.in_ok-read_full.ensures.bytes (c.read_full-2.auto.buffer ∙ length-take-le _ _ (omega (arith, c.pair_at.ensures.bound)) ∙ c.pair_at.ensures.value) (search rules) c.in_ok-read.ensures.bytes (search rules) (λ same. absurd (search rules)) (λ less. search rules)
