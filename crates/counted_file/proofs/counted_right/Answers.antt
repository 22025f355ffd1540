-- `counted_right` meets its contract: the first test that fails decides, and the last one else.
use Prim.Native.Nat.{ℕ, ◌+◌}
use mathlib.Core.Path.{sym, ap, ◌∙◌}
use Rattle.counted_file.specs.Counted.{count_bytes}
use Rattle.counted_file.proofs.CountedLaws.{head_missing, count_wrong, part_left, items_decide}
use Rattle.counted_file.proofs.counted_right.Goals as goal

pub returns-then-length-head : goal.returns-then-length-head
returns-then-length-head c = head_missing _ _ _ _ c.if-length-head.true

pub returns-then-length_at-length : goal.returns-then-length_at-length
returns-then-length_at-length c =
    count_wrong _ _ _ _ c.if-length-head.false (λ same. c.if-length_at-length.true (ap (λ (n : ℕ). count_bytes + n) c.length_at.ensures.value ∙ same))

pub returns-then-items-item-ne0 : goal.returns-then-items-item-ne0
returns-then-items-item-ne0 c = part_left _ _ _ _ c.if-length-head.false ((ap (λ (n : ℕ). count_bytes + n) (sym c.length_at.ensures.value) ∙ c.if-length_at-length.false)) c.if-items-item-ne0.true

pub returns : goal.returns
returns c =
    let a = c.args in
    items_decide a.head a.item a.most a.bytes.now c.if-length-head.false ((ap (λ (n : ℕ). count_bytes + n) (sym c.length_at.ensures.value) ∙ c.if-length_at-length.false)) c.if-items-item-ne0.false
