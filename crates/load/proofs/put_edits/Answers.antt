-- `put_edits` meets its contract: what is left to write gives what was to be written.
use Prim.Native.Nat.{ℕ, ◌+◌, ◌*◌, ◌-◌}
use mathlib.Core.Path.{◌≡◌, ap, ◌∙◌}
use mathlib.Core.List.{List}
use native.Mathlib.Omega.{arith}
use Rattle.big_endian.specs.Written.{written}
use Rattle.map_format.specs.Format.{edits_at, edit_bytes, bytes_of_edit, bytes_of_edits}
use Rattle.draw.specs.Draw.{later_draw}
use Rattle.load.specs.Load.{drawn_edits}
use Rattle.load.proofs.LoadLaws.{put_more}
use Rattle.load.proofs.put_edits.Goals as goal

pub loop-n-preserved : goal.loop-n-preserved
loop-n-preserved c =
    let l = c.loop-n in
    let next = edits_at + (l.n + 1) * edit_bytes in
    let left = c.args.count - (l.n + 1) in
    let here = c.put_edit.ensures ∙ ap (λ e. written l.out (edits_at + l.n * edit_bytes) (bytes_of_edit e)) c.drawn_edit-drawn.ensures.edit in
    ap (λ (n : ℕ). written c.put_edit.new.buffer next (bytes_of_edits (drawn_edits left n))) c.drawn_edit-drawn.ensures.state
    ∙ ap (λ (b : List ℕ). written b next (bytes_of_edits (drawn_edits left (later_draw 6 l.state)))) here
    ∙ put_more l.out l.n c.args.count l.state (omega arith)
    ∙ l.invariant

pub returns : goal.returns
unfolding written bytes_of_edits drawn_edits
returns c =
    let l = c.loop-n in
    let none : 0 ≡ c.args.count - l.n = omega arith in
    ap (λ (left : ℕ). written l.out (edits_at + l.n * edit_bytes) (bytes_of_edits (drawn_edits left l.state))) none ∙ l.invariant
