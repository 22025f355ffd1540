-- Laws of text put into a buffer: what is put after another text stands behind it.
use Prim.Native.Nat.{ℕ, ◌+◌, ◌<◌}
use mathlib.Core.Path.{◌≡◌, refl, sym, ap, ◌∙◌}
use mathlib.Core.List.{List, [], ◌∷◌, ◌++◌}
use native.Mathlib.Numerals.{add-one}
use native.Mathlib.Omega.{arith}
use lib.ListN.{length, get_or, set, take, length-append}
use lib.Seq.{take-suc, length-take-le}
use Rattle.big_endian.specs.Written.{written}
use Rattle.big_endian.proofs.WrittenLaws.{written_append}
use Rattle.report_text.specs.Put.{Put, Fits}

-- nothing
pub put_none : (out : List ℕ) (at : ℕ) → Put out at [] out at
unfolding written
put_none out at = record { wrote = refl; ends = omega arith }

-- two texts, one behind the other
pub put_then : {out next last first then : List ℕ} {at middle end : ℕ} → Put out at first next middle → Put next middle then last end
    → Put out at (first ++ then) last end
put_then {out} {next} {last} {first} {then} {at} {middle} {end} p q =
    record {
      wrote =
          q.wrote
          ∙ ap (λ (buffer : List ℕ). written buffer middle then) p.wrote
          ∙ ap (λ (place : ℕ). written (written out at first) place then) p.ends
          ∙ sym (written_append out at first then);
      ends = omega (arith, p.ends, q.ends, length-append first then);
    }

-- where two texts fit, the first does, and the other behind it
pub fits_first : (at : ℕ) (first then : List ℕ) → Fits at (first ++ then) → Fits at first
fits_first at first then fits = omega (arith, length-append first then)

pub fits_then : {out next first : List ℕ} {at middle : ℕ} (then : List ℕ) → Fits at (first ++ then) → Put out at first next middle → Fits middle then
fits_then {out} {next} {first} {at} {middle} then fits put = omega (arith, put.ends, length-append first then)

pub fits_as : (at : ℕ) (text same : List ℕ) → text ≡ same → Fits at same → Fits at text
fits_as at text same e fits = omega (arith, ap length e)

-- one byte more of a text
pub written_next : (before : List ℕ) (at : ℕ) (text out : List ℕ) (i : ℕ) → i < length text → out ≡ written before at (take i text)
    → set out (at + i) (get_or text i 0) ≡ written before at (take (i + 1) text)
unfolding written
written_next before at text out i inside so =
    let b = get_or text i 0 in
    ap (λ (buffer : List ℕ). set buffer (at + i) b) so
    ∙ ap (λ (n : ℕ). set (written before at (take i text)) (at + n) b) (sym (length-take-le i text (omega arith)))
    ∙ sym (written_append before at (take i text) (b ∷ []))
    ∙ ap (λ (bytes : List ℕ). written before at bytes) (sym (take-suc text i 0 inside) ∙ ap (λ (n : ℕ). take n text) (sym (add-one i)))

-- the same text
pub put_as : {before text same after : List ℕ} {at end : ℕ} → text ≡ same → Put before at text after end → Put before at same after end
put_as {before} {text} {same} {after} {at} {end} e p = rw e at p
