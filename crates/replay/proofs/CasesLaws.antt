-- A case behind the two bytes of its length: what was read is both.
use Rattle.std.specs.Prelude.{◌≡◌, refl, ℕ, ◌+◌, ◌<◌, ◌≤◌, Bool, false, List, [], ◌∷◌, ◌++◌, length, take, drop, Some}
use Rattle.std.specs.declared.option.Option.{Option}
use Rattle.std.specs.Io.KnownBytes.{Consumes, IsAtEnd}
use Rattle.std.proofs.Common.{sym, ap, ◌∙◌, subst, rules, arith, length-append, length-take-le}
use Rattle.std.proofs.KnownBytes.{Consumes-trans}
use Rattle.std.proofs.Math.Seq.{take-length, drop-append_seam}
use Rattle.big_endian.specs.BigEndian.{number_at}
use Rattle.replay.specs.Cases.{JudgesNext, prefixed_bytes}

prefix_says : (prefix rest : List ℕ) → length prefix ≡ 2 → number_at 2 (prefix ++ rest) 0 ≡ number_at 2 prefix 0
unfolding number_at
prefix_says [] rest two = absurd (omega (arith, two))
prefix_says (a ∷ []) rest two = absurd (omega (arith, two))
prefix_says (a ∷ (b ∷ (x ∷ xs))) rest two = absurd (omega (arith, two))
prefix_says (a ∷ (b ∷ [])) rest two = refl

pub judged_behind :
    (answers : List ℕ → Bool → Type 0) (old between new : Option (List ℕ)) (prefix case : List ℕ) (first second : ℕ) (outcome : Bool) → length prefix ≡ 2 → 2 ≤ first → first ≤ 2
    → Consumes old between (take first prefix) → length case ≡ number_at 2 prefix 0 → second ≤ length case → Consumes between new (take second case) → (second < length case → IsAtEnd new)
    → (second ≡ length case → answers (take second case) outcome) → (second < length case → outcome ≡ false) → JudgesNext prefixed_bytes 2 answers old new (Some outcome)
judged_behind answers old between new prefix case first second outcome two least most front says within behind ended whole cut =
    let all : take first prefix ≡ prefix = ap (λ (n : ℕ). take n prefix) {x = first} {y = length prefix} (omega (arith, two, least, most)) ∙ take-length prefix in
    let read = prefix ++ take second case in
    let many : length read ≡ 2 + second = omega (arith, two, length-append prefix (take second case), length-take-le second case within) in
    let taken : prefixed_bytes read ≡ 2 + length case = omega (arith, says, prefix_says prefix (take second case) two) in
    let rest : drop 2 read ≡ take second case = ap (λ (n : ℕ). drop n read) (sym two) ∙ drop-append_seam {A = ℕ} prefix (take second case) in
    record {
      read = read;
      consumed = subst (λ bytes. Consumes old new (bytes ++ take second case)) all (Consumes-trans old between new _ _ front behind);
      within = omega (arith, many, taken, within);
      ended = λ less. ended (omega (arith, many, taken, less));
      none = ((λ some. search rules), (λ none. absurd (omega (arith, many, none))));
      whole = λ same. subst (λ bytes. answers bytes outcome) (sym rest) (whole (omega (arith, many, taken, same)));
      cut = λ less. cut (omega (arith, many, taken, less));
    }
