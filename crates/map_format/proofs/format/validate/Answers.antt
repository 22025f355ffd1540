-- `validate` meets its contract: the tests are made in the order of the definition, and a right length keeps the count small.
use mathlib.Core.Path.{◌≡◌, sym, ap, ◌∙◌}
use Prim.Native.Nat.{ℕ}
use mathlib.Core.List.{List}
use native.Mathlib.Omega.{arith}
use Rattle.control_point.proofs.ToldLaws.{beside}
use Rattle.counted_file.specs.Counted.{file_told}
use Rattle.counted_file.proofs.CountedLaws.{length_tells}
use Rattle.map_format.specs.Format.{edits_at, edit_bytes, most_edits, is_version, checked_file, file_table}
use Rattle.map_format.proofs.FormatLaws.{file_told_lem}
use Rattle.map_format.proofs.format.validate.Goals as goal
use Rattle.std.specs.Prelude.{Result}
use Rattle.control_point.specs.declared.refusal.Refusal.{Refusal}

-- what it tells follows from what it is
told : (bytes : List ℕ) (r : Result ℕ Refusal) → r ≡ checked_file bytes → (r ≡ checked_file bytes) × (file_told r ≡ file_table bytes)
told bytes = beside file_told (checked_file bytes) (file_table bytes) (file_told_lem bytes)

pub returns-then-not-counted_right : goal.returns-then-not-counted_right
unfolding checked_file
returns-then-not-counted_right c =
    let all = (told _ _ (rw (sym c.counted_right.ensures ∙ c.if-not-counted_right.true))) in record { is = all.0; told = all.1 }

pub returns-then-not-is_version : goal.returns-then-not-is_version
unfolding checked_file
returns-then-not-is_version c =
    let all = (told _ _ (rw ((sym c.counted_right.ensures ∙ c.if-not-counted_right.false), (ap is_version (sym c.version_of.ensures) ∙ sym c.is_version.ensures) ∙ c.if-not-is_version.true))) in record { is = all.0; told = all.1 }

pub overflow_sub-count : goal.overflow_sub-count
overflow_sub-count c = omega (arith, (length_tells edits_at edit_bytes most_edits _ ((sym c.counted_right.ensures ∙ c.if-not-counted_right.false))).headed)

pub headings_right-requires : goal.headings_right-requires
headings_right-requires c = (length_tells edits_at edit_bytes most_edits _ ((sym c.counted_right.ensures ∙ c.if-not-counted_right.false))).few

pub returns-then-headings_right : goal.returns-then-headings_right
unfolding checked_file
returns-then-headings_right c =
    let all = (told _ _ (rw ((sym c.counted_right.ensures ∙ c.if-not-counted_right.false), ((ap is_version (sym c.version_of.ensures) ∙ sym c.is_version.ensures) ∙ c.if-not-is_version.false), sym c.headings_right.ensures ∙ c.if-headings_right.true))) in record { is = all.0; told = all.1 }

pub returns-else-headings_right : goal.returns-else-headings_right
unfolding checked_file
returns-else-headings_right c =
    let all = (told _ _ (rw ((sym c.counted_right.ensures ∙ c.if-not-counted_right.false), ((ap is_version (sym c.version_of.ensures) ∙ sym c.is_version.ensures) ∙ c.if-not-is_version.false), sym c.headings_right.ensures ∙ c.if-headings_right.false))) in record { is = all.0; told = all.1 }
