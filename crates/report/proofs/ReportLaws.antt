-- Laws of the whole report: the numbers noted are the file's, the counts are few, and a file's report is that of its check.
use Prim.Native.Nat.{ℕ, ◌+◌, ◌≤◌, ◌<◌}
use mathlib.Core.Path.{◌≡◌, refl, sym, ap, ◌∙◌}
use mathlib.Core.List.{List, [], ◌∷◌, ◌++◌}
use native.Mathlib.Numerals.{add-one}
use native.Mathlib.Omega.{arith}
use lib.ListN.{length, take, drop, set, replicate, length-replicate}
use lib.Seq.{sets, sets-eq, take-append_seam}
use Rattle.big_endian.specs.Written.{written}
use Rattle.control_point.specs.Point.{is_link}
use Rattle.control_point.specs.declared.t_mesh_direction.TmeshDirection.TheVariants.{Up, Right}
use Rattle.t_mesh.specs.Tmesh.{store_of}
use Rattle.t_mesh.specs.declared.t_mesh.Tmesh.{Tmesh}
use Rattle.counting.proofs.CountLaws.{count_few}
use Rattle.census.specs.Census.{has_side, counts_of}
use Rattle.census.specs.declared.census.Counts.{Counts}
use Rattle.map_format.specs.Format.{checked_file}
use Rattle.report_text.specs.Put.{Put, Fits}
use Rattle.report_text.specs.Text.{printed_below}
use Rattle.report.specs.Report.{checked_report, report_of}
use Rattle.report.proofs.ReportFitsProof.{report_fits}
use Rattle.std.specs.Prelude.{Result}
use Rattle.control_point.specs.declared.refusal.Refusal.{Refusal}

-- ---- the numbers noted
written_sets : (buffer : List ℕ) (at : ℕ) (bytes : List ℕ) → written buffer at bytes ≡ sets buffer at bytes
unfolding written
written_sets buffer at [] = refl
written_sets buffer at (byte ∷ rest) = written_sets (set buffer at byte) (at + 1) rest ∙ ap (λ (place : ℕ). sets (set buffer at byte) place rest) (add-one at)

-- bytes written at the start of a buffer that has room for them stand there
pub noted : (before after numbers : List ℕ) (count : ℕ) → after ≡ written before 0 numbers → length numbers ≡ count → count ≤ length before → take count after ≡ numbers
noted before after numbers count wrote many room =
    ap (λ (buffer : List ℕ). take count buffer) (wrote ∙ written_sets before 0 numbers ∙ sets-eq numbers before 0 (omega arith))
    ∙ ap (λ (n : ℕ). take n (numbers ++ drop (0 + length numbers) before)) (sym many)
    ∙ take-append_seam numbers (drop (0 + length numbers) before)

-- so many zeros have room for as many bytes
pub zeros_room : (count n : ℕ) → count ≤ n → count ≤ length (replicate {A = ℕ} n 0)
zeros_room count n few = omega (arith, length-replicate {A = ℕ} n 0)

-- ---- the counts
links_few : (map : Tmesh) → (counts_of map).links < printed_below
unfolding counts_of
links_few map = omega (arith, count_few 128 (has_side is_link (store_of map) Up), count_few 128 (has_side is_link (store_of map) Right))

pub counted_few : (map : Tmesh) (counts : Counts) → counts ≡ counts_of map → counts.links < printed_below
counted_few map counts so = omega (arith, links_few map, ap (λ (c : Counts). c.links) so)

-- ---- the report of a file, by its check
module _ (file : List ℕ) (check : Result ℕ Refusal) (checked : checked_file file ≡ check) where
  by_check : checked_report file check ≡ report_of file
  unfolding report_of
  by_check = ap (checked_report file) (sym checked)

  pub checked_fits : Fits 0 (checked_report file check)
  checked_fits = omega (arith, ap length by_check, report_fits file)

  pub reported : {before after : List ℕ} {end : ℕ} → Put before 0 (checked_report file check) after end
      → (end ≡ length (report_of file)) × (after ≡ written before 0 (report_of file))
  reported {before} {after} {end} put = (omega (arith, put.ends, ap length by_check), put.wrote ∙ ap (written before 0) by_check)
