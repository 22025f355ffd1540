-- The C call for a season: each test has its own number, and what is written is the map of the one window that holds.
use Rattle.std.specs.Prelude.{ℕ, ◌^◌, ◌≤◌, ◌<◌, ◌≡◌, refl, Bool, true, false, not, cond, List, [], ◌∷◌, leb, length, Err, Ok, Result}
use Rattle.std.proofs.Common.{sym, ap, ◌∙◌, inl, inr, arith, get_or-set_same, leb-true}
use Rattle.std.proofs.Math.Path.{subst}
use Rattle.big_endian.specs.BigEndian.{byte_at}
use Rattle.big_endian.specs.Written.{written}
use Rattle.control_point.specs.declared.refusal.Refusal.TheVariants.{Short}
use Rattle.counting.proofs.BoolLaws.{cond_case}
use Rattle.gatemap_host.specs.SeasonCall.{map_number_bytes, host_season, season_buffer_after}
use Rattle.season.specs.Season.{window_count, season_length_right, days_wrong, season_version_right, clashes, checked_season, some_holds, checked_map, season_map, season_number}
use Rattle.season.proofs.SeasonLaws.{valid_tells}
use Rattle.season.proofs.TheoremsProof.{one_holds, map_answered}
use Rattle.soundness.specs.Theorems.{OneOf}
use Rattle.file_soundness.proofs.FullStrokeProof.{numbered}
use Rattle.file_soundness.specs.Theorems.{SeasonNumbersNamed, SaysMap, SeasonByteSays}
use Rattle.control_point.specs.declared.refusal.Refusal.{Refusal}

-- ---- the numbers
abbrev Named : Result ℕ Refusal → Type 0
Named answer = OneOf (season_number answer) (0 ∷ (12 ∷ (13 ∷ (16 ∷ (18 ∷ (19 ∷ []))))))

abbrev NamedOf : List ℕ → ℕ → Result ℕ Refusal → Type 0
NamedOf season minute check = Named (checked_map season minute check)

map_named : (season : List ℕ) (minute : ℕ) → Named (season_map season minute)
unfolding checked_season
map_named season minute =
    let n = window_count season in
    cond_case (season_length_right season) (NamedOf season minute) _ _
    (λ long.
    cond_case (not (days_wrong season n)) (NamedOf season minute) _ _
    (λ days.
    cond_case (season_version_right season) (NamedOf season minute) _ _
    (λ version.
    cond_case (not (clashes season n)) (NamedOf season minute) _ _
    (λ apart. cond_case (some_holds season minute n) Named _ _ (λ some. inl refl) (λ none. inr (inr (inr (inr (inr (inl refl)))))))
    (λ clash. inr (inr (inr (inr (inl refl))))))
    (λ other. inr (inr (inl refl))))
    (λ past. inr (inl refl)))
    (λ short. inr (inl refl))

pub season_numbers_named : SeasonNumbersNamed
unfolding host_season
season_numbers_named season minute out =
    cond_case (leb map_number_bytes (length out)) Named _ _ (λ room. map_named season minute) (λ short. inr (inr (inr (inl refl))))

-- ---- the byte
module _ (season : List ℕ) (minute : ℕ) (bits : minute < 2 ^ 32) where
  -- a map that is answered is that of the one window that holds
  map_says : (map : ℕ) → season_map season minute ≡ Ok map → (check : Result ℕ Refusal) → checked_season season ≡ check → SaysMap season minute map
  map_says map is (Ok n) valid =
      let found = (map_answered season n valid minute map bits).0 is in
      let i = found.0 in
      let count = (valid_tells season n valid).counted in (
        i,
        subst (λ (k : ℕ). i < k) (sym count) found.1,
        found.2,
        sym found.3,
        λ j below holds. one_holds season n valid minute j i bits (subst (λ (k : ℕ). j < k) count below) found.1 holds found.2,
      )
  map_says map is (Err refusal) refused = absurd (numbered refusal (ap season_number (sym (ap (checked_map season minute) refused) ∙ is)))

  -- what the buffer holds, by the answer
  buffer_says : (answer : Result ℕ Refusal) (out : List ℕ) → season_map season minute ≡ answer → map_number_bytes ≤ length out → season_number answer ≡ 0
      → SaysMap season minute (byte_at (season_buffer_after answer out) 0)
  unfolding written
  buffer_says (Ok map) out is room done =
      subst (SaysMap season minute) (sym (get_or-set_same out 0 map 0 (omega (arith, room)))) (map_says map is (checked_season season) refl)
  buffer_says (Err refusal) out is room done = absurd (numbered refusal done)

  -- with room for the byte or without
  with_room : (enough : Bool) (out : List ℕ) → leb map_number_bytes (length out) ≡ enough → season_number (cond enough (season_map season minute) (Err Short)) ≡ 0
      → SaysMap season minute (byte_at (season_buffer_after (cond enough (season_map season minute) (Err Short)) out) 0)
  with_room true out room done = buffer_says (season_map season minute) out refl (leb-true map_number_bytes (length out) room) done
  with_room false out room done = absurd (numbered Short done)

pub season_byte_says : SeasonByteSays
unfolding host_season
season_byte_says season minute out bits done = with_room season minute bits (leb map_number_bytes (length out)) out refl done
