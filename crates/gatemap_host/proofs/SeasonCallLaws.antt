-- Laws of specs/SeasonCall.antt: which answer a buffer's length gives, what an answer returns and leaves, and that it tells what its table says.
use Rattle.std.specs.Prelude.{ℕ, ◌≤◌, ◌<◌, ◌≡◌, List, length, Err, Result}
use Rattle.std.proofs.Math.Path.{refl}
use Rattle.control_point.specs.declared.refusal.Refusal.TheVariants.{Short}
use Rattle.season.specs.Season.{season_map, season_told, season_number}
use Rattle.season.proofs.SeasonLaws.{map_told}
use Rattle.gatemap_host.proofs.CallLaws.{room_short, room_enough, room_told, found_gives}
use Rattle.gatemap_host.specs.SeasonCall.{map_number_bytes, host_season, season_buffer_after, host_season_number, host_season_buffer, host_season_table}
use Rattle.control_point.specs.declared.refusal.Refusal.{Refusal}

module _ (season : List ℕ) (minute : ℕ) where
  pub season_short : (room : ℕ) → room < map_number_bytes → Err Short ≡ host_season season minute room
  unfolding host_season
  season_short room = room_short map_number_bytes room _ _

  pub season_of_file : (room : ℕ) → map_number_bytes ≤ room → season_map season minute ≡ host_season season minute room
  unfolding host_season
  season_of_file room = room_enough map_number_bytes room _ _

  host_season_told : (room : ℕ) → season_told (host_season season minute room) ≡ host_season_table season minute room
  unfolding host_season
  host_season_told room = room_told map_number_bytes room _ _ season_told _ (map_told season minute) refl

  pub host_season_with : (out : List ℕ) (answer : Result ℕ Refusal) → host_season season minute (length out) ≡ answer
      → (season_number answer ≡ host_season_number season minute out)
      × (season_buffer_after answer out ≡ host_season_buffer season minute out)
      × (season_number answer ≡ (host_season_table season minute (length out)).number)
  host_season_with out = found_gives season_told (λ (a : Result ℕ Refusal). season_buffer_after a out) _ _ (host_season_told (length out))
