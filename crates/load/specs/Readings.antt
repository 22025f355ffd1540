-- Readings of loads, computed: the theorems speak of loads that there are, and the refusals come in their order. Statements only.
--
-- The first draw of seed 1 can be had by hand: its bit 0 is joined by bit 13, that by bit 6, and these three by bits 17, 30 and 23.
use Rattle.std.specs.Prelude.{ℕ, ◌≡◌, List, [], ◌∷◌, ◌++◌, length, take, drop, Err, Ok}
use Rattle.big_endian.specs.Written.{bytes_of}
use Rattle.control_point.specs.declared.refusal.Refusal.TheVariants.{Length, Short, Seed, TooMany}
use Rattle.control_point.specs.declared.t_mesh_direction.TmeshDirection.TheVariants.{Right}
use Rattle.draw.specs.Draw.{later_draw, in_parts}
use Rattle.load.specs.Load.{drawn_edit, load_file, load_answer, asked_answer}

-- what the program is asked by: seed 1 and so many edits, in two bytes
abbrev pub asking : ℕ → ℕ → List ℕ
asking high low = 0 ∷ (0 ∷ (0 ∷ (0 ∷ (0 ∷ (0 ∷ (0 ∷ (1 ∷ (high ∷ (low ∷ [])))))))))

pub record LoadReadings : Type 0 where
  -- the six draws of an edit
  pub first : later_draw 1 1 ≡ 1082269761
  pub second : later_draw 2 1 ≡ 1152992998833853505
  pub third : later_draw 3 1 ≡ 11177516664432764457
  pub fourth : later_draw 4 1 ≡ 17678023832001937445
  pub fifth : later_draw 5 1 ≡ 9659130143999365733
  pub sixth : later_draw 6 1 ≡ 17775799001133815809
  -- and that edit: from point 65 to the right
  pub edit : drawn_edit 1 ≡ record { point = 65; direction = Right; ratio = in_parts 657; position = record { x = in_parts 445; y = in_parts 233; z = in_parts 59 } }
  -- its file has 143 bytes, the last 34 of which say it
  pub whole : length (load_file 1 1) ≡ 143
  pub bytes : drop 109 (load_file 1 1)
      ≡ 65 ∷ (1 ∷ (bytes_of 8 0x3fe4880000000000 ++ (bytes_of 8 0x3fdbd00000000000 ++ (bytes_of 8 0x3fcd200000000000 ++ bytes_of 8 0x3fad800000000000))))
  -- 21 before 22 before 16, both sides of each limit
  pub no_seed : load_answer 0 1001 0 ≡ Err Seed
  pub too_many : load_answer 1 1001 0 ≡ Err TooMany
  pub too_many_in_room : load_answer 1 1001 34143 ≡ Err TooMany
  pub too_short : load_answer 1 1000 34108 ≡ Err Short
  pub most : load_answer 1 1000 34109 ≡ Ok 34109
  pub none : load_answer 1 0 109 ≡ Ok 109
  -- the program: an input of nine bytes and of eleven, also with 4 behind the ten, before all else; 1,000 edits and 1,001; a seed whose last byte alone is not 0
  pub nine : asked_answer (take 9 (asking 0 1)) 34109 ≡ Err Length
  pub eleven : asked_answer (0 ∷ asking 0 1) 34109 ≡ Err Length
  pub four_behind : asked_answer (asking 0 1 ++ (4 ∷ [])) 34109 ≡ Err Length
  pub asked : asked_answer (asking 3 232) 34109 ≡ Ok 34109
  pub asked_too_many : asked_answer (asking 3 233) 34109 ≡ Err TooMany
