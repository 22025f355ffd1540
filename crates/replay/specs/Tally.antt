-- Counting the cases that come out right and those that come out wrong. A count stays where one more would not fit 64 bits.
use Rattle.std.specs.Prelude.{ℕ, ◌+◌, Bool, cond, ltb}
use Rattle.replay.specs.declared.Tally.{Tally}

-- one more
abbrev pub one_more : ℕ → ℕ
one_more count = cond (ltb count 0xffff_ffff_ffff_ffff) (count + 1) count

-- a tally with a case counted that came out right or wrong
abbrev pub counted : Tally → Bool → Tally
counted tally is_right = cond is_right (record { right = one_more tally.right; wrong = tally.wrong }) (record { right = tally.right; wrong = one_more tally.wrong })
