-- The answer numbers, for their words. 0 is no refusal.
use Rattle.std.specs.Prelude.{ℕ}
use Rattle.control_point.specs.declared.refusal.Refusal.{Refusal}
use Rattle.control_point.specs.declared.refusal.Refusal.TheVariants.{Ratio, Foreign, OpenSide, BorderSide, Taken, Interval, Itself, Torn, Ring, Full, NoPoint, Length, Version, Heading, NoWeight, Short, Pull, Clash, Shut, OffMap, Seed, TooMany, UnlikeHeads, TooLong, Closeness, Ticks, Doubled}

abbrev pub refusal_number : Refusal → ℕ
refusal_number Ratio = 1
refusal_number Foreign = 2
refusal_number OpenSide = 3
refusal_number BorderSide = 4
refusal_number Taken = 5
refusal_number Interval = 6
refusal_number Itself = 7
refusal_number Torn = 8
refusal_number Ring = 9
refusal_number Full = 10
refusal_number NoPoint = 11
refusal_number Length = 12
refusal_number Version = 13
refusal_number Heading = 14
refusal_number NoWeight = 15
refusal_number Short = 16
refusal_number Pull = 17
refusal_number Clash = 18
refusal_number Shut = 19
refusal_number OffMap = 20
refusal_number Seed = 21
refusal_number TooMany = 22
refusal_number UnlikeHeads = 23
refusal_number TooLong = 24
refusal_number Closeness = 25
refusal_number Ticks = 26
refusal_number Doubled = 27
