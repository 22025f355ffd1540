-- Computed.
use Rattle.std.specs.Prelude.{refl}
use Rattle.std.specs.Float.Ieee.{div, round, of_int, of_bits, of_fields, to_bits}
use Rattle.big_endian.specs.BigEndian.{number_at}
use Rattle.big_endian.specs.Written.{bytes_of}
use Rattle.draw.specs.Draw.{next_draw, later_draw, in_parts}
use Rattle.load.specs.Load.{drawn_edit, drawn_edits, load_file, load_answer, asked_answer}
use Rattle.load.specs.Readings.{LoadReadings}
use Rattle.map_format.specs.Format.{bytes_of_edits, front_of, file_of}

pub load_readings : LoadReadings
unfolding next_draw later_draw drawn_edit drawn_edits load_file load_answer asked_answer number_at bytes_of bytes_of_edits front_of file_of in_parts div round of_int of_bits of_fields to_bits
load_readings =
    record {
      first = refl;
      second = refl;
      third = refl;
      fourth = refl;
      fifth = refl;
      sixth = refl;
      edit = refl;
      whole = refl;
      bytes = refl;
      no_seed = refl;
      too_many = refl;
      too_many_in_room = refl;
      too_short = refl;
      most = refl;
      none = refl;
      nine = refl;
      eleven = refl;
      four_behind = refl;
      asked = refl;
      asked_too_many = refl;
    }
