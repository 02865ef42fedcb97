-- Where the cells of arrays lie, as numbers.
use Rattle.std.specs.Prelude.{ℕ, Option, Some, None}
use Rattle.verilog_sim.specs.declared.arrays.ArrayPlace.{ArrayPlace}
use Rattle.verilog_sim.specs.Simulates.{Span}

abbrev pub place_of : Span → ArrayPlace
place_of a = record { base = a.base; size = a.size }

-- the size of the place that an item's cells take
abbrev pub place_size : Option ArrayPlace → ℕ
place_size None = 0
place_size (Some p) = p.size
