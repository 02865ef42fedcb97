use Rattle.std.proofs.Common.{◌≡◌, ◌+◌, ◌++◌, length, map}
use Rattle.verilog_mean.specs.Erase.{plain_items}
use Rattle.verilog_sim.specs.ArrayPlaces.{place_of}
use Rattle.verilog_sim.specs.Layouts.{spans_from}
use Rattle.verilog_sim.specs.Rooms.{cell_count}
use Rattle.verilog_sim.proofs.arrays.array_places.Given as goal

abbrev pub invariant-loop-rest : goal.invariant-loop-rest
invariant-loop-rest l =
    (l.base + cell_count (plain_items l.rest) ≡ cell_count (plain_items l.items))
    × (l.places.items ++ map place_of (spans_from l.base (plain_items l.rest)) ≡ map place_of (spans_from 0 (plain_items l.items)))

abbrev pub decreases-loop-rest : goal.decreases-loop-rest
decreases-loop-rest l = length l.rest
