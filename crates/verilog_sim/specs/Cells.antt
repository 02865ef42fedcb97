-- The cells of arrays by the numbers of array and cell.
use Rattle.std.specs.Prelude.{ℕ, ◌+◌, ◌<◌, vec_len, get_or}
use Rattle.verilog_sim.specs.declared.arrays.ArrayPlace.{ArrayPlace}
use Rattle.verilog_sim.specs.declared.tree_sim.TreeSim.{TreeSim}

abbrev pub no_place : ArrayPlace
no_place = record { base = 0; size = 0 }

-- the place of an array
abbrev pub place_at : TreeSim → (array : ℕ) → ArrayPlace
place_at sim array = get_or sim.arrays.items array no_place

-- the place of a cell among those of all arrays
abbrev pub cell_at : TreeSim → (array cell : ℕ) → ℕ
cell_at sim array cell = (place_at sim array).base + cell

-- there is an array of that number, and it has a cell of that number
pub record IsCell (sim : TreeSim) (array cell : ℕ) : Type 0 where
  pub is_array : array < vec_len sim.arrays
  pub is_cell : cell < (place_at sim array).size
  pub held : cell_at sim array cell < vec_len sim.flat.cells
