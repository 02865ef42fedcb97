-- What a simulated cycle keeps when a register or a cell is set.
use Rattle.std.proofs.Common.{◌≡◌, ◌∙◌, ℕ, ◌-◌, ◌^◌, ◌<◌, ◌≤◌, [], length, set, replicate, bit_and, ap, sym, subst, arith, inl, inr, get_or-set_same, get_or-set_other}
use Rattle.std.proofs.lemmas.Bool.{cases_eq}
use Rattle.std.proofs.lemmas.List.{length-set, length-replicate}
use Rattle.std.proofs.lemmas.Nat.{and_le_r, pow_pos}
use Rattle.hw_pool.specs.Nodes.{PoolValue}
use Rattle.hw_module.specs.Rows.{ModuleValue, array_at}
use Rattle.hw_cycle.specs.State.{CycleValue, cells_at}
use Rattle.sample_text.specs.Poked.{IsOf, HasCells}

module _ (old new : CycleValue) (m : ModuleValue) (pool : PoolValue) where
  pub reg_poked : (reg value : ℕ) → new ≡ record old { regs = set old.regs reg value } → IsOf old m pool → IsOf new m pool
  reg_poked reg value e h = subst (λ (c : CycleValue). IsOf c m pool) (sym e) (record {
    shape = record {
      wires = h.shape.wires;
      regs = length-set old.regs reg value ∙ h.shape.regs;
      arrays = h.shape.arrays;
      reg_widths = h.shape.reg_widths;
      array_widths = h.shape.array_widths;
      array_bits = h.shape.array_bits;
    };
    nodes = h.nodes;
  })

  pub reg_cells : (reg value : ℕ) → new ≡ record old { regs = set old.regs reg value } → HasCells old m → HasCells new m
  reg_cells reg value e h = subst (λ (c : CycleValue). HasCells c m) (sym e) (record { counts = h.counts })

  pub cell_poked : (array cell value : ℕ) → new ≡ record old { cells = set old.cells array (set (cells_at old.cells array) cell value) } → IsOf old m pool → IsOf new m pool
  cell_poked array cell value e h = subst (λ (c : CycleValue). IsOf c m pool) (sym e) (record {
    shape = record {
      wires = h.shape.wires;
      regs = h.shape.regs;
      arrays = length-set old.cells array (set (cells_at old.cells array) cell value) ∙ h.shape.arrays;
      reg_widths = h.shape.reg_widths;
      array_widths = h.shape.array_widths;
      array_bits = h.shape.array_bits;
    };
    nodes = h.nodes;
  })

  -- an array keeps its count of cells
  count_kept : (array cell value a : ℕ) → array < length old.cells
      → length (cells_at (set old.cells array (set (cells_at old.cells array) cell value)) a) ≡ length (cells_at old.cells a)
  count_kept array cell value a there = elim (cases_eq a array) [
    | inl same ↦
        subst (λ (j : ℕ). length (cells_at (set old.cells array (set (cells_at old.cells array) cell value)) j) ≡ length (cells_at old.cells j)) (sym same)
        (ap length (get_or-set_same old.cells array (set (cells_at old.cells array) cell value) [] there) ∙ length-set (cells_at old.cells array) cell value)
    | inr other ↦ ap length (get_or-set_other old.cells array a (set (cells_at old.cells array) cell value) [] other)
  ]

  pub cell_cells : (array cell value : ℕ) → array < length old.cells
      → new ≡ record old { cells = set old.cells array (set (cells_at old.cells array) cell value) } → HasCells old m → HasCells new m
  cell_cells array cell value there e h = subst (λ (c : CycleValue). HasCells c m) (sym e) (record {
    counts = λ a l. count_kept array cell value a there ∙ h.counts a l;
  })

-- a new cycle has the cells of its arrays
pub new_cells : (c : CycleValue) (m : ModuleValue) → ((a : ℕ) → a < length m.arrays → cells_at c.cells a ≡ replicate (2 ^ (array_at m.arrays a).bits) 0) → HasCells c m
new_cells c m h = record { counts = λ a l. ap length (h a l) ∙ length-replicate (2 ^ (array_at m.arrays a).bits) 0 }

-- the low bits of a number are below 2 ^ their count
pub masked_below : (x w mask : ℕ) → mask ≡ 2 ^ w - 1 → bit_and x mask < 2 ^ w
masked_below x w mask e =
    let top : bit_and x mask ≤ mask = and_le_r x mask in
    let some : 0 < 2 ^ w = pow_pos w in
    omega arith
