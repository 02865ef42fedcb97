-- What a simulated cycle keeps when a register is set.
use Rattle.std.proofs.Common.{◌≡◌, ◌∙◌, ℕ, ◌-◌, ◌^◌, ◌<◌, ◌≤◌, length, set, bit_and, sym, subst, arith}
use Rattle.std.proofs.lemmas.List.{length-set}
use Rattle.std.proofs.lemmas.Nat.{and_le_r, pow_pos}
use Rattle.hw_pool.specs.Nodes.{PoolValue}
use Rattle.hw_module.specs.Rows.{ModuleValue}
use Rattle.hw_cycle.specs.State.{CycleValue}
use Rattle.part_bench.specs.Whole.{IsOf}

pub reg_poked : (old new : CycleValue) (m : ModuleValue) (pool : PoolValue) (reg value : ℕ) → new ≡ record old { regs = set old.regs reg value } → IsOf old m pool → IsOf new m pool
reg_poked old new m pool reg value e h = subst (λ (c : CycleValue). IsOf c m pool) (sym e) (record {
  shape = record {
    wires = h.shape.wires;
    regs = length-set old.regs reg value ∙ h.shape.regs;
    arrays = h.shape.arrays;
    reg_widths = h.shape.reg_widths;
    array_widths = h.shape.array_widths;
    array_bits = h.shape.array_bits;
  };
  nodes = h.nodes;
})

-- the low bits of a number are below 2 ^ their count
pub masked_below : (x w mask : ℕ) → mask ≡ 2 ^ w - 1 → bit_and x mask < 2 ^ w
masked_below x w mask e =
    let top : bit_and x mask ≤ mask = and_le_r x mask in
    let some : 0 < 2 ^ w = pow_pos w in
    omega arith
