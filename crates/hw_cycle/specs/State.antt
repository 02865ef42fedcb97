-- What a simulated cycle holds, and the modules that it is made for.
use Rattle.std.specs.Prelude.{◌≡◌, ℕ, ◌^◌, ◌<◌, List, [], length, get_or}
use Rattle.hw_module.specs.Rows.{ModuleValue, reg_at, array_at}
use Rattle.hw_module.specs.Cycle.{Held}

-- What a contract sees of a cycle: the shape of its module, how many nodes it has room for, the numbers of the
-- registers, and the cells of the arrays.
pub record CycleValue : Type 0 where
  pub wires : ℕ
  pub reg_widths : List ℕ
  pub array_widths : List ℕ
  pub array_bits : List ℕ
  pub nodes : ℕ
  pub regs : List ℕ
  pub cells : List (List ℕ)

-- the cells of an array
abbrev pub cells_at : List (List ℕ) → ℕ → List ℕ
cells_at cells a = get_or cells a []

-- numbers are within their widths, and an array with k bits has 2 ^ k cells
pub record IsCycle (c : CycleValue) : Type 0 where
  pub regs : length c.regs ≡ length c.reg_widths
  pub widths : length c.cells ≡ length c.array_widths
  pub bits : length c.cells ≡ length c.array_bits
  pub in_reg : (r : ℕ) → r < length c.regs → get_or c.regs r 0 < 2 ^ get_or c.reg_widths r 0
  pub counts : (a : ℕ) → a < length c.cells → length (cells_at c.cells a) ≡ 2 ^ get_or c.array_bits a 0
  pub in_cell : (a i : ℕ) → a < length c.cells → i < length (cells_at c.cells a) → get_or (cells_at c.cells a) i 0 < 2 ^ get_or c.array_widths a 0

-- what registers and arrays hold, from their numbers and cells
abbrev pub held_in : (regs : List ℕ) (cells : List (List ℕ)) → Held
held_in regs cells = record { regs = λ r. get_or regs r 0; cells = λ a. cells_at cells a }

-- what the registers and arrays of a module hold in a cycle
abbrev pub held_of : CycleValue → Held
held_of c = held_in c.regs c.cells

-- The cycle is made for modules of this shape: as many forward wires, and registers and arrays of these widths.
pub record IsFor (c : CycleValue) (m : ModuleValue) : Type 0 where
  pub wires : c.wires ≡ length m.wires
  pub regs : length c.regs ≡ length m.regs
  pub arrays : length c.cells ≡ length m.arrays
  pub reg_widths : (r : ℕ) → r < length m.regs → get_or c.reg_widths r 0 ≡ (reg_at m.regs r).width
  pub array_widths : (a : ℕ) → a < length m.arrays → get_or c.array_widths a 0 ≡ (array_at m.arrays a).width
  pub array_bits : (a : ℕ) → a < length m.arrays → get_or c.array_bits a 0 ≡ (array_at m.arrays a).bits

-- the shape stays, with as many registers and arrays
pub record SameShape (old new : CycleValue) : Type 0 where
  pub wires : new.wires ≡ old.wires
  pub reg_widths : new.reg_widths ≡ old.reg_widths
  pub array_widths : new.array_widths ≡ old.array_widths
  pub array_bits : new.array_bits ≡ old.array_bits
  pub nodes : new.nodes ≡ old.nodes
  pub regs : length new.regs ≡ length old.regs
  pub cells : length new.cells ≡ length old.cells
