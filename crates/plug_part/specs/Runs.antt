-- The runs of a part: numbers in each cycle, of which the part's own are as it drives them.
use Rattle.std.specs.Prelude.{◌≡◌, ℕ, suc, true, ◌^◌, ◌<◌, cond, eqb, length, set, All, Option, None, Some}
use Rattle.core_words.specs.Values.{choose}
use Rattle.core_ports.specs.Ports.{is_input}
use Rattle.core_ports.specs.Ports as ports
use Rattle.hw_pool.specs.Trees.{Tree}
use Rattle.hw_pool.specs.Meaning.{Env, value, Within}
use Rattle.hw_module.specs.Ports.{port_at}
use Rattle.service_reg.specs.declared.service.Service.{Service}
use Rattle.plug_part.specs.Part.{Part, PartWire, PartReg, PartArray, TreeWrite, PortTrees, tree_at, sees}

-- the next value of a register from its driver's: that of the reset, if it has one, while `reset` is 1
abbrev pub next_value : Env → (reset : Option ℕ) → (next : ℕ) → ℕ
next_value env None next = next
next_value env (Some start) next = choose (env.inputs 1) start next

-- Numbers for all inputs, forward wires, registers and arrays in each cycle. Forward wires have their drivers' values, and
-- registers and arrays change at once behind each cycle (IEEE 1364-2005, 6.1 and 9.2.2).
pub record IsRun (p : Part) (run : ℕ → Env) : Type 0 where
  pub wires : (w : ℕ) (row : PartWire) (t : Tree) → p.wires w ≡ Some row → row.driver ≡ Some t → (k : ℕ) → (run k).wires w ≡ value (run k) t
  pub drives : (w : ℕ) (t : Tree) → p.drives w ≡ Some t → (k : ℕ) → (run k).wires w ≡ value (run k) t
  pub regs : (r : ℕ) (row : PartReg) (t : Tree) → p.regs r ≡ Some row → row.next ≡ Some t → (k : ℕ) → (run (suc k)).regs r ≡ next_value (run k) row.reset (value (run k) t)
  pub arrays : (a : ℕ) (row : PartArray) (t : TreeWrite) → p.arrays a ≡ Some row → row.write ≡ Some t → (k : ℕ)
      → (run (suc k)).cells a ≡ cond (eqb (value (run k) t.enable) 1) (set ((run k).cells a) (value (run k) t.addr) (value (run k) t.value)) ((run k).cells a)

-- In each cycle the inputs of the core, what the part holds, its forward wires, and all that its trees and the outputs of
-- the services that it sees take from outside are within their widths.
pub record IsWithin (p : Part) (run : ℕ → Env) : Type 0 where
  pub inputs_fit : (k q : ℕ) → q < 30 → is_input (port_at q) ≡ true → (run k).inputs q < 2 ^ ports.width_of (port_at q)
  pub wires_fit : (w : ℕ) (row : PartWire) → p.wires w ≡ Some row → (k : ℕ) → (run k).wires w < 2 ^ row.width
  pub regs_fit : (r : ℕ) (row : PartReg) → p.regs r ≡ Some row → (k : ℕ) → (run k).regs r < 2 ^ row.width
  pub cells_many : (a : ℕ) (row : PartArray) → p.arrays a ≡ Some row → (k : ℕ) → length ((run k).cells a) ≡ 2 ^ row.bits
  pub cells_fit : (a : ℕ) (row : PartArray) → p.arrays a ≡ Some row → (k : ℕ) → All (λ c. c < 2 ^ row.width) ((run k).cells a)
  pub drivers : (w : ℕ) (row : PartWire) (t : Tree) → p.wires w ≡ Some row → row.driver ≡ Some t → (k : ℕ) → Within (run k) t
  pub drives : (w : ℕ) (t : Tree) → p.drives w ≡ Some t → (k : ℕ) → Within (run k) t
  pub nexts : (r : ℕ) (row : PartReg) (t : Tree) → p.regs r ≡ Some row → row.next ≡ Some t → (k : ℕ) → Within (run k) t
  pub writes : (a : ℕ) (row : PartArray) (t : TreeWrite) → p.arrays a ≡ Some row → row.write ≡ Some t → (k : ℕ) → Within (run k) t.enable × Within (run k) t.addr × Within (run k) t.value
  pub outs : (q : ℕ) (t : Tree) → p.outs q ≡ Some t → (k : ℕ) → Within (run k) t
  pub seen : (s : Service) (e : PortTrees) → sees p s ≡ Some e → (i k : ℕ) → Within (run k) (tree_at e.outputs i)

-- a run that begins with `reset` and has it in no later cycle
pub record IsPartRun (p : Part) (run : ℕ → Env) : Type 0 where
  pub is : IsRun p run
  pub first : (run 0).inputs 1 ≡ 1
  pub later : (k : ℕ) → (run (suc k)).inputs 1 ≡ 0
  pub within : IsWithin p run

-- ---- what the part holds

-- the part's registers and arrays hold the same
pub record SameContentsOf (p : Part) (e e' : Env) : Type 0 where
  pub regs : (r : ℕ) (row : PartReg) → p.regs r ≡ Some row → e.regs r ≡ e'.regs r
  pub cells : (a : ℕ) (row : PartArray) → p.arrays a ≡ Some row → e.cells a ≡ e'.cells a

-- the part's registers and arrays hold 0
pub record HoldsZeroOf (p : Part) (e : Env) : Type 0 where
  pub regs : (r : ℕ) (row : PartReg) → p.regs r ≡ Some row → e.regs r ≡ 0
  pub cells : (a : ℕ) (row : PartArray) → p.arrays a ≡ Some row → All (λ c. c ≡ 0) (e.cells a)

-- the value of a tree in the runs of the part depends on what the part holds alone, and not on the inputs of the cycle
abbrev pub FromContents : Part → Tree → Type 0
FromContents p t = (run run' : ℕ → Env) → IsPartRun p run → IsPartRun p run' → (k k' : ℕ) → SameContentsOf p (run k) (run' k') → value (run k) t ≡ value (run' k') t
