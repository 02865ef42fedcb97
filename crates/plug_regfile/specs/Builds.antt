-- The parts of this kind: what is said of their trees, whatever stands at inputs, forward wires, registers and arrays. Inputs are ra,
-- rb, we, wa and wd, outputs a and b.
use Rattle.std.specs.Prelude.{◌≡◌, ℕ, suc, true, Some, None}
use Rattle.hw_pool.specs.Meaning.{Env, value}
use Rattle.service_reg.specs.declared.service.Service.TheVariants.{RegFile}
use Rattle.plug_law.specs.RegFile.{RegLaw}
use Rattle.plug_part.specs.Owned.{is_among}
use Rattle.plug_part.specs.Part.{PartWire, PartReg, PartArray, PortTrees, Part, tree_at}
use Rattle.plug_part.specs.Runs.{IsPartRun}
use Rattle.plug_part.specs.Things.{HasArray, input_in}
use Rattle.plug_part.specs.Terms.{PartTerms}
use Rattle.plug_part.specs.Signals.{reg_signals}
use Rattle.plug_part.specs.Alone.{OffersOnly}
use Rattle.plug_part.specs.Meets.{MeetsLaws}
use Rattle.plug_regfile.specs.Machine.{read_of, after}

-- both outputs read this array, and the part has nothing else but it and the inputs
pub record ReadsCells (p : Part) (ports : PortTrees) (array : ℕ) : Type 0 where
  pub only : OffersOnly p RegFile ports
  pub a : (env : Env) → value env (tree_at ports.outputs 0) ≡ read_of (env.cells array) (input_in ports 0 env)
  pub b : (env : Env) → value env (tree_at ports.outputs 1) ≡ read_of (env.cells array) (input_in ports 1 env)
  pub wires : (k : ℕ) (row : PartWire) → p.wires k ≡ Some row → is_among k ports.inputs ≡ true
  pub regs : (k : ℕ) (row : PartReg) → p.regs k ≡ Some row → ⊥
  pub arrays : (k : ℕ) (row : PartArray) → p.arrays k ≡ Some row → k ≡ array

-- 32 cells of 32 bits, with no write yet
pub record BeginsRegFile (p : Part) : Type 0 where
  pub ports : PortTrees
  pub array : ℕ
  pub reads : ReadsCells p ports array
  pub cells : p.arrays array ≡ Some (record { width = 32; bits = 5; write = None })

-- where we is 1, the cell wa takes wd
pub record BuildsRegFile (p : Part) : Type 0 where
  pub ports : PortTrees
  pub array : ℕ
  pub reads : ReadsCells p ports array
  pub cells : HasArray p array 32 5 (input_in ports 2) (input_in ports 3) (input_in ports 4)

abbrev pub RegFilePartsMeetLaws : Type 0
RegFilePartsMeetLaws = (g : PartTerms) (p : Part) → BuildsRegFile p → MeetsLaws g p

-- in each run the registers begin as the array's contents
abbrev pub RegFilePartsStart : Type 0
RegFilePartsStart = (p : Part) (b : BuildsRegFile p) (run : ℕ → Env) → IsPartRun p run → RegLaw (reg_signals b.ports run) ((run 0).cells b.array)

-- and change by what stands at the inputs
abbrev pub RegFilePartsChange : Type 0
RegFilePartsChange =
    (p : Part) (b : BuildsRegFile p) (run : ℕ → Env) → IsPartRun p run → (k : ℕ)
    → (run (suc k)).cells b.array ≡ after ((run k).cells b.array) (input_in b.ports 2 (run k)) (input_in b.ports 3 (run k)) (input_in b.ports 4 (run k))
