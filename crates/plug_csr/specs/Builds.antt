-- The parts of this kind: their registers by number, and what is said of their trees, whatever stands at inputs, forward wires,
-- registers and arrays.
use Rattle.std.specs.Prelude.{◌≡◌, ℕ, ◌+◌, ◌<◌, ◌≤◌, ◌||◌, Bool, true, false, eqb, get_or, None, Some}
use Rattle.hw_pool.specs.Trees.{Tree}
use Rattle.hw_pool.specs.Meaning.{Env, value}
use Rattle.isa_model.specs.Machine.{misa_of}
use Rattle.service_reg.specs.declared.service.Service.{Service}
use Rattle.service_reg.specs.declared.service.Service.TheVariants.{Exec, System}
use Rattle.service_reg.specs.Services.{number}
use Rattle.plug_part.specs.Part.{PartWire, PartReg, PartArray, PortTrees, Part, tree_at}
use Rattle.plug_part.specs.Owned.{is_among}
use Rattle.plug_part.specs.Things.{HasWire, HasReg}
use Rattle.plug_part.specs.Terms.{PartTerms}
use Rattle.plug_part.specs.Meets.{MeetsLaws}
use Rattle.csr_law.specs.Law.{TakesItsRows, csr_terms}
use Rattle.csr_nets.specs.Machine.{Now, done_now, held_after, irq_cause_by, kind_now, next_pc_by, old_now, take_now, trap_now, whole_by}
use Rattle.plug_csr.specs.Cycle.{now_at}

-- a service of the kind
abbrev pub is_own : Service → Bool
is_own s = eqb (number s) (number Exec) || eqb (number s) (number System)

-- one cycle of the part
abbrev pub now_in : (first : ℕ) → (ports told : PortTrees) → Env → Now
now_in first ports told env = now_at first ports.inputs told.inputs env

-- ten registers from `first` on: MIE, MPIE, the bits of mie for software, timer and external interrupts, mtvec and mepc without their
-- low two bits, mscratch, mcause and mtval; misa reads this
pub record BuildsCsr (misa : ℕ) (p : Part) : Type 0 where
  pub first : ℕ
  pub ports : PortTrees
  pub told : PortTrees
  -- it offers Exec and System with these ports, and nothing else
  pub exec : p.offers Exec ≡ Some ports
  pub system : p.offers System ≡ Some told
  pub none : (s : Service) → is_own s ≡ false → p.offers s ≡ None
  -- the inputs whose widths matter
  pub go : HasWire p (get_or ports.inputs 0 0) 1
  pub a : HasWire p (get_or ports.inputs 4 0) 32
  pub clear : HasWire p (get_or ports.inputs 6 0) 1
  pub event : HasWire p (get_or told.inputs 0 0) 1
  pub told_pc : HasWire p (get_or told.inputs 2 0) 32
  -- each register has its equation
  pub on : HasReg p first 1 (Some 0) (λ env. (held_after misa (now_in first ports told env)).on)
  pub was : HasReg p (first + 1) 1 (Some 0) (λ env. (held_after misa (now_in first ports told env)).was)
  pub soft : HasReg p (first + 2) 1 (Some 0) (λ env. (held_after misa (now_in first ports told env)).soft)
  pub timer : HasReg p (first + 3) 1 (Some 0) (λ env. (held_after misa (now_in first ports told env)).timer)
  pub outer : HasReg p (first + 4) 1 (Some 0) (λ env. (held_after misa (now_in first ports told env)).outer)
  pub tvec : HasReg p (first + 5) 30 (Some 0) (λ env. (held_after misa (now_in first ports told env)).tvec)
  pub epc : HasReg p (first + 6) 30 (Some 0) (λ env. (held_after misa (now_in first ports told env)).epc)
  pub scratch : HasReg p (first + 7) 32 (Some 0) (λ env. (held_after misa (now_in first ports told env)).scratch)
  pub cause : HasReg p (first + 8) 32 (Some 0) (λ env. (held_after misa (now_in first ports told env)).cause)
  pub tval : HasReg p (first + 9) 32 (Some 0) (λ env. (held_after misa (now_in first ports told env)).tval)
  -- and so has each output
  pub done : (env : Env) → value env (tree_at ports.outputs 0) ≡ done_now misa (now_in first ports told env)
  pub result : (env : Env) → value env (tree_at ports.outputs 1) ≡ old_now misa (now_in first ports told env)
  pub next_pc : (env : Env) → value env (tree_at ports.outputs 2)
      ≡ next_pc_by (kind_now misa (now_in first ports told env)).returns (now_in first ports told env).held.epc (now_in first ports told env).given.pc
  pub trap : (env : Env) → value env (tree_at ports.outputs 3) ≡ trap_now misa (now_in first ports told env)
  pub illegal : (env : Env) → value env (tree_at ports.outputs 4) ≡ 2
  pub its_word : (env : Env) → value env (tree_at ports.outputs 5) ≡ (now_in first ports told env).given.word
  pub fence : (env : Env) → value env (tree_at ports.outputs 6) ≡ 0
  pub take_irq : (env : Env) → value env (tree_at told.outputs 0) ≡ take_now misa (now_in first ports told env)
  pub irq_cause : (env : Env) → value env (tree_at told.outputs 1) ≡ irq_cause_by (now_in first ports told env).held (now_in first ports told env).lines
  pub base : (env : Env) → value env (tree_at told.outputs 2) ≡ whole_by (now_in first ports told env).held.tvec
  -- it drives no output of the core, and has nothing else
  pub no_outs : (q : ℕ) (t : Tree) → p.outs q ≡ Some t → ⊥
  pub wires : (k : ℕ) (row : PartWire) → p.wires k ≡ Some row → (is_among k ports.inputs || is_among k told.inputs) ≡ true
  pub regs : (k : ℕ) (row : PartReg) → p.regs k ≡ Some row → (first ≤ k) × (k < first + 10)
  pub arrays : (k : ℕ) (row : PartArray) → p.arrays k ≡ Some row → ⊥

-- they meet the laws at 2 cycles, where they commit, hold no bus and take none but their rows
abbrev pub CsrPartsMeetLaws : Type 0
CsrPartsMeetLaws = (claims : ℕ → Bool) (g : PartTerms) (p : Part) → TakesItsRows claims → g.terms ≡ csr_terms g.set claims → BuildsCsr (misa_of g.set) p → MeetsLaws g p
