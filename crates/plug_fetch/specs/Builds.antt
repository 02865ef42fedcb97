-- The parts of this kind: their registers by number, and what is said of their trees, whatever stands at inputs, forward wires,
-- registers and arrays.
use Rattle.std.specs.Prelude.{◌≡◌, ℕ, ◌%◌, ◌<◌, ◌≤◌, ◌⊎◌, get_or, length, is_some, Option, None, Some}
use Rattle.hw_pool.specs.Trees.{Tree}
use Rattle.hw_pool.specs.Meaning.{Env, value}
use Rattle.bus_law.specs.Memory.{Memory}
use Rattle.isa_model.specs.Effects.{behind}
use Rattle.service_reg.specs.declared.service.Service.TheVariants.{Fetch, Predict}
use Rattle.plug_law.specs.Predict.{IsPredict}
use Rattle.plug_law.specs.Depth.{DepthLaw}
use Rattle.plug_part.specs.Part.{PortTrees, Part, sees, tree_at}
use Rattle.plug_part.specs.Runs.{IsPartRun}
use Rattle.plug_part.specs.Things.{HasWire, HasReg, IsDriven, input_in}
use Rattle.plug_part.specs.Terms.{PartTerms}
use Rattle.plug_part.specs.Signals.{fetch_signals, part_ib}
use Rattle.plug_part.specs.Alone.{OffersOnly}
use Rattle.plug_part.specs.Meets.{MeetsLaws}
use Rattle.plug_fetch.specs.Machine.{Now, held_after, put, given_after, owed_after, dropped_after, address_after, pc_after}

-- the registers: those of a place, and the others
pub record Numbers : Type 0 where
  pub held : (place : ℕ) → ℕ
  pub pc : (place : ℕ) → ℕ
  pub word : (place : ℕ) → ℕ
  pub error : (place : ℕ) → ℕ
  pub given : ℕ
  pub owed : ℕ
  pub dropped : ℕ
  pub address : ℕ
  pub next_pc : ℕ

-- the pc behind the word that comes: Predict's answer where it is there
abbrev pub guess_in : Option PortTrees → (address : ℕ) → Env → ℕ
guess_in None address env = behind address
guess_in (Some q) address env = value env (tree_at q.outputs 0)

-- one cycle of the part; the bus's signals are inputs 3 and 5 to 7 of the core
abbrev pub now_in : Numbers → PortTrees → Option PortTrees → Env → Now
now_in n o q env = record {
  held = λ i. env.regs (n.held i);
  pc = λ i. env.regs (n.pc i);
  word = λ i. env.regs (n.word i);
  error = λ i. env.regs (n.error i);
  given = env.regs n.given;
  owed = env.regs n.owed;
  dropped = env.regs n.dropped;
  address = env.regs n.address;
  next_pc = env.regs n.next_pc;
  take = input_in o 0 env;
  redirect = input_in o 1 env;
  redirect_pc = input_in o 2 env;
  ready = env.inputs 3;
  answered = env.inputs 5;
  failed = env.inputs 6;
  payload = env.inputs 7;
  guess = guess_in q (env.regs n.address) env;
}

-- what the part asks Predict: the address and the word that comes
pub record Asks (p : Part) (n : Numbers) (q : PortTrees) : Type 0 where
  pub pc : IsDriven (p.drives (get_or q.inputs 0 0)) (λ env. env.regs n.address)
  pub word : IsDriven (p.drives (get_or q.inputs 1 0)) (λ env. env.inputs 7)

pub record BuildsFetch (depth reset_pc : ℕ) (p : Part) : Type 0 where
  pub numbers : Numbers
  pub ports : PortTrees
  pub only : OffersOnly p Fetch ports
  pub take : HasWire p (get_or ports.inputs 0 0) 1
  pub redirect : HasWire p (get_or ports.inputs 1 0) 1
  -- each register has its equation
  pub held : (i : ℕ) → i < depth → HasReg p (numbers.held i) 1 (Some 0) (λ env. held_after depth (now_in numbers ports (sees p Predict) env) i)
  pub pc : (i : ℕ) → i < depth → HasReg p (numbers.pc i) 32 None (λ env. put depth (now_in numbers ports (sees p Predict) env) i (env.regs numbers.address) (λ j. env.regs (numbers.pc j)))
  pub word : (i : ℕ) → i < depth → HasReg p (numbers.word i) 32 None (λ env. put depth (now_in numbers ports (sees p Predict) env) i (env.inputs 7) (λ j. env.regs (numbers.word j)))
  pub error : (i : ℕ) → i < depth → HasReg p (numbers.error i) 1 None (λ env. put depth (now_in numbers ports (sees p Predict) env) i (env.inputs 6) (λ j. env.regs (numbers.error j)))
  pub given : HasReg p numbers.given 1 (Some 0) (λ env. given_after depth (now_in numbers ports (sees p Predict) env))
  pub owed : HasReg p numbers.owed 1 (Some 0) (λ env. owed_after (now_in numbers ports (sees p Predict) env))
  pub dropped : HasReg p numbers.dropped 1 (Some 0) (λ env. dropped_after (now_in numbers ports (sees p Predict) env))
  pub address : HasReg p numbers.address 32 None (λ env. address_after (now_in numbers ports (sees p Predict) env))
  pub next_pc : HasReg p numbers.next_pc 32 (Some reset_pc) (λ env. pc_after (now_in numbers ports (sees p Predict) env))
  -- the first place is offered
  pub outputs : length ports.outputs ≡ 4
  pub valid : (env : Env) → value env (tree_at ports.outputs 0) ≡ env.regs (numbers.held 0)
  pub offers_pc : (env : Env) → value env (tree_at ports.outputs 1) ≡ env.regs (numbers.pc 0)
  pub offers_word : (env : Env) → value env (tree_at ports.outputs 2) ≡ env.regs (numbers.word 0)
  pub offers_error : (env : Env) → value env (tree_at ports.outputs 3) ≡ env.regs (numbers.error 0)
  -- the command is given on the instruction bus, and no other output is driven
  pub cmd_valid : IsDriven (p.outs 2) (λ env. env.regs numbers.given)
  pub cmd_addr : IsDriven (p.outs 4) (λ env. env.regs numbers.address)
  pub no_other : (q : ℕ) (t : Tree) → p.outs q ≡ Some t → (q ≡ 2) ⊎ (q ≡ 4)
  pub asks : (q : PortTrees) → sees p Predict ≡ Some q → Asks p numbers q

-- they meet the laws at 8 + 4 w cycles, and read ahead by their depth
abbrev pub FetchPartsMeetLaws : Type 0
FetchPartsMeetLaws =
    (depth : ℕ) (g : PartTerms) (p : Part) → 1 ≤ depth → g.reset_pc % 4 ≡ 0 → g.terms.latency ≡ (8, 4) → BuildsFetch depth g.reset_pc p → MeetsLaws g p

abbrev pub FetchPartsReadAhead : Type 0
FetchPartsReadAhead =
    (depth reset_pc : ℕ) (p : Part) → 1 ≤ depth → reset_pc % 4 ≡ 0 → (b : BuildsFetch depth reset_pc p)
    → (predict : ℕ → ℕ → ℕ) → IsPredict (is_some (sees p Predict)) predict → (run : ℕ → Env) → IsPartRun p run → (mem : ℕ → Memory)
    → DepthLaw depth (is_some (sees p Predict)) predict (fetch_signals b.ports (sees p Predict) run) (part_ib p run) mem
