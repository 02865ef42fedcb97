-- Parts of units that are done at once with a value, and never trap.
use Rattle.std.specs.Prelude.{◌≡◌, ℕ, Bool, false, get_or}
use Rattle.hw_pool.specs.Nodes.{PoolValue}
use Rattle.hw_pool.specs.Meaning.{Env, value}
use Rattle.hw_gates.specs.Places.{value_in}
use Rattle.isa_model.specs.Effects.{behind}
use Rattle.service_reg.specs.declared.service.Service.{Service}
use Rattle.service_reg.specs.declared.service.Service.TheVariants.{Exec}
use Rattle.service_ports.specs.declared.ports.ExecPorts.{ExecPorts}
use Rattle.plug_law.specs.Table.{table_of}
use Rattle.plug_part.specs.Part.{PortTrees, Part, tree_at}
use Rattle.plug_part.specs.Things.{HasWire, input_in}
use Rattle.plug_part.specs.Terms.{PartTerms}
use Rattle.plug_part.specs.Alone.{OffersOnly}
use Rattle.plug_part.specs.Meets.{MeetsLaws}
use Rattle.plug_build.specs.World.{World, part_in}
use Rattle.unit_law.specs.Computing.{AllCompute}
use Rattle.plug_kit.specs.declared.inputs.ExecInputs.{ExecInputs}
use Rattle.plug_kit.specs.Bare.{IsBare}
use Rattle.plug_kit.specs.Unit.{IsUnit}

-- The part offers Exec alone and has no other thing. Inputs are go, row, pc, word, a, b and clear; outputs done, value, next_pc, trap,
-- cause, tval and fence.
pub record BuildsComputing (value_of : (word pc a b : ℕ) → ℕ) (p : Part) : Type 0 where
  pub ports : PortTrees
  pub only : OffersOnly p Exec ports
  pub bare : IsBare p ports.inputs
  pub a : HasWire p (get_or ports.inputs 4 0) 32
  pub b : HasWire p (get_or ports.inputs 5 0) 32
  pub done : (env : Env) → value env (tree_at ports.outputs 0) ≡ input_in ports 0 env
  pub result : (env : Env) → value env (tree_at ports.outputs 1) ≡ value_of (input_in ports 3 env) (input_in ports 2 env) (input_in ports 4 env) (input_in ports 5 env)
  pub next_pc : (env : Env) → value env (tree_at ports.outputs 2) ≡ behind (input_in ports 2 env)
  pub trap : (env : Env) → value env (tree_at ports.outputs 3) ≡ 0
  pub fence : (env : Env) → value env (tree_at ports.outputs 6) ≡ 0

-- the outputs of such a unit as nets, over its inputs
pub record Shows (value_of : (word pc a b : ℕ) → ℕ) (pool : PoolValue) (w : ExecInputs) (p : ExecPorts) : Type 0 where
  pub done : (env : Env) → value_in env pool p.done ≡ env.wires w.go
  pub result : (env : Env) → value_in env pool p.value ≡ value_of (env.wires w.word) (env.wires w.pc) (env.wires w.a) (env.wires w.b)
  pub next_pc : (env : Env) → value_in env pool p.next_pc ≡ behind (env.wires w.pc)
  pub trap : (env : Env) → value_in env pool p.trap ≡ 0
  pub fence : (env : Env) → value_in env pool p.fence ≡ 0

-- such parts meet the laws at terms of an entry that does not offer DataBus, does not take FENCE.I (40), and each of whose rows
-- computes this value
abbrev pub ComputingPartsMeetLaws : Type 0
ComputingPartsMeetLaws =
    (value_of : (word pc a b : ℕ) → ℕ) (g : PartTerms) (p : Part) → BuildsComputing value_of p → g.terms.table ≡ table_of g.set → g.terms.holds ≡ false
    → g.terms.claims 40 ≡ false → AllCompute g.set g.terms value_of → MeetsLaws g p

-- the part of an entry that made a unit with such outputs is one of these
abbrev pub ComputingUnitsBegin : Type 0
ComputingUnitsBegin =
    (value_of : (word pc a b : ℕ) → ℕ) (e n : ℕ) (old new : World) (w : ExecInputs) (p : ExecPorts) → IsUnit e n old new w p → Shows value_of new.pool w p
    → (takes : Service → Bool) → BuildsComputing value_of (part_in takes e new)
