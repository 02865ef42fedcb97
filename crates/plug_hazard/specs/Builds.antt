-- The parts of this kind: what is said of their trees, whatever stands at inputs, forward wires, registers and arrays.
use Rattle.std.specs.Prelude.{◌≡◌, ℕ, ◌+◌, ◌≤◌, Bool, false, List, [], ◌∷◌, get_or, codes, None, Some}
use Rattle.hw_pool.specs.Meaning.{Env, value}
use Rattle.service_reg.specs.declared.service.Service.TheVariants.{RegFile, Hazard}
use Rattle.plug_law.specs.Hazard.{HazardLaw}
use Rattle.plug_part.specs.Part.{PortTrees, Part, PartWire, tree_at}
use Rattle.plug_part.specs.Runs.{IsPartRun}
use Rattle.plug_part.specs.Owned.{is_among}
use Rattle.plug_part.specs.Things.{HasWire, HasDriver, input_in}
use Rattle.plug_part.specs.Terms.{PartTerms}
use Rattle.plug_part.specs.Signals.{hazard_signals, reg_signals}
use Rattle.plug_part.specs.Alone.{OffersOnly}
use Rattle.plug_part.specs.Meets.{MeetsLaws}
use Rattle.stage_map.specs.declared.config.Param.{Param}
use Rattle.plug_kinds.specs.declared.kind.Kind.TheVariants as kind
use Rattle.plug_kinds.specs.Kinds.{flag_of, value_of}
use Rattle.plug_kit.specs.Bare.{IsBare}
use Rattle.plug_hazard.specs.Machine.{Told, chosen_of, hold_of}
use Rattle.plug_hazard.specs.Law.{Now}

-- the stage whose inputs begin at a place
abbrev pub told_at : PortTrees → (place : ℕ) → Env → Told
told_at o i env = record { writes = input_in o i env; rd = input_in o (i + 1) env; ready = input_in o (i + 2) env; value = input_in o (i + 3) env }

-- One cycle of the part: the inputs are four for each of three stages, then ra, rb, uses_a and uses_b. What RegFile says stands on two
-- forward wires of the part.
abbrev pub now_in : PortTrees → (wire_a wire_b : ℕ) → Env → Now
now_in o wire_a wire_b env = record {
  stages = told_at o 0 env ∷ told_at o 4 env ∷ told_at o 8 env ∷ [];
  ra = input_in o 12 env;
  rb = input_in o 13 env;
  uses_a = input_in o 14 env;
  uses_b = input_in o 15 env;
  plain_a = env.wires wire_a;
  plain_b = env.wires wire_b;
}

-- the equations at a cycle
abbrev pub hold_in : (bypassed : ℕ → Bool) → Now → ℕ
hold_in bypassed n = hold_of n.uses_a (chosen_of n.ra bypassed n.stages n.plain_a).bad n.uses_b (chosen_of n.rb bypassed n.stages n.plain_b).bad

abbrev pub a_in : (bypassed : ℕ → Bool) → Now → ℕ
a_in bypassed n = (chosen_of n.ra bypassed n.stages n.plain_a).value

abbrev pub b_in : (bypassed : ℕ → Bool) → Now → ℕ
b_in bypassed n = (chosen_of n.rb bypassed n.stages n.plain_b).value

-- The part offers Hazard alone, with these ports. Its outputs hold, a and b are the equations, where what RegFile says stands on two
-- forward wires.
pub record IsOver (bypassed : ℕ → Bool) (p : Part) (ports : PortTrees) (wire_a wire_b : ℕ) : Type 0 where
  pub only : OffersOnly p Hazard ports
  -- the bits among the inputs
  pub writes : HasWire p (get_or ports.inputs 0 0) 1 × HasWire p (get_or ports.inputs 4 0) 1 × HasWire p (get_or ports.inputs 8 0) 1
  pub ready : HasWire p (get_or ports.inputs 2 0) 1 × HasWire p (get_or ports.inputs 6 0) 1 × HasWire p (get_or ports.inputs 10 0) 1
  pub uses_a : HasWire p (get_or ports.inputs 14 0) 1
  pub uses_b : HasWire p (get_or ports.inputs 15 0) 1
  pub hold : (env : Env) → value env (tree_at ports.outputs 0) ≡ hold_in bypassed (now_in ports wire_a wire_b env)
  pub a : (env : Env) → value env (tree_at ports.outputs 1) ≡ a_in bypassed (now_in ports wire_a wire_b env)
  pub b : (env : Env) → value env (tree_at ports.outputs 2) ≡ b_in bypassed (now_in ports wire_a wire_b env)

-- the forward wires have the outputs of RegFile
pub record BuildsHazard (bypassed : ℕ → Bool) (p : Part) : Type 0 where
  pub ports : PortTrees
  pub wire_a : ℕ
  pub wire_b : ℕ
  pub over : IsOver bypassed p ports wire_a wire_b
  pub regs : PortTrees
  pub took : p.took RegFile ≡ Some regs
  pub drives_a : HasDriver p wire_a (λ env. value env (tree_at regs.outputs 0))
  pub drives_b : HasDriver p wire_b (λ env. value env (tree_at regs.outputs 1))

-- a forward wire of 32 bits and level 3 that has no driver yet
abbrev pub IsOpenWire : Part → (wire : ℕ) → Type 0
IsOpenWire p wire = p.wires wire ≡ Some (record { width = 32; level = 3; driver = None })

-- after the first call: the two forward wires have no driver yet, and are the first ones of the part; nothing else is there
pub record BeginsHazard (bypassed : ℕ → Bool) (p : Part) : Type 0 where
  pub ports : PortTrees
  pub wire_a : ℕ
  pub wire_b : ℕ
  pub over : IsOver bypassed p ports wire_a wire_b
  pub least : (k : ℕ) (row : PartWire) → p.wires k ≡ Some row → wire_a ≤ k
  pub next : wire_b ≡ wire_a + 1
  pub open_a : IsOpenWire p wire_a
  pub open_b : IsOpenWire p wire_b
  pub apart_a : is_among wire_a ports.inputs ≡ false
  pub apart_b : is_among wire_b ports.inputs ≡ false
  pub bare : IsBare p (wire_a ∷ wire_b ∷ ports.inputs)

-- the stages that are bypassed, by the parameters of the entry: all or none
abbrev pub bypassed_of : List Param → ℕ → Bool
bypassed_of params = λ i. flag_of (value_of kind.Hazard params (codes "bypass"))

abbrev pub HazardPartsMeetLaws : Type 0
HazardPartsMeetLaws = (bypassed : ℕ → Bool) (g : PartTerms) (p : Part) → BuildsHazard bypassed p → MeetsLaws g p

-- in each run these stages are the bypassed ones
abbrev pub HazardPartsBypass : Type 0
HazardPartsBypass =
    (bypassed : ℕ → Bool) (p : Part) (b : BuildsHazard bypassed p) (run : ℕ → Env) → IsPartRun p run → HazardLaw bypassed (hazard_signals b.ports run) (reg_signals b.regs run)
