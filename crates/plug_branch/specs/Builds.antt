-- The parts of this kind: what is said of their trees, whatever stands at inputs, forward wires, registers and arrays.
use Rattle.std.specs.Prelude.{◌≡◌, ℕ, true, false, get_or}
use Rattle.hw_pool.specs.Meaning.{Env, value}
use Rattle.isa_model.specs.Effects.{behind}
use Rattle.service_reg.specs.declared.service.Service.TheVariants.{Exec}
use Rattle.plug_law.specs.Table.{table_of}
use Rattle.plug_part.specs.Part.{PortTrees, Part, tree_at}
use Rattle.plug_part.specs.Things.{HasWire, input_in}
use Rattle.plug_part.specs.Terms.{PartTerms}
use Rattle.plug_part.specs.Alone.{OffersOnly}
use Rattle.plug_part.specs.Meets.{MeetsLaws}
use Rattle.plug_kit.specs.Bare.{IsBare}
use Rattle.plug_branch.specs.Machine.{next_of, trap_of}
use Rattle.plug_branch.specs.Law.{is_branch_row}

-- where the program goes on, over the inputs of a part
abbrev pub next_in : PortTrees → Env → ℕ
next_in ports env = next_of (input_in ports 3 env) (input_in ports 2 env) (input_in ports 4 env) (input_in ports 5 env)

-- inputs are go, row, pc, word, a, b and clear; outputs done, value, next_pc, trap, cause, tval and fence
pub record BuildsBranch (p : Part) : Type 0 where
  pub ports : PortTrees
  pub only : OffersOnly p Exec ports
  pub a : HasWire p (get_or ports.inputs 4 0) 32
  pub b : HasWire p (get_or ports.inputs 5 0) 32
  pub done : (env : Env) → value env (tree_at ports.outputs 0) ≡ input_in ports 0 env
  pub result : (env : Env) → value env (tree_at ports.outputs 1) ≡ behind (input_in ports 2 env)
  pub next_pc : (env : Env) → value env (tree_at ports.outputs 2) ≡ next_in ports env
  pub trap : (env : Env) → value env (tree_at ports.outputs 3) ≡ trap_of (input_in ports 3 env) (input_in ports 2 env) (input_in ports 4 env) (input_in ports 5 env)
  pub cause : (env : Env) → value env (tree_at ports.outputs 4) ≡ 0
  pub tval : (env : Env) → value env (tree_at ports.outputs 5) ≡ next_in ports env
  pub fence : (env : Env) → value env (tree_at ports.outputs 6) ≡ 0

-- after the first call: such a part, with no forward wire but its inputs, no register and no array
pub record BeginsBranch (p : Part) : Type 0 where
  pub builds : BuildsBranch p
  pub bare : IsBare p builds.ports.inputs

-- they meet the laws at terms of an entry that claims rows of these alone, and does not offer DataBus
abbrev pub BranchPartsMeetLaws : Type 0
BranchPartsMeetLaws =
    (g : PartTerms) (p : Part) → BuildsBranch p → g.terms.table ≡ table_of g.set → ((number : ℕ) → g.terms.claims number ≡ true → is_branch_row number ≡ true)
    → g.terms.holds ≡ false → MeetsLaws g p
