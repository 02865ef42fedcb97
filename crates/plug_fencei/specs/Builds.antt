-- The parts of this kind: what is said of their trees, whatever stands at inputs, forward wires, registers and arrays.
use Rattle.std.specs.Prelude.{◌≡◌, ℕ, true, false}
use Rattle.hw_pool.specs.Meaning.{Env, value}
use Rattle.isa_model.specs.Effects.{behind}
use Rattle.service_reg.specs.declared.service.Service.TheVariants.{Exec}
use Rattle.plug_law.specs.Table.{table_of}
use Rattle.plug_part.specs.Part.{PortTrees, Part, tree_at}
use Rattle.plug_part.specs.Things.{input_in}
use Rattle.plug_part.specs.Terms.{PartTerms}
use Rattle.plug_part.specs.Alone.{OffersOnly}
use Rattle.plug_part.specs.Meets.{MeetsLaws}
use Rattle.plug_kit.specs.Bare.{IsBare}

-- inputs are go, row, pc, word, a, b and clear; outputs done, value, next_pc, trap, cause, tval and fence
pub record BuildsFencei (p : Part) : Type 0 where
  pub ports : PortTrees
  pub only : OffersOnly p Exec ports
  pub done : (env : Env) → value env (tree_at ports.outputs 0) ≡ input_in ports 0 env
  pub next_pc : (env : Env) → value env (tree_at ports.outputs 2) ≡ behind (input_in ports 2 env)
  pub trap : (env : Env) → value env (tree_at ports.outputs 3) ≡ 0
  pub fence : (env : Env) → value env (tree_at ports.outputs 6) ≡ input_in ports 0 env

-- after the first call: such a part, with no forward wire but its inputs, no register and no array
pub record BeginsFencei (p : Part) : Type 0 where
  pub builds : BuildsFencei p
  pub bare : IsBare p builds.ports.inputs

-- they meet the laws at terms of an entry that claims FENCE.I alone, and does not offer DataBus
abbrev pub FenceiPartsMeetLaws : Type 0
FenceiPartsMeetLaws =
    (g : PartTerms) (p : Part) → BuildsFencei p → g.terms.table ≡ table_of g.set → ((number : ℕ) → g.terms.claims number ≡ true → number ≡ 40)
    → g.terms.holds ≡ false → MeetsLaws g p
