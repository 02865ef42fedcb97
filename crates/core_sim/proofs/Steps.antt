-- One cycle of a bench.
use Rattle.std.proofs.Common.{◌≡◌, ℕ, ◌^◌, ◌<◌, List, map, sym, ap, ◌∙◌, subst}
use Rattle.bus_law.specs.declared.signals.BusIn.{BusIn}
use Rattle.bus_law.specs.Answers.{driven}
use Rattle.verilog_mean.specs.Plain.{Plain}
use Rattle.verilog_mean.specs.Run.{PortsFit}
use Rattle.verilog_sim.specs.Layouts.{input_names}
use Rattle.core_sim.specs.declared.bench.Bench.{Bench}
use Rattle.core_sim.specs.Joint.{Joint, inputs_of, joint_inputs, reset_in}
use Rattle.core_sim.specs.Bench.{IsCore, IsBench, given}
use Rattle.core_sim.proofs.Bridge.{reset_below}

module _ (m : Plain) (j : Joint) (b : Bench) (core : IsCore m) (h : IsBench m j b) (number lines : ℕ) (bus : BusIn) (is : bus ≡ driven b.buses) where
  bus_is : bus ≡ driven j.buses
  bus_is = is ∙ ap (λ s. driven s) h.buses

  -- what the inputs are given
  pub ins_are : (reset : ℕ) (ins : List ℕ) → reset ≡ reset_in number → ins ≡ map (given reset bus lines) b.inputs.items
      → map (joint_inputs number lines j) (input_names m.ports) ≡ ins
  ins_are reset ins r e =
      sym (e ∙ h.inputs reset bus lines ∙ ap (λ n. map (inputs_of n bus lines) (input_names m.ports)) r ∙ ap (λ s. map (inputs_of (reset_in number) s lines) (input_names m.ports)) bus_is)

  pub ins_fit : bus.ib_rsp_data < 2 ^ 32 → bus.db_rsp_data < 2 ^ 32 → PortsFit m.ports (joint_inputs number lines j)
  ins_fit f d = subst (λ s. PortsFit m.ports (inputs_of (reset_in number) s lines)) bus_is (core.fits (reset_in number) bus lines (reset_below number) f d)
