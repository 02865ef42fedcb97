use Rattle.std.proofs.Common.{◌≡◌, List, ℕ, length, map, ap, ◌∙◌, arith}
use Rattle.std.proofs.lemmas.List.{with_items_is}
use Rattle.bus_law.specs.Answers.{driven, stepped}
use Rattle.verilog_mean.specs.Cycle.{value}
use Rattle.verilog_mean.specs.Run.{PortsFit}
use Rattle.verilog_sim.specs.Simulates.{AllFit}
use Rattle.verilog_sim.specs.Layouts.{layout_of, input_names, output_names}
use Rattle.core_sim.specs.Joint.{joint_inputs, outputs_of}
use Rattle.core_sim.specs.Bench.{accepted, given}
use Rattle.core_sim.proofs.Outputs.{bus_out_is}
use Rattle.core_sim.proofs.Steps.{ins_are, ins_fit}
use Rattle.core_sim.proofs.bench.Bench.step.Goals as goal

pub returns-clause-passed : goal.returns-clause-passed
returns-clause-passed c = λ m j core h.
    let b = c.args.self.now in
    let val : List ℕ → ℕ = value m j.core (joint_inputs c.args.number c.args.lines j) in
    let len : length c.drive.new.ins ≡ b.ins.len = omega arith in
    let fits : PortsFit m.ports (joint_inputs c.args.number c.args.lines j) = ins_fit m j b core h c.args.number c.args.lines c.drive-driven.result c.drive-driven.ensures (omega arith) (omega arith) in
    let ins : map (joint_inputs c.args.number c.args.lines j) (input_names m.ports) ≡ c.as_slice-2.result.now =
    ins_are m j b core h c.args.number c.args.lines c.drive-driven.result c.drive-driven.ensures c.reset_in.result _ c.reset_in.ensures
    (c.as_slice-2.ensures.value ∙ with_items_is b.ins c.drive.new.ins len ∙ c.drive.ensures ∙ ap (map (given c.reset_in.result c.drive-driven.result c.args.lines)) c.as_slice.ensures.value) in
    let outs : c.step.new.outs.items ≡ map val (output_names m.ports) = c.step.ensures.outs m (layout_of m) j.core (joint_inputs c.args.number c.args.lines j) h.simulates h.shows fits ins in
    let fit : AllFit m val (output_names m.ports) = c.step.ensures.fit m (layout_of m) j.core (joint_inputs c.args.number c.args.lines j) h.simulates h.shows fits ins in
    let out : c.bus_out-out.result ≡ outputs_of val = c.bus_out-out.ensures ∙ bus_out_is m val c.as_slice-3.result.now b.places (c.as_slice-3.ensures.value ∙ outs) core fit h.places in
    record {
      outs = outs;
      fit = fit;
      next = record {
        simulates = c.step.ensures.simulates m (layout_of m) h.simulates;
        shows = c.step.ensures.held m (layout_of m) j.core (joint_inputs c.args.number c.args.lines j) h.simulates h.shows fits ins;
        buses = c.step-2.ensures ∙ ap (λ s. stepped s c.bus_out-out.result) h.buses ∙ ap (stepped j.buses) out;
        inputs = h.inputs;
        places = h.places;
      };
    }

pub returns-clause-write : goal.returns-clause-write
returns-clause-write c = λ m j core h.
    let b = c.args.self.now in
    let val : List ℕ → ℕ = value m j.core (joint_inputs c.args.number c.args.lines j) in
    let len : length c.drive.new.ins ≡ b.ins.len = omega arith in
    let fits : PortsFit m.ports (joint_inputs c.args.number c.args.lines j) = ins_fit m j b core h c.args.number c.args.lines c.drive-driven.result c.drive-driven.ensures (omega arith) (omega arith) in
    let ins : map (joint_inputs c.args.number c.args.lines j) (input_names m.ports) ≡ c.as_slice-2.result.now =
    ins_are m j b core h c.args.number c.args.lines c.drive-driven.result c.drive-driven.ensures c.reset_in.result _ c.reset_in.ensures
    (c.as_slice-2.ensures.value ∙ with_items_is b.ins c.drive.new.ins len ∙ c.drive.ensures ∙ ap (map (given c.reset_in.result c.drive-driven.result c.args.lines)) c.as_slice.ensures.value) in
    let outs : c.step.new.outs.items ≡ map val (output_names m.ports) = c.step.ensures.outs m (layout_of m) j.core (joint_inputs c.args.number c.args.lines j) h.simulates h.shows fits ins in
    let fit : AllFit m val (output_names m.ports) = c.step.ensures.fit m (layout_of m) j.core (joint_inputs c.args.number c.args.lines j) h.simulates h.shows fits ins in
    let out : c.bus_out-out.result ≡ outputs_of val = c.bus_out-out.ensures ∙ bus_out_is m val c.as_slice-3.result.now b.places (c.as_slice-3.ensures.value ∙ outs) core fit h.places in
    c.accepted_write.ensures ∙ ap (λ s. accepted s c.bus_out-out.result) (c.drive-driven.ensures ∙ ap driven h.buses) ∙ ap (accepted (driven j.buses)) out
