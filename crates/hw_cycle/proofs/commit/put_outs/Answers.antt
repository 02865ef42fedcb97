use Rattle.std.proofs.Common.{◌≡◌, ◌∙◌, ◌+◌, ◌<◌, false, length, refl, arith, ap, sym}
use Rattle.core_ports.specs.Ports.{is_input}
use Rattle.hw_module.specs.Ports.{port_at}
use Rattle.hw_module.specs.Rows.{out_at}
use Rattle.hw_cycle.specs.Inputs.{outputs_before}
use Rattle.hw_cycle.specs.Levels.{driven_by}
use Rattle.hw_cycle.proofs.Tables.{output_is, input_is, output_few, before_output, before_input, outs_set, outs_skip}
use Rattle.hw_cycle.proofs.commit.put_outs.Goals.{then-is_output, else-is_output}
use Rattle.hw_cycle.proofs.commit.put_outs.Goals as goal

pub loop-port-init : goal.loop-port-init
unfolding outputs_before
loop-port-init c = record { place = refl; done = λ p h o. absurd (omega arith) }

pub bounds-outs-place : goal.bounds-outs-place
bounds-outs-place c =
    let o : is_input (port_at c.loop-port.port) ≡ false = output_is c.loop-port.port c.is_output.result c.is_output.ensures c.if-is_output.true in
    let few : outputs_before c.loop-port.port < 17 = output_few c.loop-port.port (omega arith) o in
    let is : c.loop-port.place ≡ outputs_before c.loop-port.port = c.loop-port.invariant.place in
    omega arith

pub offset_bounds-outs-place : goal.offset_bounds-outs-place
offset_bounds-outs-place c =
    let o : is_input (port_at c.loop-port.port) ≡ false = output_is c.loop-port.port c.is_output.result c.is_output.ensures c.if-is_output.true in
    let few : outputs_before c.loop-port.port < 17 = output_few c.loop-port.port (omega arith) o in
    let is : c.loop-port.place ≡ outputs_before c.loop-port.port = c.loop-port.invariant.place in
    omega arith

pub overflow_add-place : goal.overflow_add-place
overflow_add-place c =
    let o : is_input (port_at c.loop-port.port) ≡ false = output_is c.loop-port.port c.is_output.result c.is_output.ensures c.if-is_output.true in
    let few : outputs_before c.loop-port.port < 17 = output_few c.loop-port.port (omega arith) o in
    let is : c.loop-port.place ≡ outputs_before c.loop-port.port = c.loop-port.invariant.place in
    omega arith

pub loop-port-preserved : goal.loop-port-preserved
loop-port-preserved c = elim c.if-is_output.branch [
  | then-is_output w ↦
      let o : is_input (port_at c.loop-port.port) ≡ false = output_is c.loop-port.port c.is_output.result c.is_output.ensures w.if-is_output.true in
      let few : outputs_before c.loop-port.port < 17 = output_few c.loop-port.port (omega arith) o in
      let is : c.loop-port.place ≡ outputs_before c.loop-port.port = c.loop-port.invariant.place in
      let short : c.loop-port.place < length c.loop-port.outs = omega arith in
      record {
        place = w.place-is ∙ ap (λ n. n + 1) is ∙ sym (before_output c.loop-port.port o);
        done =
            outs_set (λ p. driven_by c.args.values.now (out_at c.as_slice-rows.result.now p)) c.loop-port.port c.loop-port.place w.driven.result c.loop-port.outs c.if-is_output.outs is short
            w.driven.ensures w.outs-is c.loop-port.invariant.done;
      }
  | else-is_output w ↦
      let i = input_is c.loop-port.port c.is_output.result c.is_output.ensures w.if-is_output.false in
      record {
        place = w.place-is ∙ c.loop-port.invariant.place ∙ sym (before_input c.loop-port.port i);
        done =
            outs_skip (λ p. driven_by c.args.values.now (out_at c.as_slice-rows.result.now p)) c.loop-port.port c.loop-port.outs c.if-is_output.outs i
            w.outs-is c.loop-port.invariant.done;
      }
]
