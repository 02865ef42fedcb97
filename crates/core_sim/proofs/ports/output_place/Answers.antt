use Rattle.std.proofs.Common.{◌≡◌, ◌+◌, ◌∷◌, ◌∙◌, true, false, drop, sym, arith}
use Rattle.verilog_mean.specs.Erase.{plain_ports}
use Rattle.verilog_sim.specs.Layouts.{output_names}
use Rattle.core_sim.proofs.Lists.{here, one_output, rest_same, rest_found, rest_next}
use Rattle.core_sim.proofs.ports.output_place.Goals as goal

true_false : true ≡ false → ⊥
true_false e = cc

pub returns-then-is : goal.returns-then-is
returns-then-is c =
    let ports = c.args.ports.now in
    let i = c.loop-port.port-index in
    let p = c.port-item.result in
    let s : drop i ports ≡ p ∷ drop (i + 1) ports = here ports i p c.loop-port-test.true c.port-item.is in
    rest_found (output_names (plain_ports ports)) (output_names (plain_ports (drop (i + 1) ports))) c.args.name.now p.name.text c.loop-port.at
    (c.is.ensures.0 c.if-is.true)
    (rest_same _ _ _ c.args.name.now c.loop-port.at (one_output (drop i ports) (drop (i + 1) ports) p s c.if-port.false) c.loop-port.invariant.rest)

pub loop-port-preserved : goal.loop-port-preserved
loop-port-preserved c =
    let ports = c.args.ports.now in
    let i = c.loop-port.port-index in
    let p = c.port-item.result in
    let s : drop i ports ≡ p ∷ drop (i + 1) ports = here ports i p c.loop-port-test.true c.port-item.is in
    record {
      rest = rest_next (output_names (plain_ports ports)) (output_names (plain_ports (drop (i + 1) ports))) c.args.name.now p.name.text c.loop-port.at
          (λ e. true_false (sym (c.is.ensures.1 e) ∙ c.if-is.false))
          (rest_same _ _ _ c.args.name.now c.loop-port.at (one_output (drop i ports) (drop (i + 1) ports) p s c.if-port.false) c.loop-port.invariant.rest);
      few = omega (arith, c.loop-port.invariant.few);
    }
