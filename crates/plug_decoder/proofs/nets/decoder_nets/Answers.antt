use Rattle.hw_module.specs.Scope.{scope_of}
use Rattle.plug_kit.proofs.Gates.{gate_output}
use Rattle.plug_decoder.proofs.nets.decoder_nets.Goals as goal

pub returns-clause-outputs : goal.returns-clause-outputs
returns-clause-outputs c =
    let d = c.args.b.now.design in
    let q = c.decoder.new.pool in
    let r = c.decoder.result.0 in
    let is = c.decoder.ensures.nets in
    let there = c.decoder.ensures.scope (scope_of d) c.wire_net-word.ensures.scope in (
      gate_output d q 1 1 r.legal is.legal there.0.legal,
      (
        gate_output d q 7 1 r.row is.row there.0.row,
        (
          gate_output d q 5 1 r.unit is.unit there.0.unit,
          (
            gate_output d q 1 1 r.uses_a is.uses_a there.0.uses_a,
            (
              gate_output d q 1 1 r.uses_b is.uses_b there.0.uses_b,
              (gate_output d q 1 1 c.decoder.result.1 c.decoder.ensures.net there.1, tt),
            ),
          ),
        ),
      ),
    )
