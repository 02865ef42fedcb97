use Rattle.std.proofs.Common.{arith}
use Rattle.plug_kit.proofs.Gates.{gate_output}
use Rattle.unit_steps.proofs.ports.working_ports.Goals as goal

pub returns-clause-outputs : goal.returns-clause-outputs
returns-clause-outputs c =
    let d = c.args.b.now.design in
    let q = c.mux-done.new.pool in (
      gate_output d q 1 4 c.mux-done.result (grind arith) (grind arith),
      (
        gate_output d q 32 4 c.args.n.value (grind arith) (grind arith),
        (
          gate_output d q 32 4 c.add-next_pc.result (grind arith) (grind arith),
          (
            gate_output d q 1 4 c.lit-bit.result (grind arith) (grind arith),
            (
              gate_output d q 32 4 c.lit-zero.result (grind arith) (grind arith),
              (
                gate_output d q 32 4 c.lit-zero.result (grind arith) (grind arith),
                (gate_output d q 1 4 c.lit-bit.result (grind arith) (grind arith), tt),
              ),
            ),
          ),
        ),
      ),
    )
