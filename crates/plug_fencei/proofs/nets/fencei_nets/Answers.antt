use Rattle.std.proofs.Common.{arith}
use Rattle.plug_kit.proofs.Gates.{gate_output}
use Rattle.plug_fencei.proofs.nets.fencei_nets.Goals as goal

pub returns-clause-outputs : goal.returns-clause-outputs
returns-clause-outputs c =
    let d = c.args.b.now.design in
    let q = c.lit-zero.new.pool in (
      gate_output d q 1 4 c.wire_net-go.result (grind arith) (grind arith),
      (
        gate_output d q 32 4 c.lit-zero.result (grind arith) (grind arith),
        (
          gate_output d q 32 4 c.add-next_pc.result (grind arith) (grind arith),
          (
            gate_output d q 1 4 c.lit-bit.result (grind arith) (grind arith),
            (
              gate_output d q 32 4 c.lit-zero.result (grind arith) (grind arith),
              (
                gate_output d q 32 4 c.lit-zero.result (grind arith) (grind arith),
                (gate_output d q 1 4 c.wire_net-go.result (grind arith) (grind arith), tt),
              ),
            ),
          ),
        ),
      ),
    )
