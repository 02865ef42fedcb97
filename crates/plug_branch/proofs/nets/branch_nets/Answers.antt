use Rattle.std.proofs.Common.{arith}
use Rattle.plug_kit.proofs.Gates.{gate_output}
use Rattle.plug_branch.proofs.nets.branch_nets.Goals as goal

pub returns-clause-outputs : goal.returns-clause-outputs
returns-clause-outputs c =
    let d = c.args.b.now.design in
    let q = c.lit-zero.new.pool in (
      gate_output d q 1 4 c.wire_net-go.result (grind arith) (grind arith),
      (
        gate_output d q 32 4 c.next_flow-flow.result.value (grind arith) (grind arith),
        (
          gate_output d q 32 4 c.next_flow-flow.result.next_pc (grind arith) (grind arith),
          (
            gate_output d q 1 4 c.next_flow-flow.result.trap (grind arith) (grind arith),
            (
              gate_output d q 32 4 c.lit-zero.result (grind arith) (grind arith),
              (
                gate_output d q 32 4 c.next_flow-flow.result.next_pc (grind arith) (grind arith),
                (gate_output d q 1 4 c.lit-bit.result (grind arith) (grind arith), tt),
              ),
            ),
          ),
        ),
      ),
    )
