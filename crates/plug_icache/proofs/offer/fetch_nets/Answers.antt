use Rattle.std.proofs.Common.{arith}
use Rattle.plug_kit.proofs.Gates.{gate_output}
use Rattle.plug_icache.proofs.offer.fetch_nets.Goals as goal

pub returns-clause-outputs : goal.returns-clause-outputs
returns-clause-outputs c =
    let d = c.args.b.now.design in
    let q = c.reg_net-error.new.pool in (
      gate_output d q 1 0 c.reg_net-valid.result (grind arith) (grind arith),
      (
        gate_output d q 32 0 c.reg_net-pc.result (grind arith) (grind arith),
        (
          gate_output d q 32 0 c.reg_net-word.result (grind arith) (grind arith),
          (gate_output d q 1 0 c.reg_net-error.result (grind arith) (grind arith), tt),
        ),
      ),
    )
