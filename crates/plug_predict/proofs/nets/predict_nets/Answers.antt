use Rattle.std.proofs.Common.{arith}
use Rattle.plug_kit.proofs.Gates.{gate_output}
use Rattle.plug_predict.proofs.nets.predict_nets.Goals as goal

pub returns-clause-outputs : goal.returns-clause-outputs
returns-clause-outputs c = (gate_output c.args.b.now.design c.guess-next.new.pool 32 1 c.guess-next.result (grind arith) (grind arith), tt)
