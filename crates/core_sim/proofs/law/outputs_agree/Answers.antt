use Rattle.core_sim.proofs.Agree.{agree}
use Rattle.core_sim.proofs.law.outputs_agree.Goals as goal

pub returns : goal.returns
returns c = λ s start run n f. agree s start run n f
