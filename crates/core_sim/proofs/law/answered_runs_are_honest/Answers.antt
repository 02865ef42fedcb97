use Rattle.core_sim.proofs.HonestRuns.{lines_are, run_is_over}
use Rattle.core_sim.proofs.law.answered_runs_are_honest.Goals as goal

pub returns-clause-over : goal.returns-clause-over
returns-clause-over c = λ t contents memory delays lines bounded sound ports start is_memory. run_is_over t bounded sound ports contents start memory is_memory delays lines

pub returns-clause-lines : goal.returns-clause-lines
returns-clause-lines c = λ m contents memory delays irqs ports spans k. lines_are m ports contents memory delays irqs spans k
