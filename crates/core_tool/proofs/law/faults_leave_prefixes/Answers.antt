use Rattle.core_tool.proofs.AnswerLaws.{prefixes}
use Rattle.core_tool.proofs.law.faults_leave_prefixes.Goals as goal

pub returns : goal.returns
returns g c = λ form files boxes boxes' old new h. prefixes _ h
