use Rattle.core_tool.proofs.AnswerLaws.{answered_by}
use Rattle.core_tool.proofs.law.every_call_ends.Goals as goal

pub returns : goal.returns
returns g c = λ form files boxes boxes' old new result h. answered_by _ result h
