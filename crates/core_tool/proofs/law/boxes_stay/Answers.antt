use Rattle.core_tool.proofs.AnswerLaws.{untouched}
use Rattle.core_tool.proofs.law.boxes_stay.Goals as goal

pub returns : goal.returns
returns g c = λ form files boxes boxes' old new result h none. untouched _ result h none
