use Rattle.core_tool.proofs.AnswerLaws.{runs_complete, texts_complete}
use Rattle.core_tool.proofs.law.calls_are_complete.Goals as goal

pub returns-clause-texts : goal.returns-clause-texts
returns-clause-texts g c = λ form files boxes boxes' old new result h must calm. texts_complete _ result h must calm

pub returns-clause-runs : goal.returns-clause-runs
returns-clause-runs g c = λ form files boxes boxes' old new result h must calm. runs_complete _ result h must calm
