use Rattle.core_tool.proofs.AnswerLaws.{cut_leaves, done_leaves}
use Rattle.core_tool.proofs.law.texts_leave_notes.Goals as goal

pub returns-clause-done : goal.returns-clause-done
returns-clause-done g c = λ form files boxes boxes' old new result h asks is. done_leaves _ result h asks is

pub returns-clause-cut : goal.returns-clause-cut
returns-clause-cut g c = λ form files boxes boxes' old new h. cut_leaves _ h
