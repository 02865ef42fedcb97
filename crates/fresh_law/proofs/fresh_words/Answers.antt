use Rattle.fresh_law.proofs.Words.{fresh_events, fresh_words as words}
use Rattle.fresh_law.proofs.fresh_words.Goals as goal

pub returns : goal.returns
returns c = record { words = words; shown = fresh_events }
