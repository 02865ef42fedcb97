use Rattle.hw_words.proofs.Gathers.{or_one}
use Rattle.hw_words.proofs.law.one_is_gathered.Goals as goal

pub returns : goal.returns
returns c = or_one
