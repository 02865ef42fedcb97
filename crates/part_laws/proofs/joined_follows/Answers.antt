use Rattle.part_laws.proofs.Laws.{joined_follows as follows}
use Rattle.part_laws.proofs.joined_follows.Goals as goal

pub returns : goal.returns
returns c = record { follows = follows }
