use Rattle.pipe_law.proofs.pipe_follows.Goals as goal
use Rattle.pipe_law.proofs.All.{all_claims}

pub returns : goal.returns
returns c = record { follows = λ g p run' memory n is_core laws steps is_memory honest. all_claims g p run' memory n is_core laws steps is_memory honest }
