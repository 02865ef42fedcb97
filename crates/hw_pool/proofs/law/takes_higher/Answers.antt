use Rattle.hw_pool.proofs.Scopes.{takes_higher}
use Rattle.hw_pool.proofs.law.takes_higher.Goals as goal

pub returns : goal.returns
returns c = takes_higher
