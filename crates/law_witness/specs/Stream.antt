-- Cycles of a core that meet every premise of the claim on overlap.
use Rattle.std.specs.Prelude.{true}
use Rattle.isa_follow.specs.Follows.{Follows}
use Rattle.pipe_law.specs.Core.{begin_at}
use Rattle.pipe_law.specs.Overlap.{AllBypassed, IsQuick, IsStream}
use Rattle.law_witness.specs.Cores.{all_rows}
use Rattle.law_witness.specs.Met.{World, Met}

-- a run whose cycles 3 to 10 are a stream, of the very history that the theorem gives
pub record MeetsStream : Type 0 where
  pub world : World
  pub met : Met all_rows true 4 world
  pub bypassed : AllBypassed met.core.bypassed met.core.shape.stages
  pub follows : Follows met.core.set (begin_at met.core world.memory) met.run' 11
  pub stream : IsStream met.core.set met.core.table (IsQuick met.core.owner met.core.shape.commits met.core.latency) met.core.predict (begin_at met.core world.memory) met.run' follows.history 3 8
