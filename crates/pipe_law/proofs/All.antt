-- All claims on one run.
use Rattle.std.proofs.Common.{ℕ, subst}
use Rattle.core_ports.specs.Trace.{Trace, data_bus, instruction_bus}
use Rattle.bus_law.specs.Honest.{Honest}
use Rattle.bus_law.specs.Memory.{IsMemory, Memory}
use Rattle.isa_follow.specs.Follows.{Follows}
use Rattle.plug_law.specs.Pipeline.{Pipe, Steps}
use Rattle.pipe_law.proofs.Execute.{past_is, pipe_follows, pipe_serves}
use Rattle.pipe_law.proofs.Pace.{is_brisk}
use Rattle.pipe_law.proofs.Stream.{overlaps}
use Rattle.pipe_law.specs.Brisk.{Brisk, cycles_of, longest}
use Rattle.pipe_law.specs.Claims.{Claims}
use Rattle.pipe_law.specs.Overlap.{IsQuick, Overlap}
use Rattle.pipe_law.specs.Core.{Core, IsCore, Laws, begin_at}

module _ (core : Core) (p : Pipe) (run' : Trace) (memory : Memory) (n : ℕ)
    (is_core : IsCore core) (laws : Laws core p run' memory) (steps : Steps core.shape p run') (is_memory : IsMemory memory) (honest : Honest (instruction_bus run') (data_bus run') memory n) where
  -- all that is claimed
  pub all_claims : (f : Follows core.set (begin_at core memory) run' n) × Claims core p run' memory n f
  all_claims = (
    pipe_follows core p run' memory n is_core laws steps is_memory honest,
    record {
      serves = pipe_serves core p run' memory n is_core laws steps is_memory honest;
      brisk = subst (Brisk core.table (cycles_of core.fetch_latency) (longest core.latency core.shape.entries) (begin_at core memory) run' n) (past_is core p run' memory n is_core laws steps is_memory honest)
          (is_brisk core p run' memory n is_core laws steps is_memory honest);
      overlap = λ all.
          subst (Overlap core.set core.table (IsQuick core.owner core.shape.commits core.latency) core.predict 5 (begin_at core memory) run' n) (past_is core p run' memory n is_core laws steps is_memory honest)
          (overlaps core p run' memory n is_core laws steps is_memory honest all);
    },
  )
