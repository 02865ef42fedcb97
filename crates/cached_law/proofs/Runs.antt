-- What Fetch's law assumes holds in each run of joined parts, so the part that offers Fetch keeps its cache.
use Rattle.std.proofs.Common.{◌≡◌, ◌∙◌, ℕ, suc, ◌<◌, true, false, refl, sym, ap, subst, arith, Option, is_some}
use Rattle.core_ports.specs.Ports.{is_input, name_of}
use Rattle.core_ports.specs.Trace.{Trace, instruction_bus, data_bus}
use Rattle.bus_law.specs.Honest.{Honest}
use Rattle.bus_law.specs.Memory.{Memory, IsMemory}
use Rattle.hw_pool.specs.Meaning.{Env}
use Rattle.hw_module.specs.Ports.{port_at}
use Rattle.plug_law.specs.Cache.{CacheLaw}
use Rattle.plug_law.specs.Fetch.{FetchAssumed}
use Rattle.plug_law.specs.Pipeline.{Pipe, Steps}
use Rattle.plug_law.specs.Predict.{IsPredict}
use Rattle.plug_part.specs.Part.{Part, PortTrees}
use Rattle.plug_part.specs.Signals.{driver_value, fetch_signals, part_ib}
use Rattle.pipe_law.specs.Core.{Core, IsCore, Laws, mem_of}
use Rattle.pipe_law.proofs.Execute.{stage_laws, stage_steps}
use Rattle.pipe_law.proofs.Follow.{inv_at}
use Rattle.pipe_law.proofs.Memories.{memory_at_is}
use Rattle.part_laws.specs.Follow.{Chosen, IsPlanned, KeepLaws, StartsWell, core_of}
use Rattle.part_laws.specs.Joined.{AreJoined, CoreTerms, HasOut, RunsParts, Services, ports_in, shape_in}
use Rattle.part_laws.specs.Pipes.{PipeOwn, pipe_of}
use Rattle.part_laws.proofs.Laws.{laws_of_run}
use Rattle.cached_law.specs.Cached.{CachedRuns, IsIcachePart, KeepsCache, fetch_in}

module _ (v : CoreTerms) (part : ℕ → Part) (x : Services) (joined : AreJoined v part x) (planned : IsPlanned v x) where
  abbrev chosen : (c : Chosen x) × StartsWell part x c × KeepLaws v part x c
  chosen = laws_of_run v part x joined

  abbrev c : Chosen x
  c = chosen.0

  module _ (own : PipeOwn) (run : ℕ → Env) (run' : Trace) (runs : RunsParts part run run') (steps : Steps (shape_in v x) (pipe_of own x run) run')
      (memory : Memory) (is_memory : IsMemory memory) (n : ℕ) (honest : Honest (instruction_bus run') (data_bus run') memory n) where
    abbrev core : Core
    core = core_of v x c (run 0)

    abbrev p : Pipe
    p = pipe_of own x run

    abbrev mem : ℕ → Memory
    mem = mem_of memory run'

    laws : Laws core p run' memory
    laws = chosen.2 own run run' runs memory

    is_core : IsCore core
    is_core = planned c.predict c.bypassed (c.start (run 0).regs (run 0).cells) (chosen.1.long (run 0))

    -- what Fetch's law assumes
    assumed : (j : ℕ) → suc j < n → FetchAssumed (fetch_in x run) (instruction_bus run') mem (is_some (ports_in x.predict)) c.predict j
    assumed j l =
        (inv_at core p run' memory n is_core (stage_laws core p run' memory n is_core laws steps is_memory honest) (stage_steps core p run' memory n is_core laws steps is_memory honest) is_memory honest j (omega arith)).asks
        j (omega arith) l

    -- the bus of the part is that of the trace
    input_is : (q : ℕ) → q < 30 → is_input (port_at q) ≡ true → (k : ℕ) → (run k).inputs q ≡ run' k (name_of (port_at q))
    input_is q l o k = sym (runs.inputs k q l o)

    out_is : (q : ℕ) → q < 30 → is_input (port_at q) ≡ false → HasOut (part x.fetch.0) q → (k : ℕ) → driver_value (run k) ((part x.fetch.0).outs q) ≡ run' k (name_of (port_at q))
    out_is q l o has k = ap (driver_value (run k)) has.is ∙ sym (runs.outs x.fetch.0 q has.tree l o has.is k)

    fetch_bus : part_ib (part x.fetch.0) run ≡ instruction_bus run'
    unfolding port_at
    fetch_bus = λ i. record {
      cmd_valid = λ k. out_is 2 (omega arith) refl joined.fetch_outs.0 k i;
      cmd_ready = λ k. input_is 3 (omega arith) refl k i;
      cmd_write = λ k. 0;
      cmd_addr = λ k. out_is 4 (omega arith) refl joined.fetch_outs.1 k i;
      cmd_data = λ k. 0;
      cmd_mask = λ k. 0;
      rsp_valid = λ k. input_is 5 (omega arith) refl k i;
      rsp_error = λ k. input_is 6 (omega arith) refl k i;
      rsp_data = λ k. input_is 7 (omega arith) refl k i;
    }

    module _ (lines words : ℕ) (is : IsIcachePart lines words (part x.fetch.0)) where
      cache_law : CacheLaw lines words (is_some (ports_in x.predict)) c.predict (fetch_in x run) (instruction_bus run') mem
      cache_law =
          subst (λ b. CacheLaw lines words (is_some (ports_in x.predict)) c.predict (fetch_in x run) b mem) fetch_bus
          (subst (λ (o : Option PortTrees). IsPredict (is_some o) c.predict → CacheLaw lines words (is_some o) c.predict (fetch_signals x.fetch.1 o run) (part_ib (part x.fetch.0) run) mem) joined.fetch_sees
          (λ h. is.cache x.fetch.1 joined.fetch.is c.predict h run (runs.parts x.fetch.0) mem) c.is_predict)

      keeps_cache : KeepsCache lines words x c.predict run run' memory n
      keeps_cache = record {
        predicted = laws.predict;
        kept = λ s l. cache_law s (λ j g. assumed j (omega arith)) (λ j g. memory_at_is memory (data_bus run') is_memory (suc j));
      }

pub cached_runs : CachedRuns
cached_runs v part x joined planned = (
  (c v part x joined planned).predict,
  (c v part x joined planned).is_predict,
  λ lines words is own run run' runs steps memory is_memory n honest. keeps_cache v part x joined planned own run run' runs steps memory is_memory n honest lines words is,
)
