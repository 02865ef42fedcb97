-- What holds in each run of joined parts.
use Rattle.std.specs.Prelude.{◌≡◌, ℕ, ◌^◌, ◌<◌, Bool, List, length, get_or, set, All, is_some}
use Rattle.core_ports.specs.Trace.{Trace, instruction_bus, data_bus}
use Rattle.bus_law.specs.Memory.{Memory, IsMemory}
use Rattle.bus_law.specs.Honest.{Honest}
use Rattle.hw_pool.specs.Meaning.{Env}
use Rattle.isa_follow.specs.Follows.{Follows}
use Rattle.plug_law.specs.Predict.{IsPredict}
use Rattle.plug_law.specs.Pipeline.{Steps}
use Rattle.plug_part.specs.Part.{Part}
use Rattle.plug_part.specs.Runs.{IsPartRun, HoldsZeroOf}
use Rattle.pipe_law.specs.Core.{Core, IsCore, Laws, begin_at}
use Rattle.pipe_law.specs.Claims.{Claims}
use Rattle.part_laws.specs.Joined.{CoreTerms, Services, ports_in, shape_in, core_in, AreJoined, RunsParts}
use Rattle.part_laws.specs.Pipes.{PipeOwn, pipe_of}

-- what is chosen before the runs: what Predict answers, the stages that Hazard uses, the registers of given start contents
pub record Chosen (x : Services) : Type 0 where
  pub predict : ℕ → ℕ → ℕ
  pub is_predict : IsPredict (is_some (ports_in x.predict)) predict
  pub bypassed : ℕ → Bool
  pub start : (regs : ℕ → ℕ) (cells : ℕ → List ℕ) → List ℕ

-- the core with these choices, for given start contents
abbrev pub core_of : CoreTerms → (x : Services) → Chosen x → Env → Core
core_of v x c e = core_in v x c.predict c.bypassed (c.start e.regs e.cells)

-- the parts keep the laws in each run
abbrev pub KeepLaws : (v : CoreTerms) (part : ℕ → Part) (x : Services) → Chosen x → Type 0
KeepLaws v part x c =
    (own : PipeOwn) (run : ℕ → Env) (run' : Trace) → RunsParts part run run' → (memory : Memory)
    → Laws (core_of v x c (run 0)) (pipe_of own x run) run' memory

-- the machine's registers out of reset: those of the start contents, with 0 for register 0
abbrev pub regs_of : {x : Services} → Chosen x → Env → List ℕ
regs_of c e = set (c.start e.regs e.cells) 0 0

-- they are 32 numbers of 32 bits, and 0 where the contents are
pub record StartsWell (part : ℕ → Part) (x : Services) (c : Chosen x) : Type 0 where
  pub long : (e : Env) → length (c.start e.regs e.cells) ≡ 32
  pub size : (e : Env) → length (regs_of c e) ≡ 32
  pub zero_reg : (e : Env) → get_or (regs_of c e) 0 0 ≡ 0
  pub fits : (run : ℕ → Env) → IsPartRun (part x.regs.0) run → All (λ r. r < 2 ^ 32) (regs_of c (run 0))
  pub zeros : (e : Env) → HoldsZeroOf (part x.regs.0) e → All (λ r. r ≡ 0) (regs_of c e)

abbrev pub LawsOfRun : Type 0
LawsOfRun = (v : CoreTerms) (part : ℕ → Part) (x : Services) → AreJoined v part x → (c : Chosen x) × StartsWell part x c × KeepLaws v part x c

-- plan and services fit together, whatever is chosen
abbrev pub IsPlanned : CoreTerms → Services → Type 0
IsPlanned v x = (predict : ℕ → ℕ → ℕ) (bypassed : ℕ → Bool) (start : List ℕ) → length start ≡ 32 → IsCore (core_in v x predict bypassed start)

-- each run that takes the pipeline's steps follows the machine, with all that the theorem of the pipeline claims besides
abbrev pub RunsFollow : (v : CoreTerms) (part : ℕ → Part) (x : Services) → Chosen x → Type 0
RunsFollow v part x c =
    (own : PipeOwn) (run : ℕ → Env) (run' : Trace) → RunsParts part run run' → Steps (shape_in v x) (pipe_of own x run) run'
    → (memory : Memory) → IsMemory memory → (n : ℕ) → Honest (instruction_bus run') (data_bus run') memory n
    → (f : Follows v.set (begin_at (core_of v x c (run 0)) memory) run' n) × Claims (core_of v x c (run 0)) (pipe_of own x run) run' memory n f

abbrev pub JoinedFollows : Type 0
JoinedFollows =
    (v : CoreTerms) (part : ℕ → Part) (x : Services) → AreJoined v part x → IsPlanned v x
    → (c : Chosen x) × StartsWell part x c × RunsFollow v part x c
