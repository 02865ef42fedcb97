-- What the parts of a call answer: the configuration read, the image loaded, the run simulated.
use Rattle.std.specs.Prelude.{◌≡◌, ◌⊎◌, ◌≤◌, ℕ, List, [], ◌∷◌, length, Option, Some, Err}
use Rattle.core_host.specs.Outside.{Files, Rose, Appends, IsCut, IsMissing, SameButOne}
use Rattle.bus_law.specs.Memory.{Memory}
use Rattle.stage_map.specs.declared.config.MemShape.{MemShape}
use Rattle.stage_map.specs.declared.config.Config.{Config}
use Rattle.verilog_tree.specs.declared.tree.Tree.{Tree}
use Rattle.verilog_tree.specs.Module.{Reads}
use Rattle.verilog_mean.specs.Plain.{Plain}
use Rattle.verilog_mean.specs.Sound.{IsSound}
use Rattle.core_sim.specs.declared.ended.Ended.{Ended}
use Rattle.core_sim.specs.declared.ended.Ended.TheVariants as run_end
use Rattle.core_sim.specs.Ends.{end_of, run_text}
use Rattle.core_tool.specs.declared.ends.CallEnd.{CallEnd}
use Rattle.core_tool.specs.declared.ends.CallEnd.TheVariants.{Refused, RulesRefused, BadFile, BadImage, OutOfMemory, Unwritten, Exited, CyclesEnded, Stopped}
use Rattle.core_tool.specs.declared.options.Options.{Options}
use Rattle.core_config.specs.declared.refusal.ConfigRefusal.{ConfigRefusal}
use Rattle.core_config.specs.Config.{config_of}
use Rattle.core_tool.specs.Lines.{refusal_line}
use Rattle.core_tool.specs.Call.{Boxes}
use Rattle.core_tool.specs.Boxes.{HaveTakenBefore, HaveTakenSome, Refuse}
use Rattle.core_tool.specs.Files.{IsFile, PulledUnlessFault, image_fault}
use Rattle.core_tool.specs.CoreRun.{IsOverRun, memory_of, run_with}

-- the file of that name is not read
abbrev pub IsUnreadFile : (name : List ℕ) → Option Files → (before now : ℕ) → Type 0
IsUnreadFile name files before now = Rose before now ⊎ IsMissing name files

-- nothing was pulled of the opened files, or at most so many bytes of that one
abbrev pub PulledOne : (most : ℕ) → (name : List ℕ) → Option Files → (old new : ℕ → List ℕ) → (before now : ℕ) → Type 0
PulledOne most name files old new before now = ((m : ℕ) → new m ≡ old m)
    ⊎ ((n : ℕ) × SameButOne n old new × PulledUnlessFault most name files (new n) before now)

-- ---- the configuration

-- P holds of the bytes of the file of that name
abbrev pub ForBytes : (name : List ℕ) → Option Files → (P : List ℕ → Type 0) → Type 0
ForBytes name files P = (bytes : List ℕ) × IsFile name files bytes × P bytes

-- bytes are refused with the line of this refusal; how many too long ones are is not told
abbrev pub IsRefusedWith : ConfigRefusal → List ℕ → Type 0
IsRefusedWith refusal bytes = (first : ConfigRefusal) × (config_of bytes ≡ Err first) × (refusal_line first ≡ refusal_line refusal)

-- the end of a call whose configuration is not read or refused
abbrev pub IsConfigEnd : (name : List ℕ) → Option Files → (before now : ℕ) → CallEnd → Type 0
IsConfigEnd name files before now (Refused refusal) = ForBytes name files (IsRefusedWith refusal)
IsConfigEnd name files before now BadFile = IsUnreadFile name files before now
IsConfigEnd name files before now OutOfMemory = Unit {0}
IsConfigEnd name files before now other = ⊥

-- ---- the rules

-- the end of a call whose configuration is not accepted, and what becomes of the boxes
abbrev pub IsJudged : {B : Type 0} → Boxes B → Config → CallEnd → Type 0
IsJudged boxes config (RulesRefused refusal) = Refuse boxes config refusal × HaveTakenBefore boxes config refusal
IsJudged boxes config OutOfMemory = HaveTakenSome boxes config
IsJudged boxes config other = ⊥

-- ---- the core

-- the text is short enough to be read, and its tree is this one, which is sound
pub record IsLoadable (text : List ℕ) (t : Tree) : Type 0 where
  pub short : length text ≤ 16777216
  pub reads : Reads text t
  pub sound : IsSound t

-- ---- the image

-- the memory, of this shape, holds the image of that name
pub record IsLoaded (name : List ℕ) (files : Option Files) (mem : MemShape) (m : Memory) : Type 0 where
  pub image : List ℕ
  pub file : IsFile name files image
  pub fits : length image ≤ mem.size
  pub loaded : m ≡ memory_of mem image

-- the end of a call whose image is not read or refused
abbrev pub IsImageEnd : (name : List ℕ) → Option Files → MemShape → (before now : ℕ) → CallEnd → Type 0
IsImageEnd name files mem before now (BadImage fault) = ForBytes name files (λ bytes. image_fault mem bytes ≡ Some fault)
IsImageEnd name files mem before now BadFile = IsUnreadFile name files before now
IsImageEnd name files mem before now OutOfMemory = Unit {0}
IsImageEnd name files mem before now other = ⊥

-- ---- the run

-- a run of a tree ended so, and its text is pushed whole
pub record IsRunOf (t : Plain) (m : Memory) (options : Options) (main main' : Option (List ℕ)) (ended : Ended) : Type 0 where
  pub ends : ended ≡ end_of (run_with t m options) options.cycles
  pub text : Appends main (run_text options.trace (run_with t m options) options.cycles) main'
  pub over : IsOverRun t m options

-- the text of a run of a tree is cut off by a failed push
pub record IsCutRunOf (t : Plain) (m : Memory) (options : Options) (main main' : Option (List ℕ)) (before now : ℕ) : Type 0 where
  pub text : IsCut main (run_text options.trace (run_with t m options) options.cycles) main'
  pub over : IsOverRun t m options
  pub rose : Rose before now

-- the end of a call that ran a tree over a memory
abbrev pub IsSimulated : Plain → Memory → Options → (main main' : Option (List ℕ)) → (before now : ℕ) → CallEnd → Type 0
IsSimulated t m options main main' before now OutOfMemory = main' ≡ main
IsSimulated t m options main main' before now Unwritten = IsCutRunOf t m options main main' before now
IsSimulated t m options main main' before now (Exited code events cycles) = IsRunOf t m options main main' (run_end.Exit code events cycles)
IsSimulated t m options main main' before now (CyclesEnded events cycles) = IsRunOf t m options main main' (run_end.CyclesEnded events cycles)
IsSimulated t m options main main' before now (Stopped cause pc events cycles) = IsRunOf t m options main main' (run_end.Stopped cause pc events cycles)
IsSimulated t m options main main' before now other = ⊥
