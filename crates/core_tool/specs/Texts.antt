-- What a call writes on the port Main, by its command.
use Rattle.std.specs.Prelude.{◌≡◌, ◌⊎◌, ◌≤◌, ℕ, List, [], length, Option, Some, None, codes}
use Rattle.stage_map.specs.declared.config.Config.{Config}
use Rattle.core_sim.specs.declared.ended.Ended.{Ended}
use Rattle.core_sim.specs.declared.ended.Ended.TheVariants as run_end
use Rattle.core_tool.specs.declared.options.Options.{Options}
use Rattle.core_tool.specs.Words.{Form, Gen, Run, Rules}
use Rattle.core_tool.specs.Call.{Call}
use Rattle.core_tool.specs.Files.{IsFile, Passes}
use Rattle.core_tool.specs.CoreRun.{IsCoreText, IsCoreRun}
use Rattle.core_tool.specs.Lines.{exit_line}

-- the text is that of the core that the boxes build of the configuration
pub record IsGenText {B : Type 0} (call : Call B) (text : List ℕ) : Type 0 where
  pub config : Config
  pub passes : Passes call config
  pub core : IsCoreText call.boxes config text

-- the configuration is accepted, and the text says so
pub record IsRulesText {B : Type 0} (call : Call B) (text : List ℕ) : Type 0 where
  pub config : Config
  pub passes : Passes call config
  pub is_line : text ≡ codes "accepted\n"

-- the run of the core of the configuration over the image of this name ends so, and has this text
pub record IsRunText {B : Type 0} (call : Call B) (image : List ℕ) (options : Options) (ended : Ended) (text : List ℕ) : Type 0 where
  pub config : Config
  pub passes : Passes call config
  pub bytes : List ℕ
  pub file : IsFile image call.files bytes
  -- the image fits into the memory of the configuration
  pub fits : length bytes ≤ config.mem.size
  pub run : IsCoreRun call.boxes config bytes options ended text

-- such a run whose program ended it, and the line that says so
pub record IsExitText {B : Type 0} (call : Call B) (image : List ℕ) (options : Options) (text line : List ℕ) : Type 0 where
  pub code : ℕ
  pub events : ℕ
  pub cycles : ℕ
  pub run : IsRunText call image options (run_end.Exit code events cycles) text
  pub is_line : line ≡ exit_line code events cycles

-- the text of a call that asks for one and no run
abbrev pub IsTextFor : {B : Type 0} → Option Form → Call B → (text : List ℕ) → Type 0
IsTextFor None call text = ⊥
IsTextFor (Some (Gen name)) call text = IsGenText call text
IsTextFor (Some (Run config image options)) call text = ⊥
IsTextFor (Some (Rules name)) call text = IsRulesText call text

-- the text of a call whose run ends so
abbrev pub IsRunTextFor : {B : Type 0} → Option Form → Call B → Ended → (text : List ℕ) → Type 0
IsRunTextFor None call ended text = ⊥
IsRunTextFor (Some (Gen name)) call ended text = ⊥
IsRunTextFor (Some (Run config image options)) call ended text = IsRunText call image options ended text
IsRunTextFor (Some (Rules name)) call ended text = ⊥

-- the text of a call that is done, and its line: none, or for a run that of the exit by which it ended
abbrev pub IsDoneText : {B : Type 0} → Option Form → Call B → (text line : List ℕ) → Type 0
IsDoneText None call text line = ⊥
IsDoneText (Some (Gen name)) call text line = IsGenText call text × (line ≡ [])
IsDoneText (Some (Run config image options)) call text line = IsExitText call image options text line
IsDoneText (Some (Rules name)) call text line = IsRulesText call text × (line ≡ [])

-- the text of a call, however it ends
abbrev pub MayBeText : {B : Type 0} → Call B → (text : List ℕ) → Type 0
MayBeText call text = IsTextFor call.form call text ⊎ ((ended : Ended) × IsRunTextFor call.form call ended text)
