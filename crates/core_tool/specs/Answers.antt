-- The answers of a call, one for each status: what has happened where a call ends with it (`Is..`), and where a call must end with
-- it, failed pushes and want of memory aside (`MustBe..`). `line` is what the end has on the port Notes. Where an answer says
-- nothing of the boxes, `Passes` does: what the rules leave, or, in a command that tries none, what was there.
use Rattle.std.specs.Prelude.{◌≡◌, ◌⊎◌, ◌≤◌, ℕ, List, [], length, Option, Some, None, Err, IsErr, codes}
use Rattle.core_host.specs.Outside.{Appends, IsCut}
use Rattle.stage_map.specs.declared.config.Config.{Config}
use Rattle.core_config.specs.declared.refusal.ConfigRefusal.{ConfigRefusal}
use Rattle.core_config.specs.Config.{config_of}
use Rattle.plug_api.specs.declared.refusal.RuleRefusal.{RuleRefusal}
use Rattle.core_sim.specs.declared.ended.Ended.TheVariants as run_end
use Rattle.core_tool.specs.declared.ends.ImageFault.{ImageFault}
use Rattle.core_tool.specs.declared.status.Status.{Status}
use Rattle.core_tool.specs.declared.status.Status.TheVariants as status
use Rattle.core_tool.specs.Words.{Form, Gen, Run, Rules}
use Rattle.core_tool.specs.Call.{Seen, ReadFailed, WriteFailed}
use Rattle.core_tool.specs.Boxes.{AreUntouched, HaveTakenBefore, HaveTakenSome, KeepKinds, Refuse, RulesHold, TriesRules}
use Rattle.core_tool.specs.Files.{ForConfig, ForImage, Gives, HoldsConfig, HoldsImage, MissesConfig, MissesImage, Passes, SaysConfig, config_name, image_fault, image_name}
use Rattle.core_tool.specs.Texts.{IsDoneText, IsRunTextFor, MayBeText}
use Rattle.core_tool.specs.RuleLines.{rule_line}
use Rattle.core_tool.specs.Lines.{cycles_line, image_line, refusal_line, stopped_line}

-- nothing was pushed on Main
abbrev pub HasNoText : {B : Type 0} → Seen B → Type 0
HasNoText seen = seen.new.main ≡ seen.old.main

-- ---- 0

-- the text that the words ask for is on Main; of a run it is there where its program ended it, and only then there is a line
pub record IsDone {B : Type 0} (seen : Seen B) (line : List ℕ) : Type 0 where
  pub text : List ℕ
  pub is_text : IsDoneText seen.call.form seen.call text line
  pub main : Appends seen.old.main text seen.new.main

-- the words ask for a text that is no run's
abbrev pub AsksForText : Option Form → Type 0
AsksForText None = ⊥
AsksForText (Some (Gen name)) = Unit {0}
AsksForText (Some (Run config image options)) = ⊥
AsksForText (Some (Rules name)) = Unit {0}

-- the configuration is held and keeps the rules
pub record MustBeDone {B : Type 0} (seen : Seen B) : Type 0 where
  pub asks : AsksForText seen.call.form
  pub config : Config
  pub says : SaysConfig seen.call config
  pub rules : RulesHold seen.call.form seen.call.boxes config
  pub calm : ¬ (ReadFailed seen)

-- ---- 2

-- the words are no call
pub record IsUsage {B : Type 0} (seen : Seen B) (line : List ℕ) : Type 0 where
  pub no_form : seen.call.form ≡ None
  pub main : HasNoText seen
  pub is_line : line ≡ codes "usage\n"
  pub boxes : AreUntouched seen.call.boxes

abbrev pub MustBeUsage : {B : Type 0} → Seen B → Type 0
MustBeUsage seen = seen.call.form ≡ None

-- ---- 3

-- the configuration is refused, for the first fault of its bytes
pub record IsConfigRefused {B : Type 0} (seen : Seen B) (line : List ℕ) : Type 0 where
  pub refusal : ConfigRefusal
  pub refused : ForConfig seen.call (λ bytes. config_of bytes ≡ Err refusal)
  pub main : HasNoText seen
  pub is_line : line ≡ refusal_line refusal
  pub boxes : AreUntouched seen.call.boxes

-- the configuration is held, and its bytes have a fault
pub record MustBeConfigRefused {B : Type 0} (seen : Seen B) : Type 0 where
  pub bytes : List ℕ
  pub held : HoldsConfig seen.call bytes
  pub refused : IsErr (config_of bytes)
  pub calm : ¬ (ReadFailed seen)

-- ---- 4

-- the command tries the rules of acceptance, and of those this fails first
pub record IsRulesRefused {B : Type 0} (seen : Seen B) (line : List ℕ) : Type 0 where
  pub tries : TriesRules seen.call.form
  pub config : Config
  pub gives : Gives seen.call config
  pub refusal : RuleRefusal
  pub refused : Refuse seen.call.boxes config refusal
  pub main : HasNoText seen
  pub is_line : line ≡ rule_line refusal
  pub boxes : HaveTakenBefore seen.call.boxes config refusal

-- the configuration is held, and a rule that the command tries fails
pub record MustBeRulesRefused {B : Type 0} (seen : Seen B) : Type 0 where
  pub tries : TriesRules seen.call.form
  pub config : Config
  pub says : SaysConfig seen.call config
  pub refusal : RuleRefusal
  pub refused : Refuse seen.call.boxes config refusal
  pub calm : ¬ (ReadFailed seen)

-- ---- 5

-- the image is refused
pub record IsImageRefused {B : Type 0} (seen : Seen B) (line : List ℕ) : Type 0 where
  pub config : Config
  pub passes : Passes seen.call config
  pub fault : ImageFault
  pub refused : ForImage seen.call (λ bytes. image_fault config.mem bytes ≡ Some fault)
  pub main : HasNoText seen
  pub is_line : line ≡ image_line fault

-- the configuration is held and keeps the rules, and the image is held and none for its memory
pub record MustBeImageRefused {B : Type 0} (seen : Seen B) : Type 0 where
  pub config : Config
  pub says : SaysConfig seen.call config
  pub rules : RulesHold seen.call.form seen.call.boxes config
  pub image : List ℕ
  pub held : HoldsImage seen.call image
  pub fault : ImageFault
  pub refused : image_fault config.mem image ≡ Some fault
  pub calm : ¬ (ReadFailed seen)

-- ---- 6

-- the configuration is not read: a fault of reading came, or none of its name is held
pub record IsConfigUnread {B : Type 0} (seen : Seen B) : Type 0 where
  pub name : List ℕ
  pub is_name : config_name seen.call.form ≡ Some name
  pub cause : ReadFailed seen ⊎ MissesConfig seen.call
  pub boxes : AreUntouched seen.call.boxes

-- the configuration is read, and the image is not
pub record IsImageUnread {B : Type 0} (seen : Seen B) : Type 0 where
  pub config : Config
  pub passes : Passes seen.call config
  pub name : List ℕ
  pub is_name : image_name seen.call.form ≡ Some name
  pub cause : ReadFailed seen ⊎ MissesImage seen.call

-- a file that the words name is not read
pub record IsReadFault {B : Type 0} (seen : Seen B) (line : List ℕ) : Type 0 where
  pub unread : IsConfigUnread seen ⊎ IsImageUnread seen
  pub main : HasNoText seen
  pub is_line : line ≡ codes "read fault\n"

-- the configuration is held and keeps the rules, and no image of the name is held
pub record IsImageMissing {B : Type 0} (seen : Seen B) : Type 0 where
  pub config : Config
  pub says : SaysConfig seen.call config
  pub rules : RulesHold seen.call.form seen.call.boxes config
  pub missing : MissesImage seen.call

-- no configuration of the name is held, or behind it no image
abbrev pub MustBeReadFault : {B : Type 0} → Seen B → Type 0
MustBeReadFault seen = MissesConfig seen.call ⊎ IsImageMissing seen

-- ---- 8

-- memory is wanting
pub record IsNoMemory {B : Type 0} (seen : Seen B) (line : List ℕ) : Type 0 where
  pub main : HasNoText seen
  pub is_line : line ≡ codes "no memory\n"
  pub boxes : AreUntouched seen.call.boxes
      ⊎ (TriesRules seen.call.form × ((config : Config) × Gives seen.call config × HaveTakenSome seen.call.boxes config))

-- ---- 9 and 11

-- as many cycles passed as the run was to have, no exit came and no trap stopped the core; the text of the run is on Main
pub record IsCyclesEnded {B : Type 0} (seen : Seen B) (line : List ℕ) : Type 0 where
  pub events : ℕ
  pub cycles : ℕ
  pub text : List ℕ
  pub run : IsRunTextFor seen.call.form seen.call (run_end.CyclesEnded events cycles) text
  pub main : Appends seen.old.main text seen.new.main
  pub is_line : line ≡ cycles_line events cycles

-- a trap stopped the core; the text of the run is on Main
pub record IsStopped {B : Type 0} (seen : Seen B) (line : List ℕ) : Type 0 where
  pub cause : ℕ
  pub pc : ℕ
  pub events : ℕ
  pub cycles : ℕ
  pub text : List ℕ
  pub run : IsRunTextFor seen.call.form seen.call (run_end.Stopped cause pc events cycles) text
  pub main : Appends seen.old.main text seen.new.main
  pub is_line : line ≡ stopped_line cause pc events cycles

-- the configuration is held and keeps the rules, and the image is held and fits
pub record MustRun {B : Type 0} (seen : Seen B) : Type 0 where
  pub config : Config
  pub says : SaysConfig seen.call config
  pub rules : RulesHold seen.call.form seen.call.boxes config
  pub image : List ℕ
  pub held : HoldsImage seen.call image
  pub fits : length image ≤ config.mem.size
  pub calm : ¬ (ReadFailed seen)

-- ---- 7

-- a push of the text failed: Main has a proper prefix of it, and there is no line
pub record IsTextCut {B : Type 0} (seen : Seen B) (line : List ℕ) : Type 0 where
  pub text : List ℕ
  pub may_be : MayBeText seen.call text
  pub main : IsCut seen.old.main text seen.new.main
  pub is_line : line ≡ []
  pub failed : WriteFailed seen

-- what has happened, by the status
abbrev pub HasEnded : {B : Type 0} → Status → Seen B → (line : List ℕ) → Type 0
HasEnded status.Done seen line = IsDone seen line
HasEnded status.Usage seen line = IsUsage seen line
HasEnded status.ConfigRefused seen line = IsConfigRefused seen line
HasEnded status.RulesRefused seen line = IsRulesRefused seen line
HasEnded status.ImageRefused seen line = IsImageRefused seen line
HasEnded status.ReadFault seen line = IsReadFault seen line
HasEnded status.WriteFault seen line = IsTextCut seen line
HasEnded status.NoMemory seen line = IsNoMemory seen line
HasEnded status.CyclesEnded seen line = IsCyclesEnded seen line
HasEnded status.ModuleRefused seen line = ⊥
HasEnded status.Stopped seen line = IsStopped seen line

-- a push of the line failed: what has happened is what another answer says, but Notes has a proper prefix of its line
pub record IsLineCut {B : Type 0} (seen : Seen B) : Type 0 where
  pub end : Status
  pub line : List ℕ
  pub ended : HasEnded end seen line
  pub notes : IsCut seen.old.notes line seen.new.notes
  pub failed : WriteFailed seen

-- ---- the answers in the contract

-- this has happened, and its line is on Notes
pub record IsNoted {B : Type 0} (ended : Seen B → (line : List ℕ) → Type 0) (seen : Seen B) : Type 0 where
  pub line : List ℕ
  pub happened : ended seen line
  pub notes : Appends seen.old.notes line seen.new.notes

-- a push failed or memory is wanting
abbrev pub IsCutOff : (result : Status) → Type 0
IsCutOff result = (result ≡ status.WriteFault) ⊎ (result ≡ status.NoMemory)

-- a call ends with this status only where `ended` holds and the line is on Notes; and where `must` holds it ends with it, failed
-- pushes and want of memory aside
pub record Exactly {B : Type 0} (wanted result : Status) (must : Seen B → Type 0) (ended : Seen B → (line : List ℕ) → Type 0) (seen : Seen B) : Type 0 where
  pub only : result ≡ wanted → IsNoted ended seen
  pub always : must seen → (result ≡ wanted) ⊎ IsCutOff result

-- 7
abbrev pub IsWriteFault : {B : Type 0} → Seen B → Type 0
IsWriteFault seen = IsNoted IsTextCut seen ⊎ IsLineCut seen

-- 0, 9 or 11, failed pushes and want of memory aside
abbrev pub EndsByRun : (result : Status) → Type 0
EndsByRun result = (result ≡ status.Done) ⊎ (result ≡ status.CyclesEnded) ⊎ (result ≡ status.Stopped) ⊎ IsCutOff result

-- what a status says has happened, and its line is on Notes, or in its place a line that was to come is cut off
abbrev pub IsAnswered : {B : Type 0} → Status → Seen B → Type 0
IsAnswered result seen = IsNoted (HasEnded result) seen ⊎ ((result ≡ status.WriteFault) × IsLineCut seen)

-- ---- what each call keeps

-- the files stay, counts of faults never fall, and what is told of a box before it takes an entry stays
pub record Keeps {B : Type 0} (seen : Seen B) : Type 0 where
  pub files : seen.new.files ≡ seen.old.files
  pub reads : seen.old.read_faults ≤ seen.new.read_faults
  pub writes : seen.old.write_faults ≤ seen.new.write_faults
  pub kinds : KeepKinds seen.call.boxes

-- ---- all answers at once, for laws

pub record AreAnswers {B : Type 0} (result : Status) (seen : Seen B) : Type 0 where
  pub done : Exactly status.Done result MustBeDone IsDone seen
  pub usage : Exactly status.Usage result MustBeUsage IsUsage seen
  pub config_refused : Exactly status.ConfigRefused result MustBeConfigRefused IsConfigRefused seen
  pub rules_refused : Exactly status.RulesRefused result MustBeRulesRefused IsRulesRefused seen
  pub image_refused : Exactly status.ImageRefused result MustBeImageRefused IsImageRefused seen
  pub read_fault : Exactly status.ReadFault result MustBeReadFault IsReadFault seen
  pub write_fault : result ≡ status.WriteFault → IsWriteFault seen
  pub no_memory : result ≡ status.NoMemory → IsNoted IsNoMemory seen
  pub cycles_ended : result ≡ status.CyclesEnded → IsNoted IsCyclesEnded seen
  pub module_refused : ¬ (result ≡ status.ModuleRefused)
  pub stopped : result ≡ status.Stopped → IsNoted IsStopped seen
  pub runs : MustRun seen → EndsByRun result
