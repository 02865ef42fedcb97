-- The files that the words of a call name: which they are, what they say, whether they are held, and how much of them was pulled.
use Rattle.std.specs.Prelude.{◌≡◌, ◌⊎◌, ◌+◌, ℕ, nat_lt, List, length, Option, Some, None, Ok, if◌then◌else◌}
use Rattle.core_host.specs.Outside.{Files, Rose, IsMissing, SameButOne, PulledAtMost, held}
use Rattle.stage_map.specs.declared.config.MemShape.{MemShape}
use Rattle.stage_map.specs.declared.config.Config.{Config}
use Rattle.core_config.specs.Allowed.{IsConfig}
use Rattle.core_config.specs.Config.{config_of}
use Rattle.core_tool.specs.declared.ends.ImageFault.{ImageFault}
use Rattle.core_tool.specs.declared.ends.ImageFault.TheVariants.{TooLong, Outside}
use Rattle.core_tool.specs.Words.{Form, Gen, Run, Rules}
use Rattle.core_tool.specs.Call.{Call, Seen}
use Rattle.core_tool.specs.Boxes.{HavePassed, RulesHold}

-- ---- which they are

-- the name of the configuration
abbrev pub config_name : Option Form → Option (List ℕ)
config_name None = None
config_name (Some (Gen name)) = Some name
config_name (Some (Run config image options)) = Some config
config_name (Some (Rules name)) = Some name

-- the name of the image
abbrev pub image_name : Option Form → Option (List ℕ)
image_name None = None
image_name (Some (Gen name)) = None
image_name (Some (Run config image options)) = Some image
image_name (Some (Rules name)) = None

-- ---- a file by its name

-- where the files are told, the file of that name has these bytes
abbrev pub IsFile : (name : List ℕ) → Option Files → List ℕ → Type 0
IsFile name None bytes = Unit {0}
IsFile name (Some files) bytes = held name files ≡ Some bytes

-- there is a name, and P holds of the bytes of its file; where the files are told, they are those of the file of that name
pub record ForFile (named : Option (List ℕ)) (files : Option Files) (P : List ℕ → Type 0) : Type 0 where
  pub name : List ℕ
  pub is_name : named ≡ Some name
  pub bytes : List ℕ
  pub file : IsFile name files bytes
  pub fact : P bytes

-- there is a name, the files are told, and the file of that name has these bytes
abbrev pub HoldsFile : (named : Option (List ℕ)) → Option Files → (bytes : List ℕ) → Type 0
HoldsFile named None bytes = ⊥
HoldsFile named (Some files) bytes = (name : List ℕ) × (named ≡ Some name) × (held name files ≡ Some bytes)

-- there is a name, the files are told, and none of that name is held
abbrev pub MissesFile : (named : Option (List ℕ)) → Option Files → Type 0
MissesFile named files = (name : List ℕ) × (named ≡ Some name) × IsMissing name files

-- ---- the configuration and the image of a call

-- the words name a file, and P holds of the bytes of the configuration
abbrev pub ForConfig : {B : Type 0} → Call B → (P : List ℕ → Type 0) → Type 0
ForConfig call P = ForFile (config_name call.form) call.files P

-- the words name an image, and P holds of its bytes
abbrev pub ForImage : {B : Type 0} → Call B → (P : List ℕ → Type 0) → Type 0
ForImage call P = ForFile (image_name call.form) call.files P

-- the bytes of the configuration say this one
pub record Gives {B : Type 0} (call : Call B) (config : Config) : Type 0 where
  pub is_config : IsConfig config
  pub said : ForConfig call (λ bytes. config_of bytes ≡ Ok config)

-- the configuration is read, and the rules that the command tries hold of it; and the boxes are as the rules leave them
pub record Passes {B : Type 0} (call : Call B) (config : Config) : Type 0 where
  pub gives : Gives call config
  pub boxes : HavePassed call.form call.boxes config

-- the files are told, and the configuration has these bytes; none of its name is held
abbrev pub HoldsConfig : {B : Type 0} → Call B → (bytes : List ℕ) → Type 0
HoldsConfig call bytes = HoldsFile (config_name call.form) call.files bytes

abbrev pub MissesConfig : {B : Type 0} → Call B → Type 0
MissesConfig call = MissesFile (config_name call.form) call.files

-- the same of the image
abbrev pub HoldsImage : {B : Type 0} → Call B → (bytes : List ℕ) → Type 0
HoldsImage call bytes = HoldsFile (image_name call.form) call.files bytes

abbrev pub MissesImage : {B : Type 0} → Call B → Type 0
MissesImage call = MissesFile (image_name call.form) call.files

-- the files are told, and the bytes of the configuration that they hold say this one
pub record SaysConfig {B : Type 0} (call : Call B) (config : Config) : Type 0 where
  pub bytes : List ℕ
  pub held : HoldsConfig call bytes
  pub said : config_of bytes ≡ Ok config

-- Why an image is refused, if it is: an image has at most 67,108,864 bytes, and no more than memory has, behind which is the
-- address that is told.
unfoldable pub image_fault : MemShape → List ℕ → Option ImageFault
image_fault mem bytes = if nat_lt 67108864 (length bytes) then Some TooLong
    else (if nat_lt mem.size (length bytes) then Some (Outside (mem.base + mem.size)) else None)

-- ---- how much was pulled

-- at most so many bytes of the file of that name were pulled, or the count of faults of reading rose
abbrev pub PulledUnlessFault : (most : ℕ) → (name : List ℕ) → Option Files → (left : List ℕ) → (before now : ℕ) → Type 0
PulledUnlessFault most name files left before now = Rose before now ⊎ PulledAtMost most name files left

-- of the opened files at most these two have changed
abbrev pub SameButTwo : (n m : ℕ) → (old new : ℕ → List ℕ) → Type 0
SameButTwo n m old new = (k : ℕ) → ¬ (k ≡ n) → ¬ (k ≡ m) → new k ≡ old k

-- the configuration alone was pulled, at most one byte more than it may have
pub record PulledConfig {B : Type 0} (seen : Seen B) : Type 0 where
  pub name : List ℕ
  pub n : ℕ
  pub is_name : config_name seen.call.form ≡ Some name
  pub others : SameButOne n seen.old.left seen.new.left
  pub few : PulledUnlessFault 1048577 name seen.call.files (seen.new.left n) seen.old.read_faults seen.new.read_faults

-- the configuration, of which the rules that the command tries hold, and the image were pulled; they may be one file
pub record PulledBoth {B : Type 0} (seen : Seen B) : Type 0 where
  pub name : List ℕ
  pub image : List ℕ
  pub n : ℕ
  pub m : ℕ
  pub is_name : config_name seen.call.form ≡ Some name
  pub is_image : image_name seen.call.form ≡ Some image
  pub config : Config
  pub gives : Gives seen.call config
  pub rules : RulesHold seen.call.form seen.call.boxes config
  pub others : SameButTwo n m seen.old.left seen.new.left
  pub few : (n ≡ m) ⊎ PulledUnlessFault 1048577 name seen.call.files (seen.new.left n) seen.old.read_faults seen.new.read_faults
  pub few_of_image : PulledUnlessFault 67108865 image seen.call.files (seen.new.left m) seen.old.read_faults seen.new.read_faults

-- nothing was pulled of the opened files, or of those that the words name alone
abbrev pub Pulled : {B : Type 0} → Seen B → Type 0
Pulled seen = ((m : ℕ) → seen.new.left m ≡ seen.old.left m) ⊎ PulledConfig seen ⊎ PulledBoth seen
