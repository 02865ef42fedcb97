-- The lines on the port Notes, but for those on rules.
use Rattle.std.specs.Prelude.{◌++◌, ◌%◌, ℕ, nat_lt, List, [], Option, Some, None, codes, decimal, if◌then◌else◌}
use Rattle.verilog_tree.specs.Hex.{hex8}
use Rattle.core_config.specs.declared.refusal.Want.{Want}
use Rattle.core_config.specs.declared.refusal.Want.TheVariants as want
use Rattle.core_config.specs.declared.refusal.KeyPath.{KeyPath}
use Rattle.core_config.specs.declared.refusal.ConfigRefusal.{ConfigRefusal}
use Rattle.core_config.specs.declared.refusal.ConfigRefusal.TheVariants as config
use Rattle.core_tool.specs.declared.ends.ImageFault.{ImageFault}
use Rattle.core_tool.specs.declared.ends.ImageFault.TheVariants as image

-- what is wanted of a key, and the end of its line
abbrev pub want_ending : Want → List ℕ
want_ending want.Integer = codes " want=integer\n"
want_ending want.Text = codes " want=text\n"
want_ending want.Table = codes " want=table\n"
want_ending want.Tables = codes " want=tables\n"
want_ending want.Scalar = codes " want=scalar\n"
want_ending want.NoKey = codes " want=nokey\n"

-- what stands before a key of the entry with this number, or else of the text
abbrev pub entry_text : Option ℕ → List ℕ
entry_text None = []
entry_text (Some number) = codes "plugin." ++ (decimal number ++ codes ".")

-- a key, and what follows it in its line
abbrev pub key_line : KeyPath → List ℕ → List ℕ
key_line path ending = entry_text path.entry ++ (path.key ++ ending)

-- the line on a refused configuration
abbrev pub refusal_line : ConfigRefusal → List ℕ
refusal_line (config.TooLong len) = codes "config long\n"
refusal_line config.Text = codes "config text\n"
refusal_line (config.Shape key want) = codes "config shape key=" ++ key_line key (want_ending want)
refusal_line (config.Range key found) = codes "config range key=" ++ key_line key (codes "\n")
-- a lack of memory is no refusal
refusal_line config.NoMemory = []

-- an address of eight digits, or 2 ^ 32, which has nine
abbrev pub address_text : ℕ → List ℕ
address_text addr = (if nat_lt addr 4294967296 then [] else codes "1") ++ hex8 (addr % 4294967296)

-- the line on a refused image
abbrev pub image_line : ImageFault → List ℕ
image_line image.TooLong = codes "image long\n"
image_line (image.Outside addr) = codes "image outside addr=" ++ (address_text addr ++ codes "\n")

-- the line of a run that its program ended
abbrev pub exit_line : (code events cycles : ℕ) → List ℕ
exit_line code events cycles = codes "exit code=" ++ (hex8 code ++ (codes " events=" ++ (decimal events ++ (codes " cycles=" ++ (decimal cycles ++ codes "\n")))))

-- the line of a run whose cycles have passed
abbrev pub cycles_line : (events cycles : ℕ) → List ℕ
cycles_line events cycles = codes "cycles " ++ (decimal cycles ++ (codes " events=" ++ (decimal events ++ codes "\n")))

-- the line of a run that a trap stopped
abbrev pub stopped_line : (cause pc events cycles : ℕ) → List ℕ
stopped_line cause pc events cycles = codes "stopped cause=" ++ (hex8 cause ++ (codes " pc=" ++ (hex8 pc ++
    (codes " events=" ++ (decimal events ++ (codes " cycles=" ++ (decimal cycles ++ codes "\n")))))))
