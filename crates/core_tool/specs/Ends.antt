-- The ends of the work of a call: the status and the line of each, and what has happened.
use Rattle.std.specs.Prelude.{◌≡◌, ◌⊎◌, ℕ, List, [], Option, codes}
use Rattle.core_host.specs.Outside.{Rose, Appends, IsCut}
use Rattle.core_tool.specs.declared.status.Status.{Status}
use Rattle.core_tool.specs.declared.status.Status.TheVariants as status
use Rattle.core_tool.specs.declared.ends.CallEnd.{CallEnd}
use Rattle.core_tool.specs.declared.ends.CallEnd.TheVariants.{Written, Accepted, BadWords, Refused, RulesRefused, BadFile, BadImage, OutOfMemory, Unwritten, Exited, CyclesEnded, Stopped}
use Rattle.core_tool.specs.Call.{Seen}
use Rattle.core_tool.specs.RuleLines.{rule_line}
use Rattle.core_tool.specs.Lines.{cycles_line, exit_line, image_line, refusal_line, stopped_line}
use Rattle.core_tool.specs.Answers.{HasEnded}

-- the status of a call that ends so, where its line is written
abbrev pub status_of : CallEnd → Status
status_of Written = status.Done
status_of Accepted = status.Done
status_of BadWords = status.Usage
status_of (Refused refusal) = status.ConfigRefused
status_of (RulesRefused refusal) = status.RulesRefused
status_of BadFile = status.ReadFault
status_of (BadImage fault) = status.ImageRefused
status_of OutOfMemory = status.NoMemory
status_of Unwritten = status.WriteFault
status_of (Exited code events cycles) = status.Done
status_of (CyclesEnded events cycles) = status.CyclesEnded
status_of (Stopped cause pc events cycles) = status.Stopped

-- the line of an end
abbrev pub line_of : CallEnd → List ℕ
line_of Written = []
line_of Accepted = []
line_of BadWords = codes "usage\n"
line_of (Refused refusal) = refusal_line refusal
line_of (RulesRefused refusal) = rule_line refusal
line_of BadFile = codes "read fault\n"
line_of (BadImage fault) = image_line fault
line_of OutOfMemory = codes "no memory\n"
line_of Unwritten = []
line_of (Exited code events cycles) = exit_line code events cycles
line_of (CyclesEnded events cycles) = cycles_line events cycles
line_of (Stopped cause pc events cycles) = stopped_line cause pc events cycles

-- what has happened where the work ends so
abbrev pub IsEnd : {B : Type 0} → Seen B → CallEnd → Type 0
IsEnd seen end = HasEnded (status_of end) seen (line_of end)

-- the line of the end is written and its status answered, or a failed push cut the line off
abbrev pub IsFinished : CallEnd → (result : Status) → (old new : Option (List ℕ)) → (before now : ℕ) → Type 0
IsFinished end result old new before now = ((result ≡ status_of end) × Appends old (line_of end) new)
    ⊎ ((result ≡ status.WriteFault) × IsCut old (line_of end) new × Rose before now)
