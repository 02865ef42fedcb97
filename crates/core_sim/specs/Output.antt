-- The output of a machine run: its host text, the exit that it asks for, and the lines of its events.
use Rattle.std.specs.Prelude.{◌≡◌, ℕ, suc, ◌<◌, ◌≤◌, Bool, true, false, cond, List, [], ◌∷◌, ◌++◌, Option, None, option_to_list}
use Rattle.core_ports.specs.Trace.{Trace, has_event}
use Rattle.bus_law.specs.Memory.{Store}
use Rattle.isa_model.specs.Machine.{Set, Machine, Event, shown}
use Rattle.isa_model.specs.Machine.Event.{Retire, Trap, Interrupt}
use Rattle.isa_model.specs.Step.{Done}
use Rattle.isa_model.specs.Run.{History}
use Rattle.isa_follow.specs.Follows.{Follows}
use Rattle.core_sim.specs.Ends.{code_in, cycles_of, end_of, exit_in, lines_before, text_before}
use Rattle.core_sim.specs.Lines.{event_line}
use Rattle.core_sim.specs.Window.{exit_code, host_bytes, or_code}

-- ---- of a step

abbrev pub is_retirement : Event → Bool
is_retirement (Retire pc word rd value) = true
is_retirement (Trap pc word cause stops) = false
is_retirement (Interrupt pc cause) = false

-- the store that an instruction retires with, if it has one
abbrev pub retired_store : Done → List Store
retired_store done = cond (is_retirement done.event) (option_to_list done.write) []

-- the code of the exit that a step asks for, if it asks for one
abbrev pub exit_by : Done → Option ℕ
exit_by done = exit_code (retired_store done)

-- ---- of a run, by its steps, the latest first

abbrev pub host_text : History → List ℕ
host_text [] = []
host_text (e ∷ past) = host_text past ++ host_bytes (retired_store e.done)

abbrev pub machine_lines : History → List ℕ
machine_lines [] = []
machine_lines (e ∷ past) = machine_lines past ++ event_line (shown e.done.event)

-- the code of the first exit that a step asks for
abbrev pub exit_of : History → Option ℕ
exit_of [] = None
exit_of (e ∷ past) = or_code (exit_of past) (exit_by e.done)

-- the code of the exit that the last step asks for
abbrev pub last_exit : History → Option ℕ
last_exit [] = None
last_exit (e ∷ past) = exit_by e.done

-- its lines where they are wanted, and else its host text
abbrev pub output_of : (trace : Bool) → History → List ℕ
output_of true past = machine_lines past
output_of false past = host_text past

-- ---- of a run on ports that follows the machine

-- What such a run shows in its first cycles is the output of the machine run that it follows: before each cycle the same text and
-- the same lines; in each cycle an exit exactly where that cycle's step asks for it, with its code; and the run ends by an exit
-- exactly where the machine run asks for one, with the code of the first.
pub record Agrees {s : Set} {start : Machine} {run : Trace} {n : ℕ} (f : Follows s start run n) : Type 0 where
  pub text : (k : ℕ) → k ≤ n → text_before run k ≡ host_text (f.history k)
  pub lines : (k : ℕ) → k ≤ n → lines_before run k ≡ machine_lines (f.history k)
  pub exits : (k : ℕ) → k < n → exit_in run k ≡ cond (has_event run k) (last_exit (f.history (suc k))) None
  pub end : (cycles : ℕ) → cycles_of (end_of run cycles) ≤ n → code_in (end_of run cycles) ≡ exit_of (f.history (cycles_of (end_of run cycles)))
