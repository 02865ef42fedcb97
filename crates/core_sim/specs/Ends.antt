-- Where a run ends, and the text that it gives: the host text, or the lines of its events, in order.
use Rattle.std.specs.Prelude.{ℕ, zero, suc, ◌+◌, Bool, true, false, cond, eqb, ◌&&◌, List, [], ◌∷◌, ◌++◌, Option, Some, None}
use Rattle.core_words.specs.Values.{one_if}
use Rattle.core_ports.specs.Ports.{ev_kind, ev_pc, ev_cause}
use Rattle.core_ports.specs.Trace.{Trace, on_port, port_event, has_event, data_bus}
use Rattle.bus_law.specs.Memory.{Store}
use Rattle.bus_law.specs.Protocol.{is_write}
use Rattle.bus_law.specs.Prompt.{store_at}
use Rattle.core_sim.specs.declared.ended.Ended.{Ended}
use Rattle.core_sim.specs.declared.ended.Ended.TheVariants.{Exit, Stopped, CyclesEnded}
use Rattle.core_sim.specs.Lines.{event_line}
use Rattle.core_sim.specs.Window.{host_bytes, exit_code}

-- ---- events

-- how many events the cycles before one have
unfoldable pub events_before : Trace → (cycle : ℕ) → ℕ
events_before run zero = 0
events_before run (suc k) = events_before run k + one_if (has_event run k)

-- the line of a cycle's event, nothing where there is none
abbrev pub line_in : Trace → (cycle : ℕ) → List ℕ
line_in run k = cond (has_event run k) (event_line (port_event run k)) []

-- the lines of the cycles before one
unfoldable pub lines_before : Trace → (cycle : ℕ) → List ℕ
lines_before run zero = []
lines_before run (suc k) = lines_before run k ++ line_in run k

-- a cycle has an event that stops the core
abbrev pub stops_in : Trace → (cycle : ℕ) → Bool
stops_in run k = has_event run k && eqb (on_port run ev_kind k) 3

-- an instruction retires in a cycle
abbrev pub retires_in : Trace → (cycle : ℕ) → Bool
retires_in run k = has_event run k && eqb (on_port run ev_kind k) 0

-- ---- the host text and the exit

-- the write that the data bus accepts in a cycle, if it accepts one
abbrev pub accepted_in : Trace → (cycle : ℕ) → List Store
accepted_in run k = cond (is_write (data_bus run) k) (store_at (data_bus run) k ∷ []) []

-- The writes that no retirement has settled as a cycle begins, the latest first: those accepted in the cycle of the last
-- retirement or later. A retirement settles all that were accepted before its cycle.
unfoldable pub unsettled : Trace → (cycle : ℕ) → List Store
unsettled run zero = []
unsettled run (suc k) = accepted_in run k ++ cond (retires_in run k) [] (unsettled run k)

-- what a cycle adds to the host text: at a retirement the bytes of the writes that it settles
abbrev pub text_in : Trace → (cycle : ℕ) → List ℕ
text_in run k = cond (retires_in run k) (host_bytes (unsettled run k)) []

-- the code of the exit that comes in a cycle, if one comes: at a retirement that of the writes that it settles
abbrev pub exit_in : Trace → (cycle : ℕ) → Option ℕ
exit_in run k = cond (retires_in run k) (exit_code (unsettled run k)) None

-- the host text of the cycles before one
unfoldable pub text_before : Trace → (cycle : ℕ) → List ℕ
text_before run zero = []
text_before run (suc k) = text_before run k ++ text_in run k

-- ---- the end

-- the end of a run in cycle k: by an exit, by an event that stops the core, or else a later one
abbrev pub ended_in : (exit : Option ℕ) → Trace → (k : ℕ) → (later : Ended) → Ended
ended_in (Some code) run k later = Exit code (events_before run (suc k)) (suc k)
ended_in None run k later = cond (stops_in run k) (Stopped (on_port run ev_cause k) (on_port run ev_pc k) (events_before run (suc k)) (suc k)) later

-- the end of a run that goes on in cycle k for as many cycles as are left
unfoldable pub end_from : Trace → (k left : ℕ) → Ended
end_from run k zero = CyclesEnded (events_before run k) k
end_from run k (suc left) = ended_in (exit_in run k) run k (end_from run (suc k) left)

-- The end of a run: the first exit or event that stops the core, in one of so many cycles, or else the last of them.
abbrev pub end_of : Trace → (cycles : ℕ) → Ended
end_of run cycles = end_from run 0 cycles

-- how many cycles a run had, that of its end with them
abbrev pub cycles_of : Ended → ℕ
cycles_of (Exit code events cycles) = cycles
cycles_of (Stopped cause pc events cycles) = cycles
cycles_of (CyclesEnded events cycles) = cycles

-- the code of an exit, none where the run ended otherwise
abbrev pub code_in : Ended → Option ℕ
code_in (Exit code events cycles) = Some code
code_in (Stopped cause pc events cycles) = None
code_in (CyclesEnded events cycles) = None

-- the text of a run: its lines where they are wanted, and else its host text
abbrev pub run_text : (trace : Bool) → Trace → (cycles : ℕ) → List ℕ
run_text true run cycles = lines_before run (cycles_of (end_of run cycles))
run_text false run cycles = text_before run (cycles_of (end_of run cycles))
