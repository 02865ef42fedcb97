-- Each event of a row is a done of the row's entry.
use Rattle.std.proofs.Common.{◌≡◌, ℕ, zero, suc, ◌<◌, ◌≤◌, true, false, refl, ◌∙◌, sym, arith, Some}
use Rattle.std.proofs.Math.Nat.{le_refl}
use Rattle.core_ports.specs.Trace.{Trace, data_bus, has_event, instruction_bus, port_event}
use Rattle.bus_law.specs.Honest.{Honest}
use Rattle.bus_law.specs.Memory.{IsMemory, Memory}
use Rattle.plug_law.specs.Pipeline.{Pipe, member}
use Rattle.pipe_law.proofs.Basics.{both}
use Rattle.pipe_law.proofs.Follow.{here}
use Rattle.pipe_law.proofs.Invariant.{Here}
use Rattle.pipe_law.proofs.Served.{given_item, interrupt_by, served_by}
use Rattle.pipe_law.specs.Serves.{IsDoneOf, IsGiven, IsServed, Serves}
use Rattle.pipe_law.proofs.Stage.{StageLaws, StageSteps}
use Rattle.pipe_law.specs.Core.{Core, IsCore}

module _ (core : Core) (p : Pipe) (run' : Trace) (memory : Memory) (n : ℕ)
    (is_core : IsCore core) (laws : StageLaws core p run' memory) (steps : StageSteps core.shape p run') (is_memory : IsMemory memory) (honest : Honest (instruction_bus run') (data_bus run') memory n) where
  abbrev at : (q : ℕ) → suc q < n → Here
  at q l = here core p run' memory n is_core laws steps is_memory honest q l

  -- each go has its taking
  gives : (entry k : ℕ) → k < n → member entry core.shape.entries ≡ true → (p.unit entry).go k ≡ true → 1 ≤ k
      → (j : ℕ) × IsGiven p.fetch p.decode p.hazard (p.unit entry) entry k j
  gives entry zero l a g o = absurd (omega arith)
  gives entry (suc q) l a g o = given_item (at q l) entry a g

  -- in cycle 0 there is no event
  pub no_first : has_event run' 0 ≡ false
  unfolding has_event
  no_first = refl

  -- each event is a done of this cycle
  pub serves : (k row : ℕ) → k < n → has_event run' k ≡ true → IsServed core.table (port_event run' k) ≡ true → core.table.row_of (port_event run' k).word ≡ Some row
      → (k ≤ k) × IsDoneOf (port_event run' k) (p.unit (core.owner row)) row k × (core.shape.commits (core.owner row) ≡ true → k ≡ k)
  serves zero row l e s r = both (has_event run' 0) e no_first
  serves (suc q) row l e s r = (le_refl (suc q), served_by (at q l) row (sym (steps.shows q) ∙ e) s r, λ o. refl)

  -- each interrupt is one of System
  pub interrupts : (k : ℕ) → k < n → has_event run' k ≡ true → (port_event run' k).kind ≡ 2 → (p.system.take_irq k ≡ true) × (p.system.irq_cause k ≡ (port_event run' k).cause)
  interrupts zero l e k = both (has_event run' 0) e no_first
  interrupts (suc q) l e k = interrupt_by (at q l) (sym (steps.shows q) ∙ e) k

  -- the units serve the run
  pub stage_serves : Serves core.table core.owner core.shape p run' n
  stage_serves = record {
    gives = gives;
    served = λ k. k;
    serves = serves;
    once = λ j k row row' l b e f x y r s w z. absurd (omega arith);
    interrupts = interrupts;
  }
