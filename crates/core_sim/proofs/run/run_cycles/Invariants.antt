use Rattle.std.proofs.Common.{◌≡◌, ◌≤◌, ℕ, List, false}
use Rattle.std.specs.Prelude.{vec_capacity, vec_len}
use Rattle.core_host.specs.declared.host.Port.{Port}
use Rattle.core_host.specs.declared.host.Port.TheVariants.{Main}
use Rattle.bus_law.specs.Memory.{Memory}
use Rattle.verilog_mean.specs.Cycle.{State}
use Rattle.verilog_mean.specs.Plain.{Plain}
use Rattle.core_sim.specs.Spans.{lines_of}
use Rattle.core_sim.specs.Joint.{joint_at, joint_start, run_of}
use Rattle.core_sim.specs.Bench.{IsBench, IsCore, IsReady}
use Rattle.core_sim.specs.Ends.{unsettled}
use Rattle.core_sim.specs.Pending.{IsKept}
use Rattle.core_sim.proofs.Events.{IsAt}
use Rattle.core_sim.proofs.run.run_cycles.Given as goal

abbrev pub invariant-loop-cycle : goal.invariant-loop-cycle
invariant-loop-cycle g l = record {
  ready : IsReady l.bench;
  few : l.events ≤ l.cycle;
  bench : (m : Plain) (contents : State) (memory : Memory) (delays : List ℕ) → IsCore m → IsBench m (joint_start contents memory delays) l.initial.bench
      → IsBench m (joint_at m contents memory delays (lines_of l.irqs) l.cycle) l.bench;
  at : (m : Plain) (contents : State) (memory : Memory) (delays : List ℕ) → IsCore m → IsBench m (joint_start contents memory delays) l.initial.bench
      → IsAt (run_of m contents memory delays (lines_of l.irqs)) l.trace l.cycles l.cycle l.events (g.H.Host.pushed l.initial.host Main) (g.H.Host.pushed l.host Main);
  kept : (m : Plain) (contents : State) (memory : Memory) (delays : List ℕ) → IsCore m → IsBench m (joint_start contents memory delays) l.initial.bench
      → IsKept l.trace (unsettled (run_of m contents memory delays (lines_of l.irqs)) l.cycle) l.pending;
  len : vec_len l.pending.bytes ≤ l.cycle;
  room : l.trace ≡ false → l.cycles ≤ vec_capacity l.pending.bytes;
  others : (p : Port) → ¬ (p ≡ Main) → g.H.Host.pushed l.host p ≡ g.H.Host.pushed l.initial.host p;
  left : (m : ℕ) → g.H.Host.left l.host m ≡ g.H.Host.left l.initial.host m;
  files : g.H.Host.files l.host ≡ g.H.Host.files l.initial.host;
  numbers : (m : ℕ) → g.H.Host.given l.initial.host m → g.H.Host.given l.host m;
  names : (m : ℕ) → g.H.Host.given l.initial.host m → g.H.Host.opened l.host m ≡ g.H.Host.opened l.initial.host m;
  reads : g.H.Host.read_faults l.initial.host ≤ g.H.Host.read_faults l.host;
  writes : g.H.Host.write_faults l.initial.host ≤ g.H.Host.write_faults l.host;
}
