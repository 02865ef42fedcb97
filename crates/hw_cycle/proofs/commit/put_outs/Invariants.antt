use Rattle.std.proofs.Common.{◌≡◌, ℕ, ◌<◌, false, get_or}
use Rattle.core_ports.specs.Ports.{is_input}
use Rattle.hw_module.specs.Ports.{port_at}
use Rattle.hw_module.specs.Rows.{out_at}
use Rattle.hw_cycle.specs.Inputs.{outputs_before}
use Rattle.hw_cycle.specs.Levels.{driven_by}
use Rattle.hw_cycle.proofs.commit.put_outs.Given as goal

abbrev pub invariant-loop-port : goal.invariant-loop-port
invariant-loop-port l = record {
  place : l.place ≡ outputs_before l.port;
  done : (p : ℕ) → p < l.port → is_input (port_at p) ≡ false → get_or l.outs (outputs_before p) 0 ≡ driven_by l.values (out_at l.rows p);
}
