-- The signals of services by the names of their ports: the same as those by their places.
use Rattle.std.specs.Prelude.{ℕ, eqb, Bool, List, [], ◌∷◌, map}
use Rattle.hw_pool.specs.declared.node.Node.{Node}
use Rattle.hw_pool.specs.Meaning.{Env, value}
use Rattle.hw_expr.specs.declared.net.Net.{Net}
use Rattle.service_ports.specs.declared.ports.FetchPorts.{FetchPorts}
use Rattle.service_ports.specs.declared.ports.PredictPorts.{PredictPorts}
use Rattle.service_ports.specs.declared.ports.DecoderPorts.{DecoderPorts}
use Rattle.service_ports.specs.declared.ports.RegFilePorts.{RegFilePorts}
use Rattle.service_ports.specs.declared.ports.HazardPorts.{HazardPorts}
use Rattle.service_ports.specs.declared.ports.HazardStage.{HazardStage}
use Rattle.service_ports.specs.declared.ports.ExecPorts.{ExecPorts}
use Rattle.service_ports.specs.declared.ports.SystemPorts.{SystemPorts}
use Rattle.service_ports.specs.Ports.{Ports}
use Rattle.plug_law.specs.Fetch.{FetchSignals}
use Rattle.plug_law.specs.Predict.{PredictSignals}
use Rattle.plug_law.specs.Exec.{ExecSignals}
use Rattle.plug_law.specs.System.{SystemSignals}
use Rattle.plug_law.specs.Decode.{DecodeSignals}
use Rattle.plug_law.specs.RegFile.{RegSignals}
use Rattle.plug_law.specs.Hazard.{Ahead, HazardSignals}
use Rattle.plug_part.specs.Part.{PortTrees}
use Rattle.plug_part.specs.Of.{net_tree}

module _ (nodes : List Node) where
  -- ports, unfolded to their trees
  abbrev pub trees_of : Ports → PortTrees
  trees_of p = record { inputs = p.inputs; outputs = map (net_tree nodes) p.outputs }

  module _ (run : ℕ → Env) where
    -- the number at a forward wire and the value of a net in each cycle, and their bits
    abbrev pub wire : (wire : ℕ) → ℕ → ℕ
    wire w k = (run k).wires w

    abbrev pub wire_bit : (wire : ℕ) → ℕ → Bool
    wire_bit w k = eqb ((run k).wires w) 1

    abbrev pub net : Net → ℕ → ℕ
    net n k = value (run k) (net_tree nodes n)

    abbrev pub net_bit : Net → ℕ → Bool
    net_bit n k = eqb (value (run k) (net_tree nodes n)) 1

    -- where Predict is there
    abbrev pub fetch_named : FetchPorts → PredictPorts → FetchSignals
    fetch_named p q = record {
      take = wire_bit p.take;
      redirect = wire_bit p.redirect;
      redirect_pc = wire p.redirect_pc;
      fence = wire_bit p.fence;
      valid = net_bit p.valid;
      pc = net p.pc;
      word = net p.word;
      error = net_bit p.error;
      asked_pc = wire q.pc;
      asked_word = wire q.word;
      answered = net q.next;
    }

    abbrev pub predict_named : PredictPorts → PredictSignals
    predict_named p = record { pc = wire p.pc; word = wire p.word; next = net p.next }

    abbrev pub decode_named : DecoderPorts → DecodeSignals
    decode_named p = record {
      word = wire p.word;
      legal = net_bit p.legal;
      row = net p.row;
      unit = net p.unit;
      uses_a = net_bit p.uses_a;
      uses_b = net_bit p.uses_b;
      writes = net_bit p.writes;
    }

    abbrev pub reg_named : RegFilePorts → RegSignals
    reg_named p = record {
      ra = wire p.ra;
      rb = wire p.rb;
      we = wire_bit p.we;
      wa = wire p.wa;
      wd = wire p.wd;
      a = net p.a;
      b = net p.b;
    }

    abbrev pub stage_named : HazardStage → ℕ → Ahead
    stage_named s k = record { writes = wire_bit s.writes k; rd = wire s.rd k; ready = wire_bit s.ready k; value = wire s.value k }

    abbrev pub hazard_named : HazardPorts → HazardSignals
    hazard_named p = record {
      stages = λ k. stage_named p.first k ∷ stage_named p.second k ∷ stage_named p.third k ∷ [];
      ra = wire p.ra;
      rb = wire p.rb;
      uses_a = wire_bit p.uses_a;
      uses_b = wire_bit p.uses_b;
      hold = net_bit p.hold;
      a = net p.a;
      b = net p.b;
    }

    abbrev pub exec_named : ExecPorts → ExecSignals
    exec_named p = record {
      go = wire_bit p.go;
      row = wire p.row;
      pc = wire p.pc;
      word = wire p.word;
      a = wire p.a;
      b = wire p.b;
      clear = wire_bit p.clear;
      done = net_bit p.done;
      value = net p.value;
      next_pc = net p.next_pc;
      trap = net_bit p.trap;
      cause = net p.cause;
      tval = net p.tval;
      fence = net_bit p.fence;
    }

    abbrev pub system_named : SystemPorts → SystemSignals
    system_named p = record {
      event = wire_bit p.event;
      kind = wire p.kind;
      pc = wire p.pc;
      cause = wire p.cause;
      tval = wire p.tval;
      take_irq = net_bit p.take_irq;
      irq_cause = net p.irq_cause;
      base = net p.base;
    }
