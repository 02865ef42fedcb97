-- The numbers of the pipeline's things where its forward wires and its registers follow each other, and the units of a registry.
use Rattle.std.specs.Prelude.{ℕ, zero, suc, ◌+◌, ◌-◌, cond, eqb, List, [], ◌∷◌, length}
use Rattle.hw_pool.specs.declared.node.Node.{Node}
use Rattle.service_ports.specs.declared.ports.ExecOffer.{ExecOffer}
use Rattle.service_ports.specs.Ports.{exec_ports}
use Rattle.plug_law.specs.Pipeline.{Shape}
use Rattle.plug_part.specs.Named.{trees_of}
use Rattle.part_laws.specs.Joined.{Services}
use Rattle.part_laws.specs.Pipes.{LateOwn, PipeOwn}
use Rattle.pipe_steps.specs.Things.{PipeWires, PipeUnit, PipeThings}

-- eight forward wires from this one on
abbrev pub wires_from : (first : ℕ) → PipeWires
wires_from w = record { kill = w; irq = w + 1; run = w + 2; ends = w + 3; retires = w + 4; traps = w + 5; writes = w + 6; enters = w + 7 }

-- the register of an entry's unit: one for each offer of Exec, from this one on
abbrev pub chosen_from : (first : ℕ) → List ExecOffer → (entry : ℕ) → ℕ
chosen_from c [] k = 0
chosen_from c (o ∷ os) k = cond (eqb o.by k) c (chosen_from (c + 1) os k)

abbrev pub units_of : List Node → (first : ℕ) → List ExecOffer → List PipeUnit
units_of nodes c [] = []
units_of nodes c (o ∷ os) = record { entry = o.by; chosen = c; ports = trees_of nodes (exec_ports o.ports) } ∷ units_of nodes (c + 1) os

-- three registers for each place of the tail
abbrev pub tail_from : (first places : ℕ) → List LateOwn
tail_from r zero = []
tail_from r (suc n) = record { writes = r; rd = r + 1; value = r + 2 } ∷ tail_from (r + 3) n

-- fifteen registers from this one on, then those of the units, then those of the tail
abbrev pub own_from : (first : ℕ) → List ExecOffer → (places : ℕ) → PipeOwn
own_from r execs places = record {
  apc = r;
  flush = r + 1;
  flush_fence = r + 2;
  started = r + 3;
  stopped = r + 4;
  valid = r + 5;
  pc = r + 6;
  word = r + 7;
  error = r + 8;
  legal = r + 9;
  row = r + 10;
  except = r + 11;
  writes = r + 12;
  a = r + 13;
  b = r + 14;
  chosen = chosen_from (r + 15) execs;
  tail = tail_from (r + 15 + length execs) places;
}

-- two stages have no place in the tail
abbrev pub things_from : List Node → (wire reg : ℕ) → List ExecOffer → Services → Shape → PipeThings
things_from nodes w r execs services shape = record {
  own = own_from r execs (shape.stages - 2);
  wires = wires_from w;
  units = units_of nodes (r + 15) execs;
  services = services;
  shape = shape;
}
