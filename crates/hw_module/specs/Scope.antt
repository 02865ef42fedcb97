-- What the trees of a module may take from outside.
use Rattle.std.specs.Prelude.{ℕ, ltb, leb, cond, ◌&&◌, length, Option, None, Some}
use Rattle.core_ports.specs.Ports.{is_input}
use Rattle.core_ports.specs.Ports as ports
use Rattle.hw_pool.specs.Scope.{Scope}
use Rattle.hw_module.specs.Ports.{port_at}
use Rattle.hw_module.specs.Rows.{ModuleValue, wire_at, reg_at, array_at}

-- the width of a port that an expression may read: an input other than the clock
abbrev pub input_width : ℕ → Option ℕ
input_width port = cond (leb 1 port && (ltb port 30 && is_input (port_at port))) (Some (ports.width_of (port_at port))) None

-- the readable ports and the things of a module
unfoldable pub scope_of : ModuleValue → Scope
scope_of m = record {
  inputs = input_width;
  wires = λ k. cond (ltb k (length m.wires)) (Some ((wire_at m.wires k).width, (wire_at m.wires k).level)) None;
  regs = λ k. cond (ltb k (length m.regs)) (Some (reg_at m.regs k).width) None;
  arrays = λ k. cond (ltb k (length m.arrays)) (Some ((array_at m.arrays k).width, (array_at m.arrays k).bits)) None;
}
