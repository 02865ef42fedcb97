-- The names of ports by their numbers.
use Rattle.std.proofs.Common.{◌≡◌, ℕ, ◌≤◌, ◌<◌, ap, sym, codes, arith}
use Rattle.std.proofs.Math.ListN.{get_or-eq_default}
use Rattle.core_ports.specs.Ports.{name_of, all_ports}
use Rattle.core_ports.specs.Ports.CorePort.{clk}
use Rattle.hw_module.specs.Ports.{port_at}
use Rattle.module_netlist.specs.Names.{port_name}

-- the last port
pub last_port : (p : ℕ) → 29 ≤ p → p < 30 → codes "fe_pc" ≡ port_name p
unfolding name_of port_at
last_port p h l = let e : 29 ≡ p = omega arith in ap port_name e

-- a number that is no port's
pub no_port : (p : ℕ) → 30 ≤ p → codes "clk" ≡ port_name p
unfolding name_of port_at
no_port p h = ap name_of (sym (get_or-eq_default all_ports clk h))
