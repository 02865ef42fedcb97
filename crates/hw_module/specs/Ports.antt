-- Ports by their numbers.
use Rattle.std.specs.Prelude.{ℕ, get_or}
use Rattle.core_ports.specs.Ports.{CorePort, all_ports}
use Rattle.core_ports.specs.Ports.CorePort.{clk}

-- the port of a number
unfoldable pub port_at : ℕ → CorePort
port_at k = get_or all_ports k clk
