-- A module has the ports of a core: those of the table and no other, in any order.
use Rattle.std.specs.Prelude.{◌≡◌, Bool, true, false, not, eqb, List, [], ◌∷◌, ◌&&◌, ◌||◌, length}
use Rattle.core_words.specs.Names.{same_name}
use Rattle.core_ports.specs.Ports.{CorePort, all_ports, name_of, is_input, width_of}
use Rattle.verilog_mean.specs.Plain.{Port, Plain}
use Rattle.verilog_mean.specs.Plain.Port.{In, Out}

abbrev pub is_port : Port → CorePort → Bool
is_port (In width name) p = is_input p && (same_name name (name_of p) && eqb width (width_of p))
is_port (Out width name) p = not (is_input p) && (same_name name (name_of p) && eqb width (width_of p))

-- some port has the direction, the name and the width of a core's port
abbrev pub has_port : List Port → CorePort → Bool
has_port [] p = false
has_port (q ∷ rest) p = is_port q p || has_port rest p

abbrev pub has_ports : List Port → List CorePort → Bool
has_ports ports [] = true
has_ports ports (p ∷ rest) = has_port ports p && has_ports ports rest

pub record HasCorePorts (m : Plain) : Type 0 where
  pub each : has_ports m.ports all_ports ≡ true
  pub only : length m.ports ≡ length all_ports
