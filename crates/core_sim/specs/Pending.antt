-- What a run keeps of the writes that no retirement has settled.
use Rattle.std.specs.Prelude.{◌≡◌, Bool, false, List, Option, option_map, option_to_list}
use Rattle.bus_law.specs.Memory.{Store}
use Rattle.core_sim.specs.declared.event.Write.{Write}
use Rattle.core_sim.specs.declared.pending.Pending.{Pending}
use Rattle.core_sim.specs.Window.{exit_code, host_bytes}

abbrev pub store_of_write : Write → Store
store_of_write w = record { addr = w.addr; value = w.value; mask = w.mask }

-- the write of a cycle, if it has one
abbrev pub noted : Option Write → List Store
noted w = option_to_list (option_map store_of_write w)

-- of these writes, the latest first, the bytes are kept, unless the lines of events are wanted, and the code of the exit
pub record IsKept (trace : Bool) (ws : List Store) (p : Pending) : Type 0 where
  pub bytes : trace ≡ false → p.bytes.items ≡ host_bytes ws
  pub code : p.code ≡ exit_code ws
