-- What belongs to which entry: the things that it owns, the inputs of its services, and the outputs that it drives.
use Rattle.std.specs.Prelude.{ℕ, eqb, Bool, false, ◌||◌, ◌&&◌, List, [], ◌∷◌, is_some, Option, None, Some}
use Rattle.hw_module.specs.declared.rows.Owner.{Owner}
use Rattle.hw_module.specs.declared.rows.Owner.TheVariants.{Pipe, Entry}
use Rattle.service_reg.specs.declared.service.Service.{Service}
use Rattle.service_reg.specs.declared.service.Service.TheVariants.{Fetch, Predict, Decoder, RegFile, Hazard, Exec, DataBus, System}
use Rattle.service_ports.specs.Ports.{Ports}
use Rattle.service_ports.specs.Registry.{RegistryValue, Offered, single, offer_of}

-- a thing is owned by this entry
abbrev pub is_owner : Owner → (entry : ℕ) → Bool
is_owner Pipe entry = false
is_owner (Entry e) entry = eqb e entry

-- a number is in a list
abbrev pub is_among : ℕ → List ℕ → Bool
is_among k [] = false
is_among k (w ∷ ws) = eqb k w || is_among k ws

-- a forward wire is an input of these ports
abbrev pub is_input_of : Option Ports → (wire : ℕ) → Bool
is_input_of None k = false
is_input_of (Some p) k = is_among k p.inputs

-- a forward wire is an input of a service that the entry offers
abbrev pub is_own_input : RegistryValue → (entry wire : ℕ) → Bool
is_own_input r e k =
    is_input_of (offer_of r e Fetch) k || (is_input_of (offer_of r e Predict) k || (is_input_of (offer_of r e Decoder) k || (is_input_of (offer_of r e RegFile) k
    || (is_input_of (offer_of r e Hazard) k || (is_input_of (offer_of r e Exec) k || (is_input_of (offer_of r e DataBus) k || is_input_of (offer_of r e System) k))))))

-- the ports of an offer
abbrev pub ports_of : Option Offered → Option Ports
ports_of None = None
ports_of (Some o) = Some o.ports

-- a forward wire is an input of Predict, whoever offers it
abbrev pub is_predict_input : RegistryValue → (wire : ℕ) → Bool
is_predict_input r k = is_input_of (ports_of (single r Predict)) k

-- an entry offers a service
abbrev pub offers : RegistryValue → (entry : ℕ) → Service → Bool
offers r e s = is_some (offer_of r e s)

-- an output port is of the command of the instruction bus
abbrev pub is_fetch_out : (port : ℕ) → Bool
is_fetch_out p = eqb p 2 || eqb p 4

-- an output port is of the command of the data bus
abbrev pub is_bus_out : (port : ℕ) → Bool
is_bus_out p = eqb p 8 || (eqb p 10 || (eqb p 11 || (eqb p 12 || eqb p 13)))

-- an output port is driven by the entry: the command of the instruction bus where it offers Fetch, that of the data bus
-- where it offers DataBus
abbrev pub is_out_of : RegistryValue → (entry port : ℕ) → Bool
is_out_of r e p = (offers r e Fetch && is_fetch_out p) || (offers r e DataBus && is_bus_out p)

-- a forward wire of another is driven by the entry: the inputs of Predict where it offers Fetch
abbrev pub is_driven_by : RegistryValue → (entry wire : ℕ) → Bool
is_driven_by r e k = offers r e Fetch && is_predict_input r k
