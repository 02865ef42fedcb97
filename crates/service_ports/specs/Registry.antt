-- What a registry holds, and what an offer adds to it.
use Rattle.std.specs.Prelude.{◌≡◌, ℕ, eqb, cond, List, [], ◌∷◌, ◌++◌, All, Option, None, Some}
use Rattle.service_reg.specs.declared.service.Service.{Service}
use Rattle.service_reg.specs.declared.service.Service.TheVariants.{Fetch, Predict, Decoder, RegFile, Hazard, Exec, DataBus, System}
use Rattle.service_ports.specs.declared.ports.FetchPorts.{FetchPorts}
use Rattle.service_ports.specs.declared.ports.PredictPorts.{PredictPorts}
use Rattle.service_ports.specs.declared.ports.DecoderPorts.{DecoderPorts}
use Rattle.service_ports.specs.declared.ports.RegFilePorts.{RegFilePorts}
use Rattle.service_ports.specs.declared.ports.HazardPorts.{HazardPorts}
use Rattle.service_ports.specs.declared.ports.DataBusPorts.{DataBusPorts}
use Rattle.service_ports.specs.declared.ports.SystemPorts.{SystemPorts}
use Rattle.service_ports.specs.declared.ports.ExecOffer.{ExecOffer}
use Rattle.service_ports.specs.Ports.{Ports, fetch_ports, predict_ports, decoder_ports, regfile_ports, hazard_ports, exec_ports, databus_ports, system_ports}

-- What a contract sees of a registry: each service that is offered with the entry that offers it, and how many more
-- offers of Exec it can take.
pub record RegistryValue : Type 0 where
  pub fetch : Option (ℕ × FetchPorts)
  pub predict : Option (ℕ × PredictPorts)
  pub decoder : Option (ℕ × DecoderPorts)
  pub regfile : Option (ℕ × RegFilePorts)
  pub hazard : Option (ℕ × HazardPorts)
  pub databus : Option (ℕ × DataBusPorts)
  pub system : Option (ℕ × SystemPorts)
  pub execs : List ExecOffer
  pub room : ℕ

-- the ports without the entry that offers them
abbrev pub ports_in : {A : Type 0} → Option (ℕ × A) → Option A
ports_in None = None
ports_in (Some o) = Some o.1

-- the ports of a service and the entry that offers it
pub record Offered : Type 0 where
  pub by : ℕ
  pub ports : Ports

-- such an offer by its ports as lists
abbrev pub offered_as : {A : Type 0} → (A → Ports) → Option (ℕ × A) → Option Offered
offered_as f None = None
offered_as f (Some o) = Some (record { by = o.0; ports = f o.1 })

-- what is offered of a service that one entry alone may offer
abbrev pub single : RegistryValue → Service → Option Offered
single r Fetch = offered_as fetch_ports r.fetch
single r Predict = offered_as predict_ports r.predict
single r Decoder = offered_as decoder_ports r.decoder
single r RegFile = offered_as regfile_ports r.regfile
single r Hazard = offered_as hazard_ports r.hazard
single r Exec = None
single r DataBus = offered_as databus_ports r.databus
single r System = offered_as system_ports r.system

-- what an entry offers of Exec: the first of its offers
abbrev pub exec_of : (entry : ℕ) → List ExecOffer → Option Ports
exec_of entry [] = None
exec_of entry (o ∷ os) = cond (eqb o.by entry) (Some (exec_ports o.ports)) (exec_of entry os)

-- the ports of an offer, where it is this entry's
abbrev pub own_single : (entry : ℕ) → Option Offered → Option Ports
own_single entry None = None
own_single entry (Some o) = cond (eqb o.by entry) (Some o.ports) None

-- what an entry offers of a service
abbrev pub offer_of : RegistryValue → (entry : ℕ) → Service → Option Ports
offer_of r entry Fetch = own_single entry (single r Fetch)
offer_of r entry Predict = own_single entry (single r Predict)
offer_of r entry Decoder = own_single entry (single r Decoder)
offer_of r entry RegFile = own_single entry (single r RegFile)
offer_of r entry Hazard = own_single entry (single r Hazard)
offer_of r entry Exec = exec_of entry r.execs
offer_of r entry DataBus = own_single entry (single r DataBus)
offer_of r entry System = own_single entry (single r System)

-- offers that were there stay, and those that come are of one entry
pub record OffersBy (by : ℕ) (old new : RegistryValue) : Type 0 where
  pub kept : (s : Service) (o : Offered) → single old s ≡ Some o → single new s ≡ Some o
  pub added : (s : Service) (o : Offered) → single old s ≡ None → single new s ≡ Some o → o.by ≡ by
  pub more : List ExecOffer
  pub execs : new.execs ≡ old.execs ++ more
  pub execs_by : All (λ o. o.by ≡ by) more

-- One more offer: of this service, by this entry, with these ports.
pub record AddsOffer (s : Service) (by : ℕ) (p : Ports) (old new : RegistryValue) : Type 0 where
  pub own : offer_of old by s ≡ None → offer_of new by s ≡ Some p
  pub others : (e : ℕ) (t : Service) → (t ≡ s → ⊥) → offer_of new e t ≡ offer_of old e t
  pub singles : (t : Service) → (t ≡ s → ⊥) → single new t ≡ single old t
  pub offers : OffersBy by old new
