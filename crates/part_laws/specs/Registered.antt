-- The services of a registry, as the parts of a core offer them: the entry that offers each, and its ports with their outputs
-- unfolded to trees.
use Rattle.std.specs.Prelude.{ℕ, cond, Bool, ◌||◌, List, map, Option, None, Some}
use Rattle.hw_pool.specs.declared.node.Node.{Node}
use Rattle.service_reg.specs.declared.service.Service.{Service}
use Rattle.service_reg.specs.declared.service.Service.TheVariants.{Fetch, Predict, Decoder, RegFile, Hazard, DataBus, System}
use Rattle.service_ports.specs.declared.ports.ExecOffer.{ExecOffer}
use Rattle.service_ports.specs.Registry.{RegistryValue, Offered, single, exec_of}
use Rattle.plug_part.specs.Part.{PortTrees}
use Rattle.plug_part.specs.Owned.{offers}
use Rattle.plug_part.specs.Of.{net_tree, port_trees}
use Rattle.plug_part.specs.Signals.{no_ports, or_none}
use Rattle.part_laws.specs.Joined.{Services}

-- the entries that offer Exec, in the order of their offers
abbrev pub execs_of : RegistryValue → List ℕ
execs_of reg = map (λ (o : ExecOffer). o.by) reg.execs

module _ (nodes : List Node) where
  abbrev pub offered_trees : Option Offered → Option (ℕ × PortTrees)
  offered_trees None = None
  offered_trees (Some o) = Some (o.by, record { inputs = o.ports.inputs; outputs = map (net_tree nodes) o.ports.outputs })

  -- entry 0 and no ports stand for a service that nothing offers
  abbrev pub trees_or_none : Option Offered → ℕ × PortTrees
  trees_or_none None = (0, no_ports)
  trees_or_none (Some o) = (o.by, record { inputs = o.ports.inputs; outputs = map (net_tree nodes) o.ports.outputs })

abbrev pub entry_of : Option Offered → Option ℕ
entry_of None = None
entry_of (Some o) = Some o.by

-- an entry sees a service: it offers it, or takes it of others
abbrev pub sees_service : (takes : ℕ → Service → Bool) → RegistryValue → (entry : ℕ) → Service → Bool
sees_service takes reg entry s = offers reg entry s || takes entry s

-- the services of a core, by the services that each entry takes of others
abbrev pub services_of : (takes : ℕ → Service → Bool) → (nodes : List Node) → RegistryValue → Services
services_of takes nodes reg = record {
  fetch = trees_or_none nodes (single reg Fetch);
  predict = cond (sees_service takes reg (trees_or_none nodes (single reg Fetch)).0 Predict) (offered_trees nodes (single reg Predict)) None;
  decoder = trees_or_none nodes (single reg Decoder);
  regs = trees_or_none nodes (single reg RegFile);
  hazard = trees_or_none nodes (single reg Hazard);
  exec = λ entry. or_none (port_trees nodes (exec_of entry reg.execs));
  data_entry = entry_of (single reg DataBus);
  system = offered_trees nodes (single reg System);
}
