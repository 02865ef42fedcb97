-- What a plan, and what the plug-ins of its entries say of themselves, lay down of a core; and the parts of its entries.
use Rattle.std.specs.Prelude.{ℕ, Bool, List, length, get_or}
use Rattle.service_reg.specs.declared.service.Service.{Service}
use Rattle.service_reg.specs.declared.service.Service.TheVariants.{DataBus}
use Rattle.service_ports.specs.Registry.{RegistryValue}
use Rattle.plug_law.specs.Table.{table_of}
use Rattle.plug_part.specs.Part.{Part}
use Rattle.plug_part.specs.Terms.{set_from, owner_among, claims_row}
use Rattle.plug_build.specs.World.{World, part_in}
use Rattle.plug_api.specs.declared.spec.Plan.{Plan}
use Rattle.plug_api.specs.declared.spec.PlugSpec.{PlugSpec}
use Rattle.plug_api.specs.Spec.{is_among, is_commit, no_spec}
use Rattle.plug_api.specs.Calls.{takes_of}
use Rattle.part_laws.specs.Joined.{CoreTerms, Services}
use Rattle.part_laws.specs.Registered.{execs_of, services_of}

-- by what the plug-in of each entry says, and the entries that offer Exec
abbrev pub core_terms_of : Plan → (said : ℕ → PlugSpec) → (execs : List ℕ) → CoreTerms
core_terms_of plan said execs = record {
  set = set_from plan.rows plan.has_csr;
  table = table_of (set_from plan.rows plan.has_csr);
  reset_pc = plan.shape.reset_pc;
  stages = plan.shape.stages;
  count = length plan.picks;
  execs = execs;
  owner = owner_among plan.rows plan.owners;
  claims = λ entry. claims_row (said entry).rows;
  commits = λ entry. is_commit (said entry).place;
  holds = λ entry. is_among (said entry).offers DataBus;
  latency = λ entry. (said entry).latency;
}

module _ (specs : List PlugSpec) where
  -- what the plug-in of an entry says of itself, and the services of others that it takes
  abbrev pub said_by : (entry : ℕ) → PlugSpec
  said_by entry = get_or specs entry no_spec

  abbrev pub takes_by : (entry : ℕ) → Service → Bool
  takes_by entry = takes_of (said_by entry)

  -- the terms of the core, and the parts and services of its entries
  abbrev pub terms_by : Plan → RegistryValue → CoreTerms
  terms_by plan reg = core_terms_of plan said_by (execs_of reg)

  abbrev pub part_by : World → (entry : ℕ) → Part
  part_by w entry = part_in (takes_by entry) entry w

  abbrev pub services_by : World → Services
  services_by w = services_of takes_by w.pool.nodes w.reg
