-- What entries build in, and what one of them may change there.
use Rattle.std.specs.Prelude.{ℕ, ◌+◌, ◌≤◌, Bool, false}
use Rattle.hw_pool.specs.Nodes.{PoolValue}
use Rattle.hw_pool.specs.Frame.{Adds}
use Rattle.hw_module.specs.declared.rows.Owner.{Owner}
use Rattle.hw_module.specs.Rows.{ModuleValue}
use Rattle.hw_module.specs.Rights.{Rights, Makes}
use Rattle.service_reg.specs.declared.service.Service.{Service}
use Rattle.service_ports.specs.Registry.{RegistryValue}
use Rattle.plug_part.specs.Part.{Part}
use Rattle.plug_part.specs.Owned.{is_own_input, is_out_of, is_driven_by}
use Rattle.plug_part.specs.Of.{part_of}

-- what a contract sees of a builder: the module, and the entry that builds
pub record BuilderValue : Type 0 where
  pub design : ModuleValue
  pub entry : ℕ

-- all that entries build in
pub record World : Type 0 where
  pub pool : PoolValue
  pub design : ModuleValue
  pub reg : RegistryValue

abbrev pub world_of : PoolValue → BuilderValue → RegistryValue → World
world_of pool b reg = record { pool = pool; design = b.design; reg = reg }

-- the part of an entry that takes these services of others
abbrev pub part_in : (takes : Service → Bool) (entry : ℕ) → World → Part
part_in takes entry w = part_of takes entry w.design w.pool.nodes w.reg

-- what an entry may drive as it offers its services: its own wires, and its outputs of the core
abbrev pub early_rights : RegistryValue → (entry : ℕ) → Rights
early_rights r e = record { wires = λ k. false; locked = λ k. false; outs = λ p. is_out_of r e p }

-- what it may drive once all services are offered: its own wires but for the inputs of its services, the inputs of Predict
-- where it offers Fetch, and its outputs of the core
abbrev pub late_rights : RegistryValue → (entry : ℕ) → Rights
late_rights r e = record { wires = λ k. is_driven_by r e k; locked = λ k. is_own_input r e k; outs = λ p. is_out_of r e p }

-- an owner adds to the module within its rights, and to the pool, in all at most so many nodes, things and drivers
pub record Builds (by : Owner) (r : Rights) (most : ℕ) (old new : World) : Type 0 where
  pub nodes : ℕ
  pub things : ℕ
  pub sum : nodes + things ≤ most
  pub adds : Adds old.pool new.pool nodes
  pub makes : Makes by r old.design new.design things
