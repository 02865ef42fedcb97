-- What the second call reads, and what it asks of Predict.
use Rattle.std.specs.Prelude.{◌≡◌, ℕ, ◌+◌, ◌≤◌, true, false, length, Option}
use Rattle.hw_pool.specs.Nodes.{PoolValue}
use Rattle.hw_pool.specs.Scope.{Scope}
use Rattle.hw_expr.specs.declared.net.Net.{Net}
use Rattle.hw_expr.specs.Nets.{InScope}
use Rattle.hw_module.specs.declared.rows.Owner.TheVariants.{Entry}
use Rattle.hw_module.specs.Rights.{Rights, Makes}
use Rattle.hw_module.specs.Rows.{wire_at}
use Rattle.hw_module.specs.Scope.{scope_of}
use Rattle.service_reg.specs.declared.service.Service.TheVariants.{Predict}
use Rattle.service_ports.specs.declared.ports.FetchPorts.{FetchPorts}
use Rattle.service_ports.specs.Registry.{RegistryValue, single}
use Rattle.plug_part.specs.Of.{port_trees}
use Rattle.plug_part.specs.Owned.{is_predict_input, ports_of}
use Rattle.plug_part.specs.Part.{PortTrees}
use Rattle.plug_build.specs.World.{BuilderValue}
use Rattle.plug_fetch.specs.declared.places.Cycle.{Cycle}
use Rattle.plug_fetch.specs.Builds.{guess_in}
use Rattle.plug_fetch.specs.Reads.{Reads}

-- the ports of Predict, where it is offered, by their trees
abbrev pub predict_in : PoolValue → RegistryValue → Option PortTrees
predict_in pool r = port_trees pool.nodes (ports_of (single r Predict))

-- what a cycle reads: the registers of the command from a number on, the inputs, the bus, and the guess
pub record ReadsCycle (pool : PoolValue) (s : Scope) (reg : ℕ) (ports : FetchPorts) (predict : Option PortTrees) (c : Cycle) : Type 0 where
  pub given : Reads pool s 1 (λ env. env.regs reg) c.given
  pub owed : Reads pool s 1 (λ env. env.regs (reg + 1)) c.owed
  pub dropped : Reads pool s 1 (λ env. env.regs (reg + 2)) c.dropped
  pub address : Reads pool s 32 (λ env. env.regs (reg + 3)) c.address
  pub next_pc : Reads pool s 32 (λ env. env.regs (reg + 4)) c.next_pc
  pub take : Reads pool s 1 (λ env. env.wires ports.take) c.take
  pub redirect : Reads pool s 1 (λ env. env.wires ports.redirect) c.redirect
  pub redirect_pc : Reads pool s 32 (λ env. env.wires ports.redirect_pc) c.redirect_pc
  pub ready : Reads pool s 1 (λ env. env.inputs 3) c.ready
  pub answered : Reads pool s 1 (λ env. env.inputs 5) c.answered
  pub failed : Reads pool s 1 (λ env. env.inputs 6) c.failed
  pub payload : Reads pool s 32 (λ env. env.inputs 7) c.payload
  pub guess : Reads pool s 32 (λ env. guess_in predict (env.regs (reg + 3)) env) c.guess
  -- what Predict is asked is below each forward wire
  pub address_low : c.address.level ≡ 0
  pub payload_low : c.payload.level ≡ 0

-- a builder drives the inputs of Predict, where it is offered, and nothing else
pub record AsksPredict (r : RegistryValue) (old new : BuilderValue) : Type 0 where
  pub entry : new.entry ≡ old.entry
  pub count : length new.design.wires ≡ length old.design.wires
  pub others : (k : ℕ) → is_predict_input r k ≡ false → wire_at new.design.wires k ≡ wire_at old.design.wires k
  pub regs : new.design.regs ≡ old.design.regs
  pub arrays : new.design.arrays ≡ old.design.arrays
  pub outs : new.design.outs ≡ old.design.outs
  pub room : old.design.room ≤ new.design.room + 2
  pub makes : (t : Rights) → ((k : ℕ) → is_predict_input r k ≡ true → t.wires k ≡ true) → Makes (Entry old.entry) t old.design new.design 2
  pub kept : (pool : PoolValue) (n : Net) → InScope (scope_of old.design) pool n → InScope (scope_of new.design) pool n
