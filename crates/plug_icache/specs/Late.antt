-- What the second call reads, and what it asks of Predict.
use Rattle.std.specs.Prelude.{◌≡◌, ℕ, ◌+◌, ◌-◌, ◌≤◌, true, false, get_or, length, Option}
use Rattle.hw_pool.specs.Nodes.{PoolValue}
use Rattle.hw_pool.specs.Scope.{Scope}
use Rattle.hw_expr.specs.declared.net.Net.{Net}
use Rattle.hw_expr.specs.Nets.{InScope}
use Rattle.hw_module.specs.declared.rows.Owner.TheVariants.{Entry}
use Rattle.hw_module.specs.Rights.{Rights, Makes}
use Rattle.hw_module.specs.Rows.{wire_at}
use Rattle.hw_module.specs.Scope.{scope_of}
use Rattle.service_reg.specs.declared.service.Service.TheVariants.{Predict}
use Rattle.service_ports.specs.declared.ports.FetchPorts.{FetchPorts}
use Rattle.service_ports.specs.Registry.{RegistryValue, single}
use Rattle.plug_part.specs.Of.{port_trees}
use Rattle.plug_part.specs.Owned.{is_predict_input, ports_of}
use Rattle.plug_part.specs.Part.{PortTrees}
use Rattle.plug_build.specs.World.{BuilderValue}
use Rattle.cache_nets.specs.declared.shapes.Coming.{Coming}
use Rattle.cache_nets.specs.declared.shapes.Cycle.{Cycle}
use Rattle.cache_nets.specs.declared.shapes.Four.{Four}
use Rattle.cache_nets.specs.Machine.{cell_at, index_at}
use Rattle.plug_icache.specs.Builds.{guess_in}
use Rattle.plug_icache.specs.Reads.{Reads}

-- the ports of Predict, where it is offered, by their trees
abbrev pub predict_in : PoolValue → RegistryValue → Option PortTrees
predict_in pool r = port_trees pool.nodes (ports_of (single r Predict))

-- four registers from a number on
pub record ReadsFour (pool : PoolValue) (s : Scope) (a b c d reg : ℕ) (f : Four) : Type 0 where
  pub first : Reads pool s a 0 (λ env. env.regs reg) f.first
  pub second : Reads pool s b 0 (λ env. env.regs (reg + 1)) f.second
  pub third : Reads pool s c 0 (λ env. env.regs (reg + 2)) f.third
  pub fourth : Reads pool s d 0 (λ env. env.regs (reg + 3)) f.fourth

pub record ReadsComing (pool : PoolValue) (s : Scope) (ports : FetchPorts) (c : Coming) : Type 0 where
  pub take : Reads pool s 1 8 (λ env. env.wires ports.take) c.take
  pub redirect : Reads pool s 1 8 (λ env. env.wires ports.redirect) c.redirect
  pub redirect_pc : Reads pool s 32 8 (λ env. env.wires ports.redirect_pc) c.redirect_pc
  pub fence : Reads pool s 1 8 (λ env. env.wires ports.fence) c.fence
  pub ready : Reads pool s 1 0 (λ env. env.inputs 3) c.ready
  pub answered : Reads pool s 1 0 (λ env. env.inputs 5) c.answered
  pub failed : Reads pool s 1 0 (λ env. env.inputs 6) c.failed
  pub payload : Reads pool s 32 0 (λ env. env.inputs 7) c.payload

-- the four registers at four places of a cycle
abbrev pub front_of : Cycle → Four
front_of c = record { first = c.held.pc; second = c.held.walk; third = c.held.given; fourth = c.held.owed }

abbrev pub reading_of : Cycle → Four
reading_of c = record { first = c.held.dropped; second = c.held.line; third = c.held.place; fourth = c.held.bad }

abbrev pub caught_of : Cycle → Four
caught_of c = record { first = c.held.wanted; second = c.held.captured; third = c.held.captured_word; fourth = c.held.captured_error }

abbrev pub item_of : Cycle → Four
item_of c = record { first = c.held.full; second = c.held.out_pc; third = c.held.out_word; fourth = c.held.out_error }

-- what a cycle reads: the registers from a number on, the arrays under the pc, what comes, and the guess
pub record ReadsCycle (pool : PoolValue) (s : Scope) (l k first tags : ℕ) (ports : FetchPorts) (predict : Option PortTrees) (c : Cycle) : Type 0 where
  pub front : ReadsFour pool s 32 (l + 1) 1 1 first (front_of c)
  pub reading : ReadsFour pool s 1 (30 - k) k 1 (first + 4) (reading_of c)
  pub caught : ReadsFour pool s 1 1 32 1 (first + 8) (caught_of c)
  pub item : ReadsFour pool s 1 32 32 1 (first + 12) (item_of c)
  pub coming : ReadsComing pool s ports c.coming
  pub tag : Reads pool s (31 - k - l) 0 (λ env. get_or (env.cells tags) (index_at l k (env.regs first)) 0) c.tag
  pub cell : Reads pool s 32 0 (λ env. get_or (env.cells (tags + 1)) (cell_at l k (env.regs first)) 0) c.cell
  pub guess : Reads pool s 32 8 (λ env. guess_in predict (env.regs first) env) c.guess

-- a builder drives the inputs of Predict, where it is offered, and nothing else
pub record AsksPredict (r : RegistryValue) (old new : BuilderValue) : Type 0 where
  pub entry : new.entry ≡ old.entry
  pub count : length new.design.wires ≡ length old.design.wires
  pub others : (k : ℕ) → is_predict_input r k ≡ false → wire_at new.design.wires k ≡ wire_at old.design.wires k
  pub regs : new.design.regs ≡ old.design.regs
  pub arrays : new.design.arrays ≡ old.design.arrays
  pub outs : new.design.outs ≡ old.design.outs
  pub room : old.design.room ≤ new.design.room + 2
  pub makes : (t : Rights) → ((k : ℕ) → is_predict_input r k ≡ true → t.wires k ≡ true) → Makes (Entry old.entry) t old.design new.design 2
  pub kept : (pool : PoolValue) (n : Net) → InScope (scope_of old.design) pool n → InScope (scope_of new.design) pool n
