-- What entries leave to the pipeline, and what is laid down of it.
use Rattle.std.specs.Prelude.{◌≡◌, ℕ, ◌<◌, Bool, true, false, List, get_or, is_some, All, None, Some}
use Rattle.hw_pool.specs.Nodes.{PoolValue}
use Rattle.hw_expr.specs.declared.net.Net.{Net}
use Rattle.hw_module.specs.Rows.{ModuleValue, out_at, wire_at}
use Rattle.service_reg.specs.declared.service.Service.TheVariants.{Fetch, Decoder, RegFile, Hazard, DataBus, System}
use Rattle.service_ports.specs.declared.ports.ExecOffer.{ExecOffer}
use Rattle.service_ports.specs.Registry.{RegistryValue, ports_in, single}
use Rattle.plug_law.specs.Pipeline.{Shape}
use Rattle.plug_part.specs.Owned.{is_own_input, is_out_of, is_predict_input}
use Rattle.plug_build.specs.World.{World}
use Rattle.part_laws.specs.Registered.{entry_of, execs_of}
use Rattle.pipe_drive.specs.Rights.{AreDone}
use Rattle.pipe_build.specs.declared.nets.Offers.{Offers}

-- a world of a pool, a module and a registry
abbrev pub world_with : PoolValue → ModuleValue → RegistryValue → World
world_with pool design reg = record { pool = pool; design = design; reg = reg }

-- what is laid down of the pipeline; `commits` says of each entry whether it works in the stage that commits
abbrev pub shape_by : (stages reset_pc : ℕ) (commits : List Bool) → RegistryValue → Shape
shape_by stages reset_pc commits reg = record {
  entries = execs_of reg;
  commits = λ entry. get_or commits entry false;
  system = is_some (single reg System);
  holds = is_some (entry_of (single reg DataBus));
  reset_pc = reset_pc;
  stages = stages;
}

-- what entries leave to the pipeline
pub record IsReady (w : World) : Type 0 where
  pub done : AreDone w.reg w.design
  pub inputs : (entry k : ℕ) → is_own_input w.reg entry k ≡ true → is_predict_input w.reg k ≡ false → (wire_at w.design.wires k).driver ≡ None
  pub outs : (p : ℕ) (net : Net) → out_at w.design.outs p ≡ Some net → (entry : ℕ) × (is_out_of w.reg entry p ≡ true)
  pub fetch : single w.reg Fetch ≡ None → ⊥
  pub decoder : single w.reg Decoder ≡ None → ⊥
  pub regs : single w.reg RegFile ≡ None → ⊥
  pub hazard : single w.reg Hazard ≡ None → ⊥
  pub few : All (λ (o : ExecOffer). o.by < 32) w.reg.execs

-- the ports of the services that a core has once are these
pub record AreOffered (reg : RegistryValue) (o : Offers) : Type 0 where
  pub fetch : (by : ℕ) × (reg.fetch ≡ Some (by, o.fetch))
  pub decoder : (by : ℕ) × (reg.decoder ≡ Some (by, o.decoder))
  pub regfile : (by : ℕ) × (reg.regfile ≡ Some (by, o.regfile))
  pub hazard : (by : ℕ) × (reg.hazard ≡ Some (by, o.hazard))
  pub system : o.system ≡ ports_in reg.system
