-- What the first call of an entry with one service does; and a unit without state, which does all in one call.
use Rattle.std.specs.Prelude.{◌≡◌, ℕ, ◌<◌, [], ◌∷◌, ◌++◌, List, length, None}
use Rattle.hw_pool.specs.Frame.{Adds}
use Rattle.hw_module.specs.Rows.{ModuleValue, wire_at}
use Rattle.service_reg.specs.declared.service.Service.{Service}
use Rattle.service_reg.specs.declared.service.Service.TheVariants.{Exec}
use Rattle.service_ports.specs.declared.ports.ExecPorts.{ExecPorts}
use Rattle.service_ports.specs.Ports.{Ports, exec_ports, input_shapes, output_widths, output_level}
use Rattle.service_ports.specs.Registry.{AddsOffer, offer_of}
use Rattle.plug_build.specs.World.{World}
use Rattle.plug_build.specs.Fits.{AreOutputs, WorldFits}
use Rattle.plug_build.specs.Done.{OwnsNothing}
use Rattle.plug_kit.specs.declared.inputs.ExecInputs.{ExecInputs}
use Rattle.plug_kit.specs.Made.{MakesInputs, exec_list}

-- entry e, which owned nothing, made the inputs ws of one service and no other forward wire, and offered it with these ports
pub record IsOffered (s : Service) (e : ℕ) (old new : World) (mid : ModuleValue) (ws : List ℕ) (p : Ports) : Type 0 where
  pub nothing : OwnsNothing e old
  pub made : MakesInputs e old.design mid ws (input_shapes s)
  pub wires : new.design.wires ≡ mid.wires
  pub inputs : p.inputs ≡ ws
  pub offers : AddsOffer s e p old.reg new.reg

-- entry e, which offered nothing, made the inputs ws of one service in the module base, and other forward wires before or behind them,
-- and offered the service with these ports
pub record IsOfferedAmong (s : Service) (e : ℕ) (old new : World) (base mid : ModuleValue) (ws : List ℕ) (p : Ports) : Type 0 where
  pub nothing : (t : Service) → offer_of old.reg e t ≡ None
  pub made : MakesInputs e base mid ws (input_shapes s)
  pub wires : (k : ℕ) → k < length mid.wires → wire_at new.design.wires k ≡ wire_at mid.wires k
  pub inputs : p.inputs ≡ ws
  pub offers : AddsOffer s e p old.reg new.reg

-- entry e, which owned nothing, made the inputs w and at most n nodes, and offered Exec with these ports
pub record IsUnit (e n : ℕ) (old new : World) (w : ExecInputs) (p : ExecPorts) : Type 0 where
  pub fits : WorldFits old
  pub nothing : OwnsNothing e old
  pub made : MakesInputs e old.design new.design (exec_list w) (input_shapes Exec)
  pub adds : Adds old.pool new.pool n
  pub inputs : (exec_ports p).inputs ≡ exec_list w
  pub outputs : AreOutputs new.design new.pool (output_level Exec) (exec_ports p).outputs (output_widths Exec)
  pub execs : new.reg.execs ≡ old.reg.execs ++ record { by = e; ports = p } ∷ []
  pub offers : AddsOffer Exec e (exec_ports p) old.reg new.reg
