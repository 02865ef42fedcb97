-- The entry that builds a part without state in its first call.
use Rattle.std.specs.Prelude.{◌≡◌, ℕ, List, Some}
use Rattle.hw_pool.specs.Frame.{Adds}
use Rattle.service_reg.specs.declared.service.Service.{Service}
use Rattle.service_ports.specs.Ports.{Ports, input_shapes, output_widths, output_level}
use Rattle.service_ports.specs.Registry.{AddsOffer, single}
use Rattle.plug_build.specs.World.{World}
use Rattle.plug_build.specs.Fits.{AreOutputs, WorldFits}
use Rattle.plug_build.specs.Done.{OwnsNothing}
use Rattle.plug_kit.specs.Made.{MakesInputs}

-- entry e, which owned nothing, made the inputs ws of one service that one entry alone may offer, and at most n nodes, and
-- offered it with these ports
pub record IsPlain (s : Service) (e n : ℕ) (old new : World) (ws : List ℕ) (p : Ports) : Type 0 where
  pub fits : WorldFits old
  pub nothing : OwnsNothing e old
  pub made : MakesInputs e old.design new.design ws (input_shapes s)
  pub adds : Adds old.pool new.pool n
  pub inputs : p.inputs ≡ ws
  pub outputs : AreOutputs new.design new.pool (output_level s) p.outputs (output_widths s)
  pub is : single new.reg s ≡ Some (record { by = e; ports = p })
  pub execs : new.reg.execs ≡ old.reg.execs
  pub offers : AddsOffer s e p old.reg new.reg
