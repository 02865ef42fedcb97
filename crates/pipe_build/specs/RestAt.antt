-- Where all that is driven once has its drivers, and what that is.
use Rattle.std.specs.Prelude.{◌≡◌, ℕ, ◌+◌, ◌<◌, ◌≤◌, Bool, false, true, List, [], ◌∷◌, length, get_or, is_some, None, Some}
use Rattle.hw_pool.specs.declared.node.Node.{Node}
use Rattle.hw_expr.specs.declared.net.Net.{Net}
use Rattle.hw_module.specs.Rows.{ModuleValue, out_at, reg_at, wire_at}
use Rattle.service_ports.specs.declared.ports.SystemPorts.{SystemPorts}
use Rattle.service_ports.specs.Ports.{decoder_ports, fetch_ports, hazard_ports, regfile_ports, system_ports}
use Rattle.service_ports.specs.Registry.{ports_in as offered_in}
use Rattle.plug_part.specs.Owned.{is_own_input, is_predict_input}
use Rattle.plug_part.specs.Part.{PortTrees}
use Rattle.part_laws.specs.Joined.{Services, ports_in}
use Rattle.plug_build.specs.World.{World}
use Rattle.plug_build.specs.Fits.{WorldFits}
use Rattle.pipe_drive.specs.Rights.{is_exec_input, is_left_out}
use Rattle.pipe_drive.specs.Rows.{AreRegs, AreWires, own_shapes, plain, wire_levels}
use Rattle.pipe_steps.specs.Drives.{DrivesDecode, DrivesFetch, DrivesHazard, DrivesNoBus, DrivesOuts, DrivesRegs, DrivesSlot, DrivesSystem, DrivesWires}
use Rattle.pipe_steps.specs.Things.{PipeThings}
use Rattle.pipe_build.specs.declared.nets.Offers.{Offers}
use Rattle.pipe_build.specs.declared.nets.PipeNets.{PipeNets}
use Rattle.pipe_build.specs.Rest.{HasRest, system_list, wire_drives}

abbrev pub AllThere : ModuleValue → List (ℕ × Net) → Type 0
AllThere d [] = Unit {0}
AllThere d (x ∷ xs) = (x.0 < length d.wires) × AllThere d xs

-- the services have the inputs that were offered
pub record HaveInputs (x : Services) (o : Offers) : Type 0 where
  pub fetch : x.fetch.1.inputs ≡ (fetch_ports o.fetch).inputs
  pub decoder : x.decoder.1.inputs ≡ (decoder_ports o.decoder).inputs
  pub regs : x.regs.1.inputs ≡ (regfile_ports o.regfile).inputs
  pub hazard : x.hazard.1.inputs ≡ (hazard_ports o.hazard).inputs
  pub system : (y : PortTrees) → ports_in x.system ≡ Some y → (q : SystemPorts) × (o.system ≡ Some q) × (y.inputs ≡ (system_ports q).inputs)

-- a register of the first fifteen: it is there, with its width and reset
pub record OwnRow (d : ModuleValue) (reset_pc reg j : ℕ) : Type 0 where
  pub there : reg + j < length d.regs
  pub wide : (reg_at d.regs (reg + j)).width ≡ (get_or (own_shapes reset_pc) j (plain 1)).0
  pub reset : (reg_at d.regs (reg + j)).reset ≡ (get_or (own_shapes reset_pc) j (plain 1)).1

pub record RestAt (d : ModuleValue) (wire reg reset_pc : ℕ) (o : Offers) (has_bus : Bool) (n : PipeNets) : Type 0 where
  pub has : HasRest d wire reg o has_bus n
  pub there : AllThere d (wire_drives wire o n)
  pub system_there : AllThere d (system_list o.system n)
  pub rows : (j : ℕ) → j < 15 → OwnRow d reset_pc reg j

-- what is driven once
pub record RestDriven (d : ModuleValue) (nodes : List Node) (p : PipeThings) : Type 0 where
  pub wires : DrivesWires d nodes p
  pub regs : DrivesRegs d nodes p
  pub slot : DrivesSlot d nodes p
  pub fetch : DrivesFetch d nodes p
  pub decode : DrivesDecode d nodes p
  pub hazard : DrivesHazard d nodes p
  pub system : (o : PortTrees) → ports_in p.services.system ≡ Some o → DrivesSystem d nodes p o
  pub outs : DrivesOuts d nodes p
  pub no_bus : p.shape.holds ≡ false → DrivesNoBus d nodes p

-- Before that: the world that entries left, with what is open; and the module now, in which the pipeline's things are made and at most
-- the inputs of Exec are driven.
pub record BeforeRest (w : World) (a : ModuleValue) (wire reg reset_pc : ℕ) (o : Offers) (has_bus : Bool) : Type 0 where
  pub fits : WorldFits w
  pub fetch : offered_in w.reg.fetch ≡ Some o.fetch
  pub decoder : offered_in w.reg.decoder ≡ Some o.decoder
  pub regfile : offered_in w.reg.regfile ≡ Some o.regfile
  pub hazard : offered_in w.reg.hazard ≡ Some o.hazard
  pub system : offered_in w.reg.system ≡ o.system
  pub bus : is_some w.reg.databus ≡ has_bus
  pub count : length w.design.wires ≤ length a.wires
  pub first : length w.design.wires ≤ wire
  pub inputs : (k : ℕ) → k < length w.design.wires → is_exec_input w.reg.execs k ≡ false → wire_at a.wires k ≡ wire_at w.design.wires k
  pub free : (entry k : ℕ) → is_own_input w.reg entry k ≡ true → is_predict_input w.reg k ≡ false → (wire_at w.design.wires k).driver ≡ None
  pub wires : AreWires a wire wire_levels
  pub wires_there : wire + 8 ≤ length a.wires
  pub regs : AreRegs a reg (own_shapes reset_pc)
  pub regs_there : reg + 15 ≤ length a.regs
  pub outs : a.outs ≡ w.design.outs
  pub bare : (p : ℕ) → is_left_out w.reg p ≡ true → out_at w.design.outs p ≡ None
