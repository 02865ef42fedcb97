-- Units and what the pipeline drives of each.
use Rattle.std.specs.Prelude.{◌≡◌, ℕ, ◌+◌, ◌*◌, ◌<◌, ◌≤◌, Bool, false, true, List, [], ◌∷◌, length, None}
use Rattle.hw_pool.specs.declared.node.Node.{Node}
use Rattle.hw_pool.specs.Nodes.{PoolValue}
use Rattle.hw_pool.specs.Scope.{Scope}
use Rattle.hw_module.specs.declared.rows.Owner.TheVariants.{Pipe}
use Rattle.hw_module.specs.Frame.{Grows}
use Rattle.hw_module.specs.Rights.{Makes, MayDrive, Rights}
use Rattle.hw_module.specs.Rows.{ModuleValue, reg_at, wire_at}
use Rattle.service_reg.specs.declared.service.Service.TheVariants.{Exec}
use Rattle.service_ports.specs.declared.ports.ExecOffer.{ExecOffer}
use Rattle.service_ports.specs.Ports.{exec_ports, input_shapes}
use Rattle.plug_part.specs.Named.{trees_of}
use Rattle.plug_part.specs.Owned.{is_among}
use Rattle.plug_build.specs.Fits.{AreApart, AreInputs}
use Rattle.pipe_drive.specs.Rights.{is_exec_input}
use Rattle.pipe_steps.specs.Things.{PipeThings, PipeUnit}
use Rattle.pipe_steps.specs.Values.{chosen_next, clear_in, go_in}
use Rattle.pipe_build.specs.declared.nets.UnitDrivers.{UnitDrivers}
use Rattle.pipe_build.specs.Bears.{Bears}
use Rattle.pipe_build.specs.Made.{IsReg}

-- what is of one unit
pub record DriveUnit (s : Scope) (pool : PoolValue) (p : PipeThings) (u : PipeUnit) (n : UnitDrivers) : Type 0 where
  pub go : Bears s pool 1 3 (λ env. go_in p env u) n.go
  pub clear : Bears s pool 1 2 (λ env. clear_in p env u) n.clear
  pub next : Bears s pool 1 7 (λ env. chosen_next p env u) n.next

-- forward wires without drivers
abbrev pub AreFree : ModuleValue → List ℕ → Type 0
AreFree m [] = Unit {0}
AreFree m (w ∷ ws) = ((wire_at m.wires w).driver ≡ None) × AreFree m ws

-- the inputs of an offer of Exec are forward wires without drivers, and its register is the pipeline's and has no next value
pub record IsUndriven (m : ModuleValue) (chosen : ℕ) (o : ExecOffer) : Type 0 where
  pub few : o.by < 32
  pub inputs : AreInputs m o.by (exec_ports o.ports).inputs (input_shapes Exec)
  pub apart : AreApart (exec_ports o.ports).inputs
  pub free : AreFree m (exec_ports o.ports).inputs
  pub row : IsReg m chosen 1
  pub own : (reg_at m.regs chosen).owner ≡ Pipe
  pub reset : (reg_at m.regs chosen).reset ≡ None
  pub bare : (reg_at m.regs chosen).next ≡ None

-- the same of several, no two of which share an input
abbrev pub AreUndriven : ModuleValue → (chosen : ℕ) → List ExecOffer → Type 0
AreUndriven m c [] = Unit {0}
AreUndriven m c (o ∷ os) = IsUndriven m c o × ((k : ℕ) → is_among k (exec_ports o.ports).inputs ≡ true → is_exec_input os k ≡ false) × AreUndriven m (c + 1) os

-- forward wires that pass a test and some registers from a number on are driven, and nothing else has changed
pub record UnitsOnly (inputs : ℕ → Bool) (chosen many : ℕ) (old new : ModuleValue) : Type 0 where
  pub grows : Grows old new (8 * many)
  pub others : (k : ℕ) → inputs k ≡ false → wire_at new.wires k ≡ wire_at old.wires k
  pub below : (k : ℕ) → k < chosen → reg_at new.regs k ≡ reg_at old.regs k
  pub above : (k : ℕ) → chosen + many ≤ k → reg_at new.regs k ≡ reg_at old.regs k
  pub count : length new.wires ≡ length old.wires
  pub count_regs : length new.regs ≡ length old.regs
  pub arrays : new.arrays ≡ old.arrays
  pub outs : new.outs ≡ old.outs
  pub makes : (r : Rights) → ((k : ℕ) → inputs k ≡ true → MayDrive Pipe r (wire_at old.wires k).owner k) → Makes Pipe r old new (8 * many)

-- the unit of an offer
abbrev pub unit_of : (nodes : List Node) (chosen : ℕ) → ExecOffer → PipeUnit
unit_of nodes c o = record { entry = o.by; chosen = c; ports = trees_of nodes (exec_ports o.ports) }
