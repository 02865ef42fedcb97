-- What the pipeline reads and drives, by number: its own registers and forward wires, and the ports of all services.
use Rattle.std.specs.Prelude.{◌≡◌, ℕ, cond, eqb, List, [], ◌∷◌, map, All, is_some}
use Rattle.hw_pool.specs.declared.node.Node.{Node}
use Rattle.service_ports.specs.declared.ports.ExecOffer.{ExecOffer}
use Rattle.service_ports.specs.Ports.{exec_ports}
use Rattle.plug_law.specs.Pipeline.{Shape}
use Rattle.plug_part.specs.Part.{PortTrees}
use Rattle.plug_part.specs.Named.{trees_of}
use Rattle.part_laws.specs.Joined.{Services}
use Rattle.part_laws.specs.Pipes.{PipeOwn}

-- the pipeline's own forward wires, each of one bit
pub record PipeWires : Type 0 where
  pub kill : ℕ
  pub irq : ℕ
  pub run : ℕ
  pub ends : ℕ
  pub retires : ℕ
  pub traps : ℕ
  pub writes : ℕ
  pub enters : ℕ

-- an entry that offers Exec, the register that says whether it is chosen, and its ports
pub record PipeUnit : Type 0 where
  pub entry : ℕ
  pub chosen : ℕ
  pub ports : PortTrees

-- the units are in the order of the registry
pub record PipeThings : Type 0 where
  pub own : PipeOwn
  pub wires : PipeWires
  pub units : List PipeUnit
  pub services : Services
  pub shape : Shape

-- the units are the entries of the shape, with their registers and ports, and System is there where the shape says it
pub record FitTogether (p : PipeThings) : Type 0 where
  pub entries : p.shape.entries ≡ map (λ u. u.entry) p.units
  pub chosen : All (λ u. p.own.chosen u.entry ≡ u.chosen) p.units
  pub ports : All (λ u. p.services.exec u.entry ≡ u.ports) p.units
  pub system : p.shape.system ≡ is_some p.services.system

-- the units are those of the offers of Exec, one by one
abbrev pub AreUnitsOf : List Node → List ExecOffer → List PipeUnit → Type 0
AreUnitsOf nodes [] [] = Unit {0}
AreUnitsOf nodes [] (u ∷ us) = ⊥
AreUnitsOf nodes (o ∷ os) [] = ⊥
AreUnitsOf nodes (o ∷ os) (u ∷ us) = (u.entry ≡ o.by) × (u.ports ≡ trees_of nodes (exec_ports o.ports)) × AreUnitsOf nodes os us

-- the register of an entry's unit
abbrev pub chosen_among : List PipeUnit → (entry : ℕ) → ℕ
chosen_among [] k = 0
chosen_among (u ∷ us) k = cond (eqb u.entry k) u.chosen (chosen_among us k)
