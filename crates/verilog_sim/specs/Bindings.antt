-- Input ports, registers and arrays as names of a circuit.
use Rattle.std.specs.Prelude.{◌≡◌, ℕ, ◌^◌, ◌<◌, ◌≤◌, List, [], ◌∷◌}
use Rattle.verilog_mean.specs.Plain.{Item, Port, Plain}
use Rattle.verilog_mean.specs.Plain.Item.{Wire, Reg, Array, Assign, Next, Reset, Write}
use Rattle.verilog_mean.specs.Plain.Port.{In, Out}
use Rattle.verilog_mean.specs.Cycle.{State, width_in, source_of}
use Rattle.verilog_mean.specs.Cycle.Source.{Held, Outside}
use Rattle.verilog_flat.specs.declared.node.Node.{Node}
use Rattle.verilog_resolve.specs.declared.names.Place.{Place}
use Rattle.verilog_resolve.specs.Wires.{AllMatch, with_array, with_net}
use Rattle.verilog_sim.specs.Rooms.{GivenFrom, HeldFrom}

-- ---- widths of at most 64 bits, and numbers of cells that fit in 32

abbrev pub IsNarrowPort : Port → Type 0
IsNarrowPort (In width name) = width ≤ 64
IsNarrowPort (Out width name) = Unit {0}

abbrev pub AreNarrowPorts : List Port → Type 0
AreNarrowPorts [] = Unit {0}
AreNarrowPorts (p ∷ ps) = IsNarrowPort p × AreNarrowPorts ps

abbrev pub IsSized : Item → Type 0
IsSized (Reg width name) = width ≤ 64
IsSized (Array width name cells) = (width ≤ 64) × (cells < 2 ^ 32)
IsSized (Wire width name driver) = Unit {0}
IsSized (Assign target driver) = Unit {0}
IsSized (Next target driver) = Unit {0}
IsSized (Reset target start driver) = Unit {0}
IsSized (Write enable target index driver) = Unit {0}

abbrev pub AreSized : List Item → Type 0
AreSized [] = Unit {0}
AreSized (i ∷ is) = IsSized i × AreSized is

-- ---- what a module knows of the names

abbrev pub IsInput : Plain → Port → Type 0
IsInput m (In width name) = (width_in m name ≡ width) × (source_of m name ≡ Outside)
IsInput m (Out width name) = Unit {0}

abbrev pub AreInputs : Plain → List Port → Type 0
AreInputs m [] = Unit {0}
AreInputs m (p ∷ ps) = IsInput m p × AreInputs m ps

abbrev pub IsHeld : Plain → Item → Type 0
IsHeld m (Reg width name) = (width_in m name ≡ width) × (source_of m name ≡ Held)
IsHeld m (Array width name cells) = width_in m name ≡ width
IsHeld m (Wire width name driver) = Unit {0}
IsHeld m (Assign target driver) = Unit {0}
IsHeld m (Next target driver) = Unit {0}
IsHeld m (Reset target start driver) = Unit {0}
IsHeld m (Write enable target index driver) = Unit {0}

abbrev pub AreHeld : Plain → List Item → Type 0
AreHeld m [] = Unit {0}
AreHeld m (i ∷ is) = IsHeld m i × AreHeld m is

-- ---- what is known of names once these are bound

abbrev pub with_port : (k : List ℕ → Place) → Port → List ℕ → Place
with_port k (In width name) = with_net k name width
with_port k (Out width name) = k

abbrev pub with_ports : (k : List ℕ → Place) → List Port → List ℕ → Place
with_ports k [] = k
with_ports k (p ∷ ps) = with_ports (with_port k p) ps

abbrev pub with_item : (k : List ℕ → Place) → Item → List ℕ → Place
with_item k (Reg width name) = with_net k name width
with_item k (Array width name cells) = with_array k name width
with_item k (Wire width name driver) = k
with_item k (Assign target driver) = k
with_item k (Next target driver) = k
with_item k (Reset target start driver) = k
with_item k (Write enable target index driver) = k

abbrev pub with_items : (k : List ℕ → Place) → List Item → List ℕ → Place
with_items k [] = k
with_items k (i ∷ is) = with_items (with_item k i) is

-- ---- With some bound but for the rest, the nodes are ms and not ns, and the places q and not p: values match again.

abbrev pub BindsPorts : (ports rest : List Port) → (at : ℕ) → (ns ms : List Node) → (p q : List ℕ → Place) → Type 0
BindsPorts ports rest at ns ms p q = (m : Plain) (s : State) (inputs : List ℕ → ℕ) (regs cells ins : List ℕ)
    → AreInputs m ports → GivenFrom inputs ins 0 ports → AllMatch m s inputs regs cells ins ns p
    → AreInputs m rest × (GivenFrom inputs ins at rest × AllMatch m s inputs regs cells ins ms q)

abbrev pub BindsItems : (items rest : List Item) → (reg base : ℕ) → (ns ms : List Node) → (p q : List ℕ → Place) → Type 0
BindsItems items rest reg base ns ms p q = (m : Plain) (s : State) (inputs : List ℕ → ℕ) (regs cells ins : List ℕ)
    → AreHeld m items → HeldFrom s regs cells 0 0 items → AllMatch m s inputs regs cells ins ns p
    → AreHeld m rest × (HeldFrom s regs cells reg base rest × AllMatch m s inputs regs cells ins ms q)
