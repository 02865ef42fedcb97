-- The drivers of a module in order, and the values that their nodes have.
use Rattle.std.specs.Prelude.{◌≡◌, ℕ, cond, List, [], ◌∷◌}
use Rattle.core_words.specs.Names.{same_name}
use Rattle.verilog_mean.specs.Plain.{Plain}
use Rattle.verilog_mean.specs.Cycle.{State, width_in, width_of, source_of, value}
use Rattle.verilog_mean.specs.Cycle.Source.{Driven}
use Rattle.verilog_mean.specs.Erase.{plain}
use Rattle.verilog_mean.specs.Order.{IsRanked}
use Rattle.verilog_flat.specs.declared.node.Node.{Node}
use Rattle.verilog_resolve.specs.declared.driver.WireDriver.{WireDriver}
use Rattle.verilog_resolve.specs.declared.names.Place.{Place}
use Rattle.verilog_resolve.specs.declared.names.Place.TheVariants.{Absent, Net, Array}
use Rattle.verilog_resolve.specs.declared.names.Names.{Names}
use Rattle.verilog_resolve.specs.Names.{places}
use Rattle.verilog_resolve.specs.Fine.{IsFine, wide}
use Rattle.verilog_resolve.specs.Means.{Matches}

-- ---- what is known of names: kinds and widths, whichever nodes and cells have their values

abbrev pub bare : Place → Place
bare Absent = Absent
bare (Net node width) = Net 0 width
bare (Array base size width) = Array 0 0 width

abbrev pub known : Names → List ℕ → Place
known names = λ x. bare (places names x)

-- what is known once x is a net of a width
abbrev pub with_net : (k : List ℕ → Place) (x : List ℕ) (width : ℕ) → List ℕ → Place
with_net k x width = λ y. cond (same_name x y) (Net 0 width) (k y)

-- what is known once x is an array of a width
abbrev pub with_array : (k : List ℕ → Place) (x : List ℕ) (width : ℕ) → List ℕ → Place
with_array k x width = λ y. cond (same_name x y) (Array 0 0 width) (k y)

abbrev pub with_driver : (k : List ℕ → Place) → WireDriver → List ℕ → Place
with_driver k d = with_net k d.name.now (wide k (plain d.value.now))

abbrev pub with_nets : (k : List ℕ → Place) → List WireDriver → List ℕ → Place
with_nets k [] = k
with_nets k (d ∷ ds) = with_nets (with_driver k d) ds

-- each driver may become nodes once those before it have
abbrev pub AreOrdered : (k : List ℕ → Place) → List WireDriver → Type 0
AreOrdered k [] = Unit {0}
AreOrdered k (d ∷ ds) = IsFine k (plain d.value.now) × AreOrdered (with_driver k d) ds

-- ---- the module that has these drivers

-- a module drives each name so, and a name is as wide as its driver
abbrev pub AreDriven : Plain → List WireDriver → Type 0
AreDriven m [] = Unit {0}
AreDriven m (d ∷ ds) =
    (source_of m d.name.now ≡ Driven (plain d.value.now)) × ((width_in m d.name.now ≡ width_of (width_in m) (plain d.value.now)) × AreDriven m ds)

-- each place has the value that its name has in the module's cycle
abbrev pub AllMatch : (m : Plain) (s : State) (ins : List ℕ → ℕ) (regs cells inputs : List ℕ) → List Node → (p : List ℕ → Place) → Type 0
AllMatch m s ins regs cells inputs ns p = (x : List ℕ) → Matches regs cells inputs (width_in m) s.cells (value m s ins) ns x (p x)

-- With the drivers bound but for the rest, the nodes are ms and not ns, and the places q and not p: values match again.
abbrev pub Binds : (drivers rest : List WireDriver) (ns ms : List Node) (p q : List ℕ → Place) → Type 0
Binds drivers rest ns ms p q = (m : Plain) (rank : List ℕ → ℕ) → IsRanked m rank → AreDriven m drivers
    → (s : State) (ins : List ℕ → ℕ) (regs cells inputs : List ℕ)
    → AllMatch m s ins regs cells inputs ns p → AreDriven m rest × AllMatch m s ins regs cells inputs ms q
