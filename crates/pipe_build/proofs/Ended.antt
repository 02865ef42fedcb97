-- The pipeline's phase as it ends: what was driven earlier is driven still.
use Rattle.std.proofs.Common.{◌≡◌, ◌∙◌, ℕ, ◌+◌, ◌*◌, ◌-◌, ◌<◌, ◌≤◌, List, [], ◌∷◌, length, get_or, arith, ap, refl, subst, sym, Bool, Option, None, Some, is_some}
use Rattle.std.specs.Prelude.{All}
use Rattle.hw_pool.specs.Nodes.{PoolValue}
use Rattle.hw_expr.specs.declared.net.Net.{Net}
use Rattle.hw_module.specs.declared.rows.RegRow.{RegRow}
use Rattle.hw_module.specs.declared.rows.WireRow.{WireRow}
use Rattle.hw_module.specs.Frame.{Grows}
use Rattle.hw_module.specs.Rows.{ModuleValue, reg_at}
use Rattle.hw_pool.specs.declared.node.Node.{Node}
use Rattle.service_reg.specs.declared.service.Service.{Service}
use Rattle.service_reg.specs.declared.service.Service.TheVariants.{DataBus}
use Rattle.service_ports.specs.declared.ports.DataBusPorts.{DataBusPorts}
use Rattle.service_ports.specs.declared.ports.ExecOffer.{ExecOffer}
use Rattle.service_ports.specs.declared.ports.SystemPorts.{SystemPorts}
use Rattle.service_ports.specs.Ports.{Ports, databus_ports, decoder_ports, fetch_ports, hazard_ports, regfile_ports, system_ports}
use Rattle.service_ports.specs.Registry.{RegistryValue, single}
use Rattle.plug_law.specs.Pipeline.{Shape}
use Rattle.plug_part.specs.Part.{PortTrees}
use Rattle.plug_build.specs.World.{World}
use Rattle.plug_build.proofs.Frame.{some_eq}
use Rattle.part_laws.specs.Joined.{Services, ports_in}
use Rattle.part_laws.specs.Registered.{entry_of, offered_trees, services_of, trees_or_none}
use Rattle.service_ports.specs.Registry as registry
use Rattle.pipe_drive.specs.Drives.{CanDriveAll, HasDrivers, HasNexts, HasOuts, MovesOnly}
use Rattle.pipe_drive.specs.Rows.{IsMade, own_shapes, plain}
use Rattle.pipe_drive.specs.Rights.{is_exec_input}
use Rattle.pipe_drive.proofs.Found.{reg_found}
use Rattle.pipe_steps.specs.Drives.{DrivesUnit, PipeDrives, TailHas}
use Rattle.pipe_steps.specs.Numbers.{tail_from, things_from, units_of}
use Rattle.pipe_steps.specs.Values.{made_late_in}
use Rattle.pipe_steps.proofs.Fit.{tail_is_long}
use Rattle.pipe_build.specs.declared.nets.Offers.{Offers}
use Rattle.pipe_build.specs.declared.nets.PipeNets.{PipeNets}
use Rattle.pipe_build.specs.Late.{ArePlaces}
use Rattle.pipe_build.specs.Rest.{CanRest, HasRest, bus_drives, reg_list, system_list, told_drives, wire_drives}
use Rattle.pipe_build.specs.Ready.{AreOffered}
use Rattle.pipe_build.specs.RestAt.{AllThere, BeforeRest, HaveInputs, RestAt, RestDriven}
use Rattle.pipe_build.specs.Undriven.{UnitsOnly}

pub some_offered : {A : Type 0} (f : A → Ports) (o : Option (ℕ × A)) → is_some (registry.offered_as f o) ≡ is_some o
some_offered f None = refl
some_offered f (Some x) = refl

-- places whose registers stay
pub places_stay : (old new : ModuleValue) (first places : ℕ) → length new.regs ≡ length old.regs → ((k : ℕ) → first ≤ k → reg_at new.regs k ≡ reg_at old.regs k) → ArePlaces old first places → ArePlaces new first places
places_stay old new first places count same h k l =
    let x = h k l in
    let there = x.0 in (
      omega arith,
      record {
        writes = same (first + 3 * k) (omega arith) ∙ x.1.writes;
        rd = same (first + 3 * k + 1) (omega arith) ∙ x.1.rd;
        value = same (first + 3 * k + 2) (omega arith) ∙ x.1.value;
      },
    )

-- registers below a number stay
nexts_below : (old new : ModuleValue) (first : ℕ) → ((k : ℕ) → k < first → reg_at new.regs k ≡ reg_at old.regs k) → (k : ℕ) (ns : List Net) → k + length ns ≤ first → HasNexts old k ns → HasNexts new k ns
nexts_below old new first same k [] l h = tt
nexts_below old new first same k (n ∷ ns) l h = (ap (λ (r : RegRow). r.next) (same k (omega arith)) ∙ h.0, nexts_below old new first same (k + 1) ns (omega arith) h.1)

all_there : (d d' : ModuleValue) (pool : PoolValue) (xs : List (ℕ × Net)) → length d.wires ≤ length d'.wires → CanDriveAll d pool xs → AllThere d' xs
all_there d d' pool [] more h = tt
all_there d d' pool (x ∷ xs) more h = (let l = h.0.there in omega arith, all_there d d' pool xs more h.1)

-- all that is driven once, behind the places
module _ (wire reg reset_pc units many : ℕ) (o : Offers) (has_bus : Bool) (n : PipeNets) (m2 m3 m4 : ModuleValue) (pool : PoolValue) (can : CanRest m2 pool wire reg o has_bus n) (has : HasRest m3 wire reg o has_bus n)
    (moves : MovesOnly (reg + 15 + units) m3 m4 many) (more : length m2.wires ≤ length m4.wires) where
  has_last : HasRest m4 wire reg o has_bus n
  has_last = record {
    wires = subst (λ (ws : List WireRow). HasDrivers (record m3 { wires = ws }) (wire_drives wire o n)) (sym moves.wires) has.wires;
    system = subst (λ (ws : List WireRow). HasDrivers (record m3 { wires = ws }) (system_list o.system n)) (sym moves.wires) has.system;
    regs = nexts_below m3 m4 (reg + 15 + units) moves.below reg (reg_list n) (omega arith) has.regs;
    told = subst (λ (os : List (Option Net)). HasOuts (record m3 { outs = os }) (told_drives n)) (sym moves.outs) has.told;
    bus = subst (λ (os : List (Option Net)). HasOuts (record m3 { outs = os }) (bus_drives has_bus n)) (sym moves.outs) has.bus;
  }

  pub rest_at : (m0 m1 : ModuleValue) (units' places total : ℕ) → IsMade m0 m1 reset_pc units' places → reg ≡ length m0.regs → Grows m1 m4 total → RestAt m4 wire reg reset_pc o has_bus n
  rest_at m0 m1 units' places total made is grows = record {
    has = has_last;
    there = all_there m2 m4 pool (wire_drives wire o n) more can.wires;
    system_there = all_there m2 m4 pool (system_list o.system n) more can.system;
    rows = λ j l.
        let row = reg_found made j l in
        let e : length m0.regs + j ≡ reg + j = omega arith in
        let stays = grows.regs (length m0.regs + j) row.0 in
        record {
          there = let a = row.0 in let b = grows.more_regs in omega arith;
          wide = subst (λ (k : ℕ). (reg_at m4.regs k).width ≡ (get_or (own_shapes reset_pc) j (plain 1)).0) e (stays.width ∙ ap (λ (r : RegRow). r.width) row.1);
          reset = subst (λ (k : ℕ). (reg_at m4.regs k).reset ≡ (get_or (own_shapes reset_pc) j (plain 1)).1) e (stays.reset ∙ ap (λ (r : RegRow). r.reset) row.1);
        };
  }

-- ---- what holds behind the units and behind all

-- one offer of Exec is as good as an equal one
pub units_of_all : {m1 m2 : ModuleValue} {many : ℕ} (first base : ℕ) (es os : List ExecOffer) → es ≡ os → first ≡ base → UnitsOnly (is_exec_input es) (first + 15) many m1 m2 → UnitsOnly (is_exec_input os) (base + 15) many m1 m2
units_of_all {m1} {m2} {many} first base es os same at h =
    subst (λ (b : ℕ). UnitsOnly (is_exec_input os) (b + 15) many m1 m2) at (subst (λ (xs : List ExecOffer). UnitsOnly (is_exec_input xs) (first + 15) many m1 m2) same h)

pub before_at : {w : World} {a : ModuleValue} {reset_pc : ℕ} {o : Offers} {has_bus : Bool} (wire reg wire' reg' : ℕ) → wire' ≡ wire → reg' ≡ reg → BeforeRest w a wire reg reset_pc o has_bus → BeforeRest w a wire' reg' reset_pc o has_bus
before_at {w} {a} {reset_pc} {o} {has_bus} wire reg wire' reg' e f h =
    subst (λ (x : ℕ). BeforeRest w a x reg' reset_pc o has_bus) (sym e) (subst (λ (x : ℕ). BeforeRest w a wire x reset_pc o has_bus) (sym f) h)

-- the services of the registry have the inputs that were offered
module _ (takes : ℕ → Service → Bool) (nodes : List Node) (reg : RegistryValue) (o : Offers) (offered : AreOffered reg o) where
  system_inputs : (q : Option (ℕ × SystemPorts)) (y : PortTrees) → ports_in (offered_trees nodes (registry.offered_as system_ports q)) ≡ Some y
      → (z : SystemPorts) × (registry.ports_in q ≡ Some z) × (y.inputs ≡ (system_ports z).inputs)
  system_inputs None y e = absurd (let n : ◌≡◌ {A = Option PortTrees} None (Some y) = e in cc)
  system_inputs (Some q) y e = (q.1, refl, sym (ap (λ (t : PortTrees). t.inputs) (some_eq e)))

  pub inputs_are : HaveInputs (services_of takes nodes reg) o
  inputs_are = record {
    fetch = ap (λ q. (trees_or_none nodes (registry.offered_as fetch_ports q)).1.inputs) offered.fetch.1;
    decoder = ap (λ q. (trees_or_none nodes (registry.offered_as decoder_ports q)).1.inputs) offered.decoder.1;
    regs = ap (λ q. (trees_or_none nodes (registry.offered_as regfile_ports q)).1.inputs) offered.regfile.1;
    hazard = ap (λ q. (trees_or_none nodes (registry.offered_as hazard_ports q)).1.inputs) offered.hazard.1;
    system = λ y e. let z = system_inputs reg.system y e in (z.0, offered.system ∙ z.1, z.2);
  }

-- who holds the data bus
pub holds_is : (reg : RegistryValue) (has_bus : Bool) → has_bus ≡ is_some (registry.ports_in reg.databus) → is_some (entry_of (single reg DataBus)) ≡ has_bus
holds_is reg has_bus e = go reg.databus e
  where
    go : (q : Option (ℕ × DataBusPorts)) → has_bus ≡ is_some (registry.ports_in q) → is_some (entry_of (registry.offered_as databus_ports q)) ≡ has_bus
    go None e = sym e
    go (Some x) e = sym e

pub bus_is : (reg : RegistryValue) (has_bus : Bool) → has_bus ≡ is_some (registry.ports_in reg.databus) → is_some reg.databus ≡ has_bus
bus_is reg has_bus e = go reg.databus e
  where
    go : (q : Option (ℕ × DataBusPorts)) → has_bus ≡ is_some (registry.ports_in q) → is_some q ≡ has_bus
    go None e = sym e
    go (Some x) e = sym e

pub system_there : (nodes : List Node) (q : Option (ℕ × SystemPorts)) → is_some (registry.offered_as system_ports q) ≡ is_some (offered_trees nodes (registry.offered_as system_ports q))
system_there nodes None = refl
system_there nodes (Some x) = refl

-- all that is driven
pub all_drive : (m : ModuleValue) (nodes : List Node) (wire reg : ℕ) (es : List ExecOffer) (x : Services) (sh : Shape) → 2 ≤ sh.stages
    → RestDriven m nodes (things_from nodes wire reg es x sh) → TailHas m nodes (made_late_in (things_from nodes wire reg es x sh)) (tail_from (reg + 15 + length es) (sh.stages - 2))
    → All (DrivesUnit m nodes (things_from nodes wire reg es x sh)) (units_of nodes (reg + 15) es) → PipeDrives m nodes (things_from nodes wire reg es x sh)
all_drive m nodes wire reg es x sh least rest tail units = record {
  wires = rest.wires;
  regs = rest.regs;
  slot = rest.slot;
  tail = tail;
  long = let e = tail_is_long (reg + 15 + length es) (sh.stages - 2) in omega arith;
  fetch = rest.fetch;
  decode = rest.decode;
  hazard = rest.hazard;
  units = units;
  system = rest.system;
  outs = rest.outs;
  no_bus = rest.no_bus;
}
