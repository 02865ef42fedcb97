-- What the pipeline drives once, as lists of numbers and nets.
use Rattle.std.specs.Prelude.{◌≡◌, ℕ, ◌+◌, ◌<◌, ◌≤◌, Bool, false, true, List, [], ◌∷◌, ◌++◌, length, Option, None, Some}
use Rattle.hw_pool.specs.Nodes.{PoolValue}
use Rattle.hw_expr.specs.declared.net.Net.{Net}
use Rattle.hw_module.specs.declared.rows.Owner.TheVariants.{Pipe}
use Rattle.hw_module.specs.Frame.{Grows}
use Rattle.hw_module.specs.Rights.{Makes, MayDrive, Rights}
use Rattle.hw_module.specs.Rows.{ModuleValue, out_at, reg_at, wire_at}
use Rattle.service_ports.specs.declared.ports.FetchPorts.{FetchPorts}
use Rattle.service_ports.specs.declared.ports.DecoderPorts.{DecoderPorts}
use Rattle.service_ports.specs.declared.ports.RegFilePorts.{RegFilePorts}
use Rattle.service_ports.specs.declared.ports.HazardPorts.{HazardPorts}
use Rattle.service_ports.specs.declared.ports.SystemPorts.{SystemPorts}
use Rattle.plug_part.specs.Owned.{is_among}
use Rattle.plug_build.specs.Fits.{AreApart}
use Rattle.pipe_drive.specs.Drives.{CanDriveAll, CanMoveAll, CanShowAll, HasDrivers, HasNexts, HasOuts, targets}
use Rattle.pipe_build.specs.declared.nets.Offers.{Offers}
use Rattle.pipe_build.specs.declared.nets.PipeNets.{PipeNets}

-- ---- forward wires

abbrev pub own_drives : (wire : ℕ) → PipeNets → List (ℕ × Net)
own_drives w n =
    (w, n.wires.kill) ∷ (w + 1, n.wires.irq) ∷ (w + 2, n.wires.run) ∷ (w + 3, n.wires.ends) ∷ (w + 4, n.wires.retires) ∷ (w + 5, n.wires.traps)
    ∷ (w + 6, n.wires.writes) ∷ (w + 7, n.wires.enters) ∷ []

abbrev pub fetch_drives : FetchPorts → PipeNets → List (ℕ × Net)
fetch_drives p n = (p.take, n.mids.takes) ∷ (p.redirect, n.known.wires.kill) ∷ (p.redirect_pc, n.known.regs.apc) ∷ (p.fence, n.front.fence) ∷ []

abbrev pub decoder_drives : DecoderPorts → PipeNets → List (ℕ × Net)
decoder_drives p n = (p.word, n.known.fetch.word) ∷ []

abbrev pub regfile_drives : RegFilePorts → PipeNets → List (ℕ × Net)
regfile_drives p n = (p.ra, n.front.ra) ∷ (p.rb, n.front.rb) ∷ (p.we, n.tail.enable) ∷ (p.wa, n.tail.leaving.rd) ∷ (p.wd, n.tail.leaving.value) ∷ []

abbrev pub hazard_drives : HazardPorts → PipeNets → List (ℕ × Net)
hazard_drives p n =
    (p.first.writes, n.front.writes) ∷ (p.first.rd, n.front.rd) ∷ (p.first.ready, n.known.units.done) ∷ (p.first.value, n.known.units.value)
    ∷ (p.second.writes, n.tail.second.writes) ∷ (p.second.rd, n.tail.second.rd) ∷ (p.second.ready, n.tail.second.ready) ∷ (p.second.value, n.tail.second.value)
    ∷ (p.third.writes, n.tail.third.writes) ∷ (p.third.rd, n.tail.third.rd) ∷ (p.third.ready, n.tail.third.ready) ∷ (p.third.value, n.tail.third.value)
    ∷ (p.ra, n.front.ra) ∷ (p.rb, n.front.rb) ∷ (p.uses_a, n.known.decoder.uses_a) ∷ (p.uses_b, n.known.decoder.uses_b) ∷ []

abbrev pub system_drives : SystemPorts → PipeNets → List (ℕ × Net)
system_drives p n = (p.event, n.mids.event) ∷ (p.kind, n.event.kind) ∷ (p.pc, n.known.regs.apc) ∷ (p.cause, n.event.cause) ∷ (p.tval, n.event.tval) ∷ []

-- where there is System
abbrev pub system_list : Option SystemPorts → PipeNets → List (ℕ × Net)
system_list None n = []
system_list (Some p) n = system_drives p n

-- the pipeline's own, and the inputs of the services that each core has
abbrev pub wire_drives : (wire : ℕ) → Offers → PipeNets → List (ℕ × Net)
wire_drives w o n = own_drives w n ++ (fetch_drives o.fetch n ++ (decoder_drives o.decoder n ++ (regfile_drives o.regfile n ++ hazard_drives o.hazard n)))

-- ---- registers, one behind the other

abbrev pub reg_list : PipeNets → List Net
reg_list n =
    n.state.apc ∷ n.state.flush ∷ n.mids.fences ∷ n.state.started ∷ n.state.stopped ∷ n.state.valid
    ∷ n.slot.pc ∷ n.slot.word ∷ n.slot.error ∷ n.slot.legal ∷ n.slot.row ∷ n.slot.except ∷ n.slot.writes ∷ n.slot.a ∷ n.slot.b ∷ []

-- ---- outputs of the core

abbrev pub told_drives : PipeNets → List (ℕ × Net)
told_drives n =
    (20, n.mids.event) ∷ (21, n.told.kind) ∷ (22, n.known.regs.apc) ∷ (23, n.told.word) ∷ (24, n.told.rd) ∷ (25, n.told.value) ∷ (26, n.told.cause)
    ∷ (27, n.known.fetch.valid) ∷ (28, n.ends.take) ∷ (29, n.known.fetch.pc) ∷ []

-- the command of the data bus where nothing offers DataBus
abbrev pub bus_drives : (has_bus : Bool) → PipeNets → List (ℕ × Net)
bus_drives true n = []
bus_drives false n = (8, n.ends.bit) ∷ (10, n.ends.bit) ∷ (11, n.ends.word) ∷ (12, n.ends.word) ∷ (13, n.ends.mask) ∷ []

-- ---- all of them

pub record CanRest (d : ModuleValue) (pool : PoolValue) (wire reg : ℕ) (o : Offers) (has_bus : Bool) (n : PipeNets) : Type 0 where
  pub wires : CanDriveAll d pool (wire_drives wire o n)
  pub apart : AreApart (targets (wire_drives wire o n))
  pub system : CanDriveAll d pool (system_list o.system n)
  pub system_apart : AreApart (targets (system_list o.system n))
  pub beside : (k : ℕ) → is_among k (targets (system_list o.system n)) ≡ true → is_among k (targets (wire_drives wire o n)) ≡ false
  pub regs : CanMoveAll d pool reg (reg_list n)
  pub told : CanShowAll d pool (told_drives n)
  pub bus : CanShowAll d pool (bus_drives has_bus n)

pub record HasRest (d : ModuleValue) (wire reg : ℕ) (o : Offers) (has_bus : Bool) (n : PipeNets) : Type 0 where
  pub wires : HasDrivers d (wire_drives wire o n)
  pub system : HasDrivers d (system_list o.system n)
  pub regs : HasNexts d reg (reg_list n)
  pub told : HasOuts d (told_drives n)
  pub bus : HasOuts d (bus_drives has_bus n)

-- nothing else has changed
pub record RestOnly (wire reg : ℕ) (o : Offers) (has_bus : Bool) (n : PipeNets) (old new : ModuleValue) : Type 0 where
  pub grows : Grows old new 69
  pub others : (k : ℕ) → is_among k (targets (wire_drives wire o n)) ≡ false → is_among k (targets (system_list o.system n)) ≡ false → wire_at new.wires k ≡ wire_at old.wires k
  pub below : (k : ℕ) → k < reg → reg_at new.regs k ≡ reg_at old.regs k
  pub above : (k : ℕ) → reg + 15 ≤ k → reg_at new.regs k ≡ reg_at old.regs k
  pub outs : (k : ℕ) → is_among k (targets (told_drives n)) ≡ false → is_among k (targets (bus_drives has_bus n)) ≡ false → out_at new.outs k ≡ out_at old.outs k
  pub count : length new.wires ≡ length old.wires
  pub count_regs : length new.regs ≡ length old.regs
  pub arrays : new.arrays ≡ old.arrays
  pub makes : (r : Rights) → ((k : ℕ) → is_among k (targets (wire_drives wire o n)) ≡ true → MayDrive Pipe r (wire_at old.wires k).owner k)
      → ((k : ℕ) → is_among k (targets (system_list o.system n)) ≡ true → MayDrive Pipe r (wire_at old.wires k).owner k)
      → ((k : ℕ) → is_among k (targets (told_drives n)) ≡ true → r.outs k ≡ true) → ((k : ℕ) → is_among k (targets (bus_drives has_bus n)) ≡ true → r.outs k ≡ true)
      → Makes Pipe r old new 69
