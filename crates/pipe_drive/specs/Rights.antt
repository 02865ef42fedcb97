-- What is left for the pipeline to drive: the inputs of all services but Predict, and the outputs of the core that are no entry's.
use Rattle.std.specs.Prelude.{◌≡◌, ℕ, ◌<◌, ◌≤◌, Bool, false, true, not, ◌&&◌, ◌||◌, List, [], ◌∷◌, length, is_some, None}
use Rattle.core_ports.specs.Ports.{is_input}
use Rattle.hw_module.specs.Ports.{port_at}
use Rattle.hw_module.specs.Rights.{Rights}
use Rattle.hw_module.specs.Rows.{ModuleValue, wire_at, reg_at, array_at, out_at}
use Rattle.service_reg.specs.declared.service.Service.TheVariants.{Fetch, Decoder, RegFile, Hazard, DataBus, System}
use Rattle.service_ports.specs.declared.ports.ExecOffer.{ExecOffer}
use Rattle.service_ports.specs.Ports.{exec_ports}
use Rattle.service_ports.specs.Registry.{RegistryValue, single}
use Rattle.plug_part.specs.Owned.{is_among, is_input_of, is_own_input, is_predict_input, is_fetch_out, is_bus_out, is_out_of, ports_of}

abbrev pub is_exec_input : List ExecOffer → (wire : ℕ) → Bool
is_exec_input [] k = false
is_exec_input (o ∷ os) k = is_among k (exec_ports o.ports).inputs || is_exec_input os k

abbrev pub is_left_input : RegistryValue → (wire : ℕ) → Bool
is_left_input r k =
    is_input_of (ports_of (single r Fetch)) k || (is_input_of (ports_of (single r Decoder)) k || (is_input_of (ports_of (single r RegFile)) k
    || (is_input_of (ports_of (single r Hazard)) k || (is_input_of (ports_of (single r System)) k || is_exec_input r.execs k))))

abbrev pub is_left_out : RegistryValue → (port : ℕ) → Bool
is_left_out r p = not ((is_some (single r Fetch) && is_fetch_out p) || (is_some (single r DataBus) && is_bus_out p))

-- what the pipeline may drive besides its own
unfoldable pub pipe_rights : RegistryValue → Rights
pipe_rights r = record { wires = is_left_input r; locked = λ k. false; outs = is_left_out r }

-- entries have driven all that is theirs: what has no driver is an input of a service, and no input of Predict
pub record AreDone (r : RegistryValue) (d : ModuleValue) : Type 0 where
  pub wires : (k : ℕ) → k < length d.wires → (wire_at d.wires k).driver ≡ None → (entry : ℕ) × (is_own_input r entry k ≡ true)
  pub predict : (k : ℕ) → is_predict_input r k ≡ true → (wire_at d.wires k).driver ≡ None → ⊥
  pub regs : (k : ℕ) → k < length d.regs → (reg_at d.regs k).next ≡ None → ⊥
  pub arrays : (k : ℕ) → k < length d.arrays → (array_at d.arrays k).write ≡ None → ⊥
  pub outs : (entry p : ℕ) → is_out_of r entry p ≡ true → out_at d.outs p ≡ None → ⊥

-- the pipeline has driven what is left, and what it made
pub record DrivesLeft (r : RegistryValue) (old new : ModuleValue) : Type 0 where
  pub inputs : (k : ℕ) → is_left_input r k ≡ true → (wire_at new.wires k).driver ≡ None → ⊥
  pub outs : (p : ℕ) → p < 30 → is_input (port_at p) ≡ false → is_left_out r p ≡ true → out_at new.outs p ≡ None → ⊥
  pub wires : (k : ℕ) → length old.wires ≤ k → k < length new.wires → (wire_at new.wires k).driver ≡ None → ⊥
  pub regs : (k : ℕ) → length old.regs ≤ k → k < length new.regs → (reg_at new.regs k).next ≡ None → ⊥
  pub arrays : new.arrays ≡ old.arrays
