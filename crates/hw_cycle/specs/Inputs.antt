-- Lists of inputs and of outputs: one number for each port of the kind, in the order of the ports.
use Rattle.std.specs.Prelude.{◌≡◌, ℕ, zero, suc, ◌+◌, ◌<◌, cond, false, List, get_or}
use Rattle.core_ports.specs.Ports.{is_input}
use Rattle.hw_module.specs.Ports.{port_at}
use Rattle.hw_module.specs.Cycle.{AreInputs}

-- how many input ports come before a port
unfoldable pub inputs_before : ℕ → ℕ
inputs_before zero = 0
inputs_before (suc p) = cond (is_input (port_at p)) (inputs_before p + 1) (inputs_before p)

-- how many output ports come before a port
unfoldable pub outputs_before : ℕ → ℕ
outputs_before zero = 0
outputs_before (suc p) = cond (is_input (port_at p)) (outputs_before p) (outputs_before p + 1)

-- the number of an input port in a list of inputs
abbrev pub ins_of : List ℕ → ℕ → ℕ
ins_of ins p = get_or ins (inputs_before p) 0

-- each input is within its port's width
abbrev pub AreWithin : List ℕ → Type 0
AreWithin ins = AreInputs (ins_of ins)

-- the list has the values of the output ports
abbrev pub AreOutputs : (value : ℕ → ℕ) → List ℕ → Type 0
AreOutputs value outs = (p : ℕ) → p < 30 → is_input (port_at p) ≡ false → get_or outs (outputs_before p) 0 ≡ value p
