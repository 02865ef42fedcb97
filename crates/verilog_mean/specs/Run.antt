-- Runs of a module: inputs by cycle, what it holds by cycle, and the value of each name in each cycle.
use Rattle.std.specs.Prelude.{◌≡◌, ℕ, zero, suc, ◌^◌, ◌<◌, List, [], ◌∷◌, length, All}
use Rattle.core_ports.specs.Trace.{Trace}
use Rattle.verilog_mean.specs.Plain.{Item, Port, Plain}
use Rattle.verilog_mean.specs.Plain.Item.{Wire, Reg, Array, Assign, Next, Reset, Write}
use Rattle.verilog_mean.specs.Plain.Port.{In, Out}
use Rattle.verilog_mean.specs.Cycle.{State, value, next, reset_name}

-- the inputs of each cycle, by name
abbrev pub Inputs : Type 0
Inputs = ℕ → List ℕ → ℕ

-- what the registers and the arrays hold as a cycle begins
unfoldable pub state_at : Plain → State → Inputs → ℕ → State
state_at m s ins zero = s
state_at m s ins (suc k) = next m (state_at m s ins k) (ins k)

-- the run from some contents on some inputs
unfoldable pub trace_of : Plain → State → Inputs → Trace
trace_of m s ins k x = value m (state_at m s ins k) (ins k) x

-- each input is below 2 ^ width
abbrev pub PortsFit : List Port → (List ℕ → ℕ) → Type 0
PortsFit [] f = Unit {0}
PortsFit (In width name ∷ rest) f = (f name < 2 ^ width) × PortsFit rest f
PortsFit (Out width name ∷ rest) f = PortsFit rest f

-- the inputs that a run may have: within their widths, with `reset` 1 in cycle 0 and 0 later
pub record IsInput (m : Plain) (ins : Inputs) : Type 0 where
  pub fits : (k : ℕ) → PortsFit m.ports (ins k)
  pub first : ins 0 reset_name ≡ 1
  pub later : (k : ℕ) → ins (suc k) reset_name ≡ 0

-- the start contents that a run may have: any numbers within the widths, and as many in an array as it has cells
abbrev pub IsStart : List Item → State → Type 0
IsStart [] s = Unit {0}
IsStart (Wire width name driver ∷ rest) s = IsStart rest s
IsStart (Reg width name ∷ rest) s = (s.regs name < 2 ^ width) × IsStart rest s
IsStart (Array width name cells ∷ rest) s = (length (s.cells name) ≡ cells) × (All (λ c. c < 2 ^ width) (s.cells name) × IsStart rest s)
IsStart (Assign target driver ∷ rest) s = IsStart rest s
IsStart (Next target driver ∷ rest) s = IsStart rest s
IsStart (Reset target start driver ∷ rest) s = IsStart rest s
IsStart (Write enable target index driver ∷ rest) s = IsStart rest s

-- all registers and cells of the module hold 0
abbrev pub AllZero : List Item → State → Type 0
AllZero [] s = Unit {0}
AllZero (Wire width name driver ∷ rest) s = AllZero rest s
AllZero (Reg width name ∷ rest) s = (s.regs name ≡ 0) × AllZero rest s
AllZero (Array width name cells ∷ rest) s = All (λ c. c ≡ 0) (s.cells name) × AllZero rest s
AllZero (Assign target driver ∷ rest) s = AllZero rest s
AllZero (Next target driver ∷ rest) s = AllZero rest s
AllZero (Reset target start driver ∷ rest) s = AllZero rest s
AllZero (Write enable target index driver ∷ rest) s = AllZero rest s
